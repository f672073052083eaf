use Rattle.oftp_contents.proofs.BookLemmas.{book_is}
use Rattle.oftp_contents.proofs.laws.book_is_its_parts.Goals as goal

pub returns : goal.returns
returns c = book_is
