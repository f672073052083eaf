use Rattle.std.proofs.Common.{◌≡◌, fold, take}
use Rattle.oftp_contents.specs.Books.{next_read, unread}
use Rattle.oftp_contents.proofs.books.parts_of.Given as goal

-- the octets so far were read
abbrev pub invariant-loop-octet : goal.invariant-loop-octet
invariant-loop-octet l = l.reading ≡ fold next_read unread (take l.octet-index l.book)
