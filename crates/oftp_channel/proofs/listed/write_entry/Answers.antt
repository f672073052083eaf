use Rattle.std.proofs.Common.{◌≡◌, ℕ, List, [], ◌∷◌, subst}
use Rattle.oftp_io.specs.Ports.{Sent}
use Rattle.oftp_channel.specs.Asked.{number_word}
use Rattle.oftp_channel.specs.Listed.{entry_words}
use Rattle.oftp_channel.specs.Requests.{spelled_request}
use Rattle.oftp_channel.proofs.listed.write_entry.Goals as goal

pub returns-then-words_fit-clause-sent : goal.returns-then-words_fit-clause-sent
returns-then-words_fit-clause-sent g c = λ request.
    let file = c.args.file.now in
    let words : List (List ℕ) = number_word file.no ∷ c.as_bytes.result.now ∷ c.as_bytes-2.result.now ∷ c.as_bytes-3.result.now ∷ c.as_bytes-4.result.now ∷ [] in
    let same : words ≡ entry_words file = cc (c.as_bytes.ensures.value, c.as_bytes-2.ensures.value, c.as_bytes-3.ensures.value, c.as_bytes-4.ensures.value) in
    subst (λ (z : List (List ℕ)). Sent g.W.Write.contents c.args.writer.now c.write_words.new.writer (spelled_request z) c.write_words.result) same c.write_words.ensures
