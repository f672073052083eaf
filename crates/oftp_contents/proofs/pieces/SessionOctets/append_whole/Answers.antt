use Rattle.std.proofs.Common.{ℕ, List, ◌++◌, ap, ◌∙◌}
use Rattle.oftp_contents.specs.Pieces.{talked}
use Rattle.oftp_record.specs.Entries.{Noted, entry_digest, entry_octets}
use Rattle.oftp_contents.proofs.PieceLemmas.{appended_whole, appends_ok}
use Rattle.oftp_contents.proofs.pieces.SessionOctets.append_whole.Goals as goal

pub returns : goal.returns
returns c =
    let s = talked c.args.self.now in
    let old = c.args.record.now.items in
    let before = c.args.before.now.0 in
    let told : List ℕ → Noted = λ content. record { kind = s.kind; moment = s.moment; content = content } in
    let content = c.as_slice.ensures.value ∙ c.in_ok-content.ensures.written in
    appends_ok s old c.append_entry.new.octets.items before c.in_ok-digest.digest
    (appended_whole s old c.append_entry.new.octets.items before c.in_ok-digest.digest.0
    (c.in_ok-digest.ensures.written ∙ ap (λ z. old ++ entry_octets (told z) before) content)
    (c.in_ok-digest.ensures.digest ∙ ap (λ z. entry_digest (told z) before) content))
