use Rattle.std.proofs.Common.{◌≡◌, ◌∙◌, ◌+◌, ◌-◌, ◌≤◌, ap, ap₂, sym, subst, arith, length, length-drop, take, drop, List, ℕ}
use Rattle.std.proofs.lemmas.List.{drop-drop, take_all}
use Rattle.oftp_record.specs.Ahead.{ahead_in}
use Rattle.oftp_record.specs.Entries.{noted}
use Rattle.oftp_record.specs.Next.{ArePassed, BeginsEntry, passed_noted}
use Rattle.oftp_record.specs.Streams.{Streamed}
use Rattle.oftp_record.specs.declared.eight_read.PassedEntry.{PassedEntry}
use Rattle.oftp_record.specs.declared.chain.TheConstants.{DIGEST_LEN}
use Rattle.oftp_record.specs.declared.header.TheConstants.{HEADER_LEN}
use Rattle.oftp_record.proofs.PassedLemmas.{passed_begins}
use Rattle.oftp_record.proofs.stream.RecordStream.look.Goals as goal

-- what isn't told is the end of the octets
all_behind : (items octets : List ℕ) (at : ℕ) → octets ≡ items → take (length octets - at) (drop at octets) ≡ drop at items
all_behind items octets at same = take_all (length octets - at) (drop at octets) (omega (arith, length-drop at octets)) ∙ ap (drop at) same

pub returns-in-Whole-clause-told : goal.returns-in-Whole-clause-told
returns-in-Whole-clause-told c =
    let stored = c.in-Whole.stored in
    let before = c.self.inside.digest.0 in
    let at = c.self.inside.at in
    let octets = c.deref.result.now in
    let items = c.self.inside.octets.items in
    let behind = all_behind items octets at c.deref.ensures.value in
    let passed = subst (λ (z : List ℕ). ArePassed before z (ahead_in c.self.inside.ahead)) (sym behind) c.self.invariant.passed in
    let begins = subst (λ (z : List ℕ). BeginsEntry before z (noted stored.entry) stored.length stored.digest.0) behind (c.in-Whole.ensures.next passed) in
    let p : PassedEntry = record { kind = stored.entry.kind; moment = stored.entry.moment; length = stored.length; digest = stored.digest } in
    subst (λ (v : Streamed). BeginsEntry v.digest v.rest (passed_noted v.rest p) stored.length stored.digest.0) c.self.view_is
    (passed_begins before (drop at items) (noted stored.entry) stored.length stored.digest.0 begins)

pub returns-in-Whole-clause-stands : goal.returns-in-Whole-clause-stands
returns-in-Whole-clause-stands c =
    let stored = c.in-Whole.stored in
    let at = c.self.inside.at in
    let items = c.self.inside.octets.items in
    let rest : drop at items ≡ c.args.self.now.rest = ap (λ (v : Streamed). v.rest) c.self.view_is in
    let count : at + stored.length - DIGEST_LEN - (at + HEADER_LEN) ≡ stored.length - HEADER_LEN - DIGEST_LEN = omega arith in
    let content : take (at + stored.length - DIGEST_LEN - (at + HEADER_LEN)) (drop (at + HEADER_LEN) items)
    ≡ take (stored.length - HEADER_LEN - DIGEST_LEN) (drop HEADER_LEN c.args.self.now.rest) =
    ap (λ (n : ℕ). take n (drop (at + HEADER_LEN) items)) count
    ∙ ap (take (stored.length - HEADER_LEN - DIGEST_LEN)) (sym (drop-drop HEADER_LEN at items) ∙ ap (drop HEADER_LEN) rest) in
    let left : drop (at + stored.length) items ≡ drop stored.length c.args.self.now.rest =
    sym (drop-drop stored.length at items) ∙ ap (drop stored.length) rest in
    λ i. record { digest = stored.digest.0; content = content i; rest = left i }
