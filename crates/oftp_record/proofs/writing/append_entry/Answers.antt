use Rattle.std.proofs.Common.{◌≡◌, ◌+◌, ◌-◌, ◌++◌, List, ℕ, ◌∙◌, ap, arith, drop, length, sym, take}
use Rattle.oftp_record.specs.Entries.{chained, entry_header}
use Rattle.oftp_record.proofs.StoredLemmas.{added, sealed}
use Rattle.oftp_record.proofs.writing.append_entry.Goals as goal

-- the octets that are digested
body : (c : goal.After-append-3) → c.deref.result.now ≡ (c.args.octets.now.items
    ++ entry_header c.args.entry.now.kind c.args.entry.now.moment (length c.args.entry.now.content.now)) ++ c.args.entry.now.content.now
body c =
    let items = c.args.octets.now.items in
    let content = c.args.entry.now.content.now in
    let header = c.as_slice.ensures ∙ c.octets.ensures in
    c.deref.ensures.value ∙ c.append-2.ensures.items ∙ ap (λ (z : List ℕ). z ++ content)
    (c.append.ensures.items ∙ ap (λ (z : List ℕ). z ++ c.as_slice.result.now) c.in_ok-reserve.ensures.items ∙ ap (λ (z : List ℕ). items ++ z) header)

pub returns-clause-digest : goal.returns-clause-digest
returns-clause-digest c =
    let items = c.args.octets.now.items in
    let content = c.args.entry.now.content.now in
    let header = entry_header c.args.entry.now.kind c.args.entry.now.moment (length content) in
    let begin = c.len-begin.result in
    let long : begin + (length header + length content) ≡ length ((items ++ header) ++ content) =
    omega (
      arith,
      c.len-begin.ensures,
      c.append.ensures.len,
      c.append-2.ensures.len,
      c.deref.ensures.len,
      ap (λ (z : List ℕ). length z) (body c),
      ap (λ (z : List ℕ). length z) (c.as_slice.ensures ∙ c.octets.ensures),
    ) in
    sealed items header content c.of-digest.result.0 c.args.before.now.0 begin long
    (c.of-digest.ensures ∙ ap (λ (s : List ℕ). chained (take (length s - begin) (drop begin s)) c.args.before.now.0) (body c))

pub returns-clause-written : goal.returns-clause-written
returns-clause-written c =
    let items = c.args.octets.now.items in
    let content = c.args.entry.now.content.now in
    let header = entry_header c.args.entry.now.kind c.args.entry.now.moment (length content) in
    let digest = c.of-digest.result.0 in
    c.append-3.ensures.items ∙ ap (λ (z : List ℕ). z ++ c.as_slice-2.result.now) (sym c.deref.ensures.value ∙ body c)
    ∙ ap (λ (z : List ℕ). ((items ++ header) ++ content) ++ z) c.as_slice-2.ensures
    ∙ added items header content digest c.args.before.now.0 c.len-begin.result ∙ ap (λ (z : List ℕ). items ++ ((header ++ content) ++ z)) (returns-clause-digest c)
