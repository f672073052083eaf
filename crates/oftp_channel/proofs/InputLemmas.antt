-- One read after another, and the octets that are left.
use Rattle.std.proofs.Common.{◌≡◌, ℕ, ◌+◌, ◌%◌, ◌^◌, ◌⊎◌, inl, inr, List, [], ◌++◌, take, Option, None, Some, Result, Ok, Err, ok_or, IfErr, refl, sym, ap, subst, ◌∙◌}
use Rattle.std.specs.Io.KnownBytes.{Consumes}
use Rattle.std.specs.Result.{IsErrAnd}
use Rattle.oftp_io.specs.Ports.{Gives, GivesNothing, IsDone}
use Rattle.oftp_io.specs.declared.port.Port.{Port}
use Rattle.oftp_io.proofs.Bytes.{consumes_none, consumes_on, keeps_consumes}
use Rattle.oftp_channel.specs.Inputs.{Gave, GaveSome, Leaves, Stopped}
use Rattle.oftp_channel.specs.declared.fault.ReadFault.{ReadFault}
use Rattle.oftp_channel.specs.declared.fault.ReadFault.TheVariants as faults

abbrev pub some : List ℕ → Option (List ℕ)
some xs = Some xs

same : (xs ys : List ℕ) → some xs ≡ some ys → xs ≡ ys
same xs ys e = cc

-- the octets that a reader has left after the first ones
left_over : (a b : Option (List ℕ)) (front heard : List ℕ) → Consumes a b front → a ≡ Some heard
    → (after : List ℕ) × (b ≡ Some after) × (heard ≡ front ++ after)
left_over None b front heard h e = absurd cc
left_over (Some xs) None front heard h e = absurd h
left_over (Some xs) (Some ys) front heard h e = (ys, refl, sym (same xs heard e) ∙ h)

module _ {X : Type 0} (remaining : X → Option (List ℕ)) where
  pub gave_none : (a : Port X) → Gave remaining a a []
  gave_none a = record { bytes = consumes_none (remaining a.inner) []; faults = refl }

  pub gave_on : (a b d : Port X) (xs ys : List ℕ) → Gave remaining a b xs → Gave remaining b d ys → Gave remaining a d (xs ++ ys)
  gave_on a b d xs ys p q = record {
    bytes = consumes_on (remaining a.inner) (remaining b.inner) (remaining d.inner) xs ys p.bytes q.bytes;
    faults = q.faults ∙ p.faults;
  }

  pub gave_read : (a b d : Port X) (xs piece : List ℕ) (n : ℕ) → Gave remaining a b xs → Gives remaining b d piece n → Gave remaining a d (xs ++ take n piece)
  gave_read a b d xs piece n p q = gave_on a b d xs (take n piece) p (record { bytes = q.bytes; faults = q.faults })

  pub stopped_at_end : (a b d : Port X) (xs piece : List ℕ) → Gave remaining a b xs → Gives remaining b d piece 0 → Stopped remaining a d
  stopped_at_end a b d xs piece p q = record {
    octets = xs ++ take 0 piece;
    bytes = consumes_on (remaining a.inner) (remaining b.inner) (remaining d.inner) xs (take 0 piece) p.bytes q.bytes;
    cause = inr (q.end refl);
  }

  once_more : (a b d : Port X) → b.faults ≡ a.faults → d.faults ≡ (b.faults + 1) % 2 ^ 64 → d.faults ≡ (a.faults + 1) % 2 ^ 64
  once_more a b d p q = q ∙ ap (λ (n : ℕ). (n + 1) % 2 ^ 64) p

  pub stopped_by_fault : (a b d : Port X) (xs : List ℕ) → Gave remaining a b xs → GivesNothing remaining b d → Stopped remaining a d
  stopped_by_fault a b d xs p q = record {
    octets = xs ++ [];
    bytes = consumes_on (remaining a.inner) (remaining b.inner) (remaining d.inner) xs [] p.bytes (keeps_consumes (remaining b.inner) (remaining d.inner) q.bytes);
    cause = inl (once_more a b d p.faults q.faults);
  }

  cause_on : (a b d : Port X) → b.faults ≡ a.faults → (d.faults ≡ (b.faults + 1) % 2 ^ 64) ⊎ IsDone remaining d → (d.faults ≡ (a.faults + 1) % 2 ^ 64) ⊎ IsDone remaining d
  cause_on a b d p (inl q) = inl (once_more a b d p q)
  cause_on a b d p (inr q) = inr q

  some_on : (a b d : Port X) (xs : List ℕ) → Gave remaining a b xs → GaveSome remaining b d → GaveSome remaining a d
  some_on a b d xs p q = record { octets = xs ++ q.octets; gave = gave_on a b d xs q.octets p q.gave }

  pub leaves_on : (a b d : Port X) (xs : List ℕ) (fault : ReadFault) → Gave remaining a b xs → Leaves remaining b d fault → Leaves remaining a d fault
  leaves_on a b d xs faults.Memory p q = some_on a b d xs p q
  leaves_on a b d xs faults.Form p q = some_on a b d xs p q
  leaves_on a b d xs faults.Input p q = record {
    octets = xs ++ q.octets;
    bytes = consumes_on (remaining a.inner) (remaining b.inner) (remaining d.inner) xs q.octets p.bytes q.bytes;
    cause = cause_on a b d p.faults q.cause;
  }

  pub front_of : (a b : Port X) (front heard : List ℕ) → Gave remaining a b front → remaining a.inner ≡ Some heard
      → (after : List ℕ) × (remaining b.inner ≡ Some after) × (heard ≡ front ++ after)
  front_of a b front heard p e = left_over (remaining a.inner) (remaining b.inner) front heard p.bytes e

  -- an error that is passed on, after octets that were read
  pub passed_behind : {T : Type 0} (a b d : Port X) (xs : List ℕ) (told : ReadFault) (result : Result T ReadFault) → IsErrAnd result (λ (x : ReadFault). x ≡ told)
      → Gave remaining a b xs → Leaves remaining b d told → IfErr result (λ (x : ReadFault). Leaves remaining a d x)
  passed_behind a b d xs told (Ok x) is p q = tt
  passed_behind a b d xs told (Err x) is p q = subst (Leaves remaining a d) (sym is) (leaves_on a b d xs told p q)

  -- out of memory, after octets that were read
  pub want_behind : {T : Type 0} (a d : Port X) (xs : List ℕ) (result : Result T ReadFault) → IsErrAnd result (λ (x : ReadFault). x ≡ faults.Memory)
      → Gave remaining a d xs → IfErr result (λ (x : ReadFault). Leaves remaining a d x)
  want_behind a d xs (Ok x) is p = tt
  want_behind a d xs (Err x) is p = subst (Leaves remaining a d) (sym is) (record { octets = xs; gave = p })

  -- octets that were read, and are the encoding of nothing
  pub form_behind : {T : Type 0} (a d : Port X) (xs : List ℕ) (found : Option T) (result : Result T ReadFault) → result ≡ ok_or found faults.Form
      → Gave remaining a d xs → IfErr result (λ (x : ReadFault). Leaves remaining a d x)
  form_behind a d xs found (Ok x) is p = tt
  form_behind a d xs None (Err x) is p = subst (λ (r : Result _ ReadFault). IfErr r (λ (x : ReadFault). Leaves remaining a d x)) (sym is) (record { octets = xs; gave = p })
  form_behind a d xs (Some y) (Err x) is p = absurd cc

  -- the same for a last call, whose result is returned
  pub answered_behind : {T : Type 0} (a b d : Port X) (xs : List ℕ) (result : Result T ReadFault) → Gave remaining a b xs
      → IfErr result (λ (x : ReadFault). Leaves remaining b d x) → IfErr result (λ (x : ReadFault). Leaves remaining a d x)
  answered_behind a b d xs (Ok x) p q = tt
  answered_behind a b d xs (Err x) p q = leaves_on a b d xs x p q
