-- What a change needs of the other station, so that their files stay consistent.
use Rattle.std.specs.Prelude.{◌≡◌, ℕ, List, ◌++◌, Some, ⊤}
use Rattle.oftp_register.specs.declared.change.Change.{Change}
use Rattle.oftp_register.specs.declared.change.Change.TheVariants as change
use Rattle.oftp_register.specs.Register.{Register, Incoming, Outgoing}
use Rattle.oftp_register.specs.LookUps.{entry_at}
use Rattle.oftp_register.specs.ByIdentity.{out_at, in_at}
use Rattle.oftp_engine.specs.TwoStations.{Has, IsAnsweredBy}
use Rattle.oftp_vfile.specs.VirtualFile.{BeginsWith}
use Rattle.oftp_engine.proofs.Standing.{IsWholeAt}

-- a fact of the entry with a number, if there is one
abbrev pub OfEntry : {A : Type 0} → ℕ → List A → (A → Type 0) → Type 0
OfEntry {A = A} n entries P = (x : A) → entry_at n entries ≡ Some x → P x

-- By cases of the change. A file that starts is one of the other's, with its header. Rows that are kept are a beginning of it, and those
-- that close it are all of it. A file is handed over if it is whole there. A response that is added was issued there.
abbrev pub Grounds : Register → Register → Change → Type 0
Grounds r there (change.Submit identity format longest description rows) = ⊤
Grounds r there (change.Start identity format longest description count) = Has (out_at there identity) (λ f. (format ≡ f.format) × (longest ≡ f.longest))
Grounds r there (change.Keep n rows) = OfEntry n r.incoming (λ (e : Incoming). Has (out_at there e.identity) (λ f. BeginsWith f.rows (e.rows ++ rows)))
Grounds r there (change.Close n rows) = OfEntry n r.incoming (λ (e : Incoming). Has (out_at there e.identity) (λ f. e.rows ++ rows ≡ f.rows))
Grounds r there (change.GiveUp n) = ⊤
Grounds r there (change.File kind identity reason creator text) = Has (in_at there identity) (IsAnsweredBy kind)
Grounds r there (change.Issue n kind reason text) = ⊤
Grounds r there (change.Mark n rows) = ⊤
Grounds r there (change.BeginClosing n) = ⊤
Grounds r there (change.HandOver n) = OfEntry n r.outgoing (λ (f : Outgoing). IsWholeAt there f.identity)
Grounds r there (change.Refuse n reason) = ⊤
Grounds r there (change.Reopen n) = ⊤
Grounds r there (change.Send n) = ⊤
