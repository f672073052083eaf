-- The rows of a file that are returned, and the errors of the office.
use Rattle.std.proofs.Common.{◌≡◌, ℕ, zero, suc, ◌+◌, ◌<◌, ◌≤◌, List, [], ◌∷◌, length, take, drop, All, Option, None, Some, Ok, Err, inl, inr, refl, sym, ap, subst, arith}
use Rattle.std.proofs.lemmas.List.{length-drop, length-take-le, append-nil}
use Rattle.std.proofs.lemmas.List.Elements.{All-nil, All-cons}
use Rattle.std.specs.Option.{option_map}
use Rattle.oftp_vfile.specs.declared.format.Format.{Format}
use Rattle.oftp_vfile.specs.declared.format.Format.TheVariants.{Fixed, Variable, Unstructured, Text}
use Rattle.oftp_vfile.specs.declared.format.TheConstants.{BLOCK}
use Rattle.oftp_vfile.specs.VirtualFile.{AreBlocks, AreRows, IsLongest}
use Rattle.oftp_vfile.proofs.LendLemmas.{rows_from}
use Rattle.oftp_register.specs.declared.entry.IncomingState.{IncomingState}
use Rattle.oftp_register.specs.declared.entry.IncomingState.TheVariants.{Open, Whole}
use Rattle.oftp_register.specs.declared.entries.IncomingEntry.{IncomingEntry}
use Rattle.oftp_register.specs.declared.entries.Side.TheVariants as side
use Rattle.oftp_register.specs.declared.office.OfficeFault.{OfficeFault}
use Rattle.oftp_register.specs.declared.office.OfficeFault.TheVariants as office
use Rattle.oftp_register.specs.Register.{Register, Incoming}
use Rattle.oftp_register.specs.LookUps.{entry_at, incoming_entry, rows_of}
use Rattle.oftp_register.specs.Offices.{CountsFault, IsFailure, LooksUp, View, next_count}
use Rattle.oftp_register.specs.Soundness.{AreFullRows, FitsState, IsSound, IsSoundIncoming}
use Rattle.oftp_register.proofs.EntryLemmas.{all_at, rows_of_incoming}
use Rattle.oftp_register.proofs.RowLemmas.{rows-append, rows-part}
use Rattle.oftp_engine.specs.Fetched.{HasFile, OfficeAnswered, OfficeUnanswered}
use Rattle.oftp_engine.specs.InsideContent.{IsPiece}

-- blocks before the last one are full
full_blocks : (size n : ℕ) (rows : List (List ℕ)) → AreBlocks size rows → n < length rows → All (λ (r : List ℕ). length r ≡ size) (take n rows)
full_blocks size zero rows blocks before = All-nil (λ (r : List ℕ). length r ≡ size)
full_blocks size (suc n) [] blocks before = absurd (omega arith)
full_blocks size (suc n) (r ∷ []) blocks before = absurd (omega arith)
full_blocks size (suc n) (r ∷ q ∷ rows) blocks before =
    All-cons (λ (p : List ℕ). length p ≡ size) r (take n (q ∷ rows)) blocks.0 (full_blocks size n (q ∷ rows) blocks.1 (omega arith))

full_before : (format : Format) (longest from most : ℕ) (rows : List (List ℕ)) → AreRows format longest rows → from + most < length rows
    → AreFullRows format longest (take most (drop from rows))
full_before Fixed longest from most rows fits before = rows-part Fixed longest from most rows fits
full_before Variable longest from most rows fits before = rows-part Variable longest from most rows fits
full_before Unstructured longest from most rows fits before =
    full_blocks BLOCK most (drop from rows) (rows_from Unstructured longest from rows fits) (omega (arith, length-drop from rows))
full_before Text longest from most rows fits before =
    full_blocks BLOCK most (drop from rows) (rows_from Text longest from rows fits) (omega (arith, length-drop from rows))

-- the rows of an incoming file fit its format, open or whole
no_rows : (format : Format) (longest : ℕ) → AreRows format longest []
no_rows Fixed longest = All-nil (λ (r : List ℕ). length r ≡ longest)
no_rows Variable longest = All-nil (λ (r : List ℕ). length r ≤ longest)
no_rows Unstructured longest = tt
no_rows Text longest = tt

state_fits : (state : IncomingState) (format : Format) (longest : ℕ) (rows : List (List ℕ)) → FitsState state format longest rows → AreRows format longest rows
state_fits Open format longest rows full =
    subst (AreRows format longest) (append-nil rows) (rows-append format longest rows [] full (no_rows format longest))
state_fits Whole format longest rows fits = fits

-- the file of an entry
known_file : (e : IncomingEntry) (o : Option Incoming) → option_map (incoming_entry e.no) o ≡ Some e → (f : Incoming) × (o ≡ Some f) × (incoming_entry e.no f ≡ e)
known_file e None h = absurd (cc)
known_file e (Some f) h = (f, refl, cc)

-- the rows that a register returns of its file are a piece of it
pub piece_fits : (r : Register) (e : IncomingEntry) (from most : ℕ) → IsSound r → HasFile r e → from + most ≤ e.rows
    → IsPiece e from most (rows_of r side.Incoming e.no from most)
piece_fits r e from most sound has few =
    let known = known_file e (entry_at e.no r.incoming) has in
    let f = known.0 in
    let is = all_at IsSoundIncoming e.no r.incoming f sound.incoming known.1 in
    let format : f.format ≡ e.format = ap (λ (x : IncomingEntry). x.format) known.2 in
    let longest : f.longest ≡ e.longest = ap (λ (x : IncomingEntry). x.longest) known.2 in
    let count : length f.rows ≡ e.rows = ap (λ (x : IncomingEntry). x.rows) known.2 in
    let part = take most (drop from f.rows) in
    let long : length part ≡ most = length-take-le most (drop from f.rows) (omega (arith, few, count, length-drop from f.rows)) in
    let fits : AreRows f.format f.longest f.rows = state_fits f.state f.format f.longest f.rows is.fits in
    let at : IsPiece e from most part = record {
      count = long;
      file = record {
        longest = subst (λ x. IsLongest x e.longest) format (subst (λ x. IsLongest f.format x) longest is.longest);
        few = omega (arith, long, few, count, is.few);
        fits = subst (λ x. AreRows x e.longest part) format (subst (λ x. AreRows f.format x part) longest (rows-part f.format f.longest from most f.rows fits));
      };
      full = λ more.
          subst (λ x. AreFullRows x e.longest part) format
          (subst (λ x. AreFullRows f.format x part) longest (full_before f.format f.longest from most f.rows fits (omega (arith, count, more))));
    } in
    subst (λ (rows : List (List ℕ)). IsPiece e from most (take most (drop from rows))) (sym (rows_of_incoming r e.no f known.1)) at

-- an office that was called once
module _ {T : Type 0} (Tells : Register → T → Type 0) (old new : View) where
  pub answered_once : (x : T) → LooksUp Tells old new (Ok x) → OfficeAnswered old new
  answered_once x looked = record { told = looked.counts; stays = λ clean stood. let now = looked.stays clean stood in (now, looked.register clean stood (new.opens now)) }

  pub unanswered_once : (e : IncomingEntry) (fault : OfficeFault) → LooksUp Tells old new (Err fault) → OfficeUnanswered e old new
  unanswered_once e fault looked =
      let one : new.told ≡ next_count old.told = counted fault looked.unrefused looked.counts in
      record { told = inr one; fault = λ clean stood has. one; register = looked.register; left = looked.left }
    where
      counted : (fault : OfficeFault) → IsFailure fault → CountsFault old.told new.told fault → new.told ≡ next_count old.told
      counted office.Store fails counts = counts
      counted office.Memory fails counts = counts
      counted (office.Refused cause) fails counts = absurd fails

-- it returned rows that aren't a piece of the file: a register doesn't have this file
pub misfits : (old new : View) (e : IncomingEntry) (from most : ℕ) (rows : List (List ℕ)) → (old.clean → old.stands → IsSound old.register)
    → LooksUp (λ (r : Register) (rows : List (List ℕ)). rows ≡ rows_of r side.Incoming e.no from most) old new (Ok rows) → from + most ≤ e.rows
    → (IsPiece e from most rows → ⊥) → OfficeUnanswered e old new
misfits old new e from most rows sound looked few none = record {
  told = inl looked.counts;
  fault = λ clean stood has.
      let fits = piece_fits old.register e from most (sound (looked.clean clean) stood) has few in
      absurd (none (subst (IsPiece e from most) (sym (looked.answer clean stood)) fits));
  register = looked.register;
  left = λ clean stood. looked.left clean stood;
}
