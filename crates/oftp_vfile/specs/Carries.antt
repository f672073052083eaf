-- What payloads carry: their subrecords, and the rows of these (RFC 5024, section 7.2).
use Rattle.std.specs.Prelude.{◌≡◌, ℕ, Bool, true, false, List, [], ◌∷◌, ◌++◌, ◌<◌, ◌≤◌, length, map, All, if◌then◌else◌}
use Rattle.std.specs.List.{flat_map}
use Rattle.oftp_vfile.specs.declared.format.TheConstants.{BLOCK}
use Rattle.oftp_vfile.specs.declared.format.Format.{Format}
use Rattle.oftp_vfile.specs.declared.format.Format.TheVariants.{Fixed, Variable, Unstructured, Text}
use Rattle.oftp_vfile.specs.declared.taking.Stage.{Stage}
use Rattle.oftp_vfile.specs.declared.taking.Stage.TheVariants.{Fresh, Open, Ended}
use Rattle.oftp_vfile.specs.VirtualFile.{octets_in, closed}
use Rattle.oftp_vfile.specs.Subrecord.{Subrecord, payload_of, octets_of, AreShort}

-- octets before the first piece
abbrev pub onto : List ℕ → List (List ℕ) → List (List ℕ)
onto octets [] = octets ∷ []
onto octets (p ∷ ps) = (octets ++ p) ∷ ps

-- The octets of all subrecords, joined and cut after each end flag. The last piece is the open part.
abbrev pub pieces : List Subrecord → List (List ℕ)
pieces [] = [] ∷ []
pieces (s ∷ ss) = if s.ends then s.octets ∷ pieces ss else onto s.octets (pieces ss)

-- at most one end flag, on the last subrecord: the end of a stream (RFC 5024, section 7.2 on unstructured files; T goes likewise)
abbrev pub IsStream : List Subrecord → Type 0
IsStream [] = Unit {0}
IsStream (s ∷ []) = Unit {0}
IsStream (s ∷ t ∷ ss) = (s.ends ≡ false) × IsStream (t ∷ ss)

-- the octets in blocks of 1024: the full blocks, and the rest
pub record InBlocks (octets : List ℕ) (rows : List (List ℕ)) (tail : List ℕ) : Type 0 where
  pub joined : octets ≡ octets_in rows ++ tail
  pub full : All (λ (r : List ℕ). length r ≡ BLOCK) rows
  pub rest : length tail < BLOCK

-- these subrecords carry these rows and this open part
abbrev pub Carried : Format → ℕ → List Subrecord → List (List ℕ) → List ℕ → Type 0
Carried Fixed longest ss rows tail =
    (pieces ss ≡ rows ++ tail ∷ []) × All (λ (r : List ℕ). length r ≡ longest) rows × (length tail ≤ longest)
Carried Variable longest ss rows tail =
    (pieces ss ≡ rows ++ tail ∷ []) × All (λ (r : List ℕ). length r ≤ longest) rows × (length tail ≤ longest)
Carried Unstructured longest ss rows tail = IsStream ss × InBlocks (octets_of ss) rows tail
Carried Text longest ss rows tail = IsStream ss × InBlocks (octets_of ss) rows tail

-- whether a subrecord was received, and whether the last one has the end flag
abbrev pub stage_of : List Subrecord → Stage
stage_of [] = Fresh
stage_of (s ∷ []) = if s.ends then Ended else Open
stage_of (s ∷ t ∷ ss) = stage_of (t ∷ ss)

-- whether a subrecord was received since the last end flag
abbrev pub is_open : Stage → Bool
is_open Fresh = false
is_open Open = true
is_open Ended = false

-- Carries: each payload is a concatenation of subrecords, and these carry the rows and the open part. The stage says whether the last
-- subrecord has the end flag.
pub record Carries (format : Format) (longest : ℕ) (payloads : List (List ℕ)) (rows : List (List ℕ)) (tail : List ℕ) (stage : Stage) : Type 0 where
  pub subs : List (List Subrecord)
  pub spelling : payloads ≡ map payload_of subs
  pub short : AreShort (flat_map (λ ss. ss) subs)
  pub carried : Carried format longest (flat_map (λ ss. ss) subs) rows tail
  pub last : stage ≡ stage_of (flat_map (λ ss. ss) subs)

-- payloads carry exactly these rows, to the end
pub record CarriesWhole (format : Format) (longest : ℕ) (payloads : List (List ℕ)) (rows : List (List ℕ)) : Type 0 where
  pub found : List (List ℕ)
  pub tail : List ℕ
  pub stage : Stage
  pub carries : Carries format longest payloads found tail stage
  pub same : closed found tail ≡ rows
  pub over : is_open stage ≡ false
