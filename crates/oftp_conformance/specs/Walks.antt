-- A walk over the subrecords of payloads (RFC 5024, sections 7.2 and 7.3).
use Rattle.std.specs.Prelude.{ℕ, ◌+◌, ◌-◌, ◌^◌, min, Bool, true, false, ◌&&◌, ◌||◌, not, List, fold, ◌==◌, if◌then◌else◌}
use Rattle.oftp_vfile.specs.Subrecord.{has_end, has_compression, count_in}
use Rattle.oftp_vfile.specs.declared.taking.Stage.{Stage}
use Rattle.oftp_vfile.specs.declared.taking.Stage.TheVariants.{Fresh, Open, Ended}
use Rattle.oftp_conformance.specs.declared.walk.Walk.{Walk}

-- whether the last subrecord had the end flag
abbrev pub is_ended : Stage → Bool
is_ended Fresh = false
is_ended Open = false
is_ended Ended = true

-- whether a subrecord with this header says something: it has octets, or the end flag (RFC 5024, section 7.3)
abbrev pub is_filled : ℕ → Bool
is_filled h = has_end h || not (count_in h == 0)

-- the stage after a header; an empty subrecord without the flag begins nothing
abbrev pub stage_after : Stage → ℕ → Stage
stage_after stage h = if has_end h then Ended else (if count_in h == 0 then stage else Open)

-- how many octets follow the header of a subrecord; a compressed one has the octet that is repeated
abbrev pub count_after : ℕ → ℕ
count_after h = if has_compression h then 1 else count_in h

-- one more, where a number of 64 bits can say so
abbrev pub capped : ℕ → ℕ → ℕ
capped a b = min (a + b) (2 ^ 64 - 1)

-- a walk after a header
abbrev pub headed : Walk → ℕ → Walk
headed w h = record {
  due = count_after h;
  compressed = w.compressed || has_compression h;
  beyond = w.beyond || (is_ended w.stage && is_filled h);
  hollow = w.hollow || (is_ended w.stage && not (is_filled h));
  stage = stage_after w.stage h;
  units = capped w.units (count_in h);
  ends = capped w.ends (if has_end h then 1 else 0);
}

-- a walk after one more octet: a header, or an octet of the subrecord under way
abbrev pub walked : Walk → ℕ → Walk
walked w c = if w.due == 0 then headed w c else record w { due = w.due - 1 }

-- a walk before the first octet of a file
abbrev pub first_walk : Walk
first_walk = record { due = 0; compressed = false; beyond = false; hollow = false; stage = Fresh; units = 0; ends = 0 }

-- a walk that goes on with the next buffer, in which a subrecord begins
abbrev pub anew : Walk → Walk
anew w = record w { due = 0; compressed = false; beyond = false; hollow = false }

-- a walk over the next buffer
abbrev pub walk_over : Walk → List ℕ → Walk
walk_over w payload = fold walked (anew w) payload
