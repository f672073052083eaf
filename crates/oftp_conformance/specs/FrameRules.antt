-- The rules on stream headers, as data. Each has its section of RFC 5024, what it says, what is expected, and what to tell the partner.
use Rattle.std.specs.Prelude.{ℕ, List, codes, Option, Some, None}
use Rattle.oftp_conformance.specs.declared.departure.Departure.{Departure}
use Rattle.oftp_conformance.specs.declared.departure.Departure.TheVariants as departures
use Rattle.oftp_conformance.specs.declared.departure.Bearing.{Bearing}
use Rattle.oftp_conformance.specs.declared.departure.Bearing.TheVariants.{Forbidden}
use Rattle.oftp_conformance.specs.declared.frame_rule.FrameRule.{FrameRule}
use Rattle.oftp_conformance.specs.declared.frame_rule.FrameRule.TheVariants.{Version, Flags, Length}

-- the section that has a rule
abbrev pub frame_section : FrameRule → List ℕ
frame_section Version = codes "8.2"
frame_section Flags = codes "8.2"
frame_section Length = codes "8.2"

-- what it says
abbrev pub frame_says : FrameRule → List ℕ
frame_says Version = codes "a stream header has version 1"
frame_says Flags = codes "the flags of a stream header are 0"
frame_says Length = codes "a length has its header, and is 5 to 100003"

-- what is expected
abbrev pub frame_wanted : FrameRule → List ℕ
frame_wanted Version = codes "the octet 10 (hexadecimal)"
frame_wanted Flags = codes "the octet 10 (hexadecimal)"
frame_wanted Length = codes "5 to 100003"

-- what to tell the partner
abbrev pub frame_advice : FrameRule → List ℕ
frame_advice Version = codes "send stream headers of version 1"
frame_advice Flags = codes "send stream headers without flags"
frame_advice Length = codes "count each header with its command"

-- whether the standard forbids what breaks a rule
abbrev pub frame_bearing : FrameRule → Bearing
frame_bearing Version = Forbidden
frame_bearing Flags = Forbidden
frame_bearing Length = Forbidden

-- the departure of this station that takes part
abbrev pub frame_departure : FrameRule → Option Departure
frame_departure Version = None
frame_departure Flags = Some departures.StrictHeaders
frame_departure Length = None
