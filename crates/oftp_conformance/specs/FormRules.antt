-- The rules on the form of a field, as data. Each has its section of RFC 5024, what it says, what is expected, and what to tell the partner.
use Rattle.std.specs.Prelude.{ℕ, List, codes, Option, Some, None}
use Rattle.oftp_conformance.specs.declared.departure.Departure.{Departure}
use Rattle.oftp_conformance.specs.declared.departure.Departure.TheVariants as departures
use Rattle.oftp_conformance.specs.declared.departure.Bearing.{Bearing}
use Rattle.oftp_conformance.specs.declared.departure.Bearing.TheVariants.{Forbidden}
use Rattle.oftp_conformance.specs.declared.form_rule.FormRule.{FormRule}
use Rattle.oftp_conformance.specs.declared.form_rule.FormRule.TheVariants.{Beginning, Short, Long, OldEnd, OldResponse, Greeting, Characters, Digits, Letter, OldLevel, Records, Return, Utf8, HashAlone, Signed}

-- the section that has a rule
abbrev pub form_section : FormRule → List ℕ
form_section Beginning = codes "5.3"
form_section Short = codes "5.3"
form_section Long = codes "5.3"
form_section OldEnd = codes "5.3.11"
form_section OldResponse = codes "5.3.13"
form_section Greeting = codes "5.3.1"
form_section Characters = codes "5.3"
form_section Digits = codes "5.3"
form_section Letter = codes "5.3"
form_section OldLevel = codes "5.3.2"
form_section Records = codes "5.3.3"
form_section Return = codes "5.3"
form_section Utf8 = codes "5.3"
form_section HashAlone = codes "5.3.13"
form_section Signed = codes "5.3.13"

-- what it says
abbrev pub form_says : FormRule → List ℕ
form_says Beginning = codes "each command begins with its letter"
form_says Short = codes "a command has all its fields"
form_says Long = codes "a command ends with its last field"
form_says OldEnd = codes "ESIDREASL and ESIDREAST follow ESIDREAS"
form_says OldResponse = codes "EERPHSHL and EERPSIGL follow EERPORIG"
form_says Greeting = codes "SSRMMSG is ODETTE FTP READY and a space"
form_says Characters = codes "X(n) has 0-9 A-Z / - . & ( ), none inside is a space"
form_says Digits = codes "9(n) has digits, with zeros on the left"
form_says Letter = codes "a field with listed values has one of them"
form_says OldLevel = codes "SSIDAUTH is Y or N"
form_says Records = codes "SFIDLRECL is 00000 where SFIDFMT is U or T"
form_says Return = codes "SSRMCR, SSIDCR and ESIDCR are a carriage return"
form_says Utf8 = codes "T(n) is encoded in UTF-8"
form_says HashAlone = codes "a hash is part of a signed response"
form_says Signed = codes "a response may be signed if this was asked for"

-- what is expected
abbrev pub form_wanted : FormRule → List ℕ
form_wanted Beginning = codes "one of I X H 2 3 D C T 4 5 F R E N P"
form_wanted Short = codes "all fields of the command"
form_wanted Long = codes "nothing behind the last field"
form_wanted OldEnd = codes "ESIDREASL and ESIDREAST"
form_wanted OldResponse = codes "EERPHSHL and EERPSIGL"
form_wanted Greeting = codes "ODETTE FTP READY and a space"
form_wanted Characters = codes "allowed characters, then spaces"
form_wanted Digits = codes "digits"
form_wanted Letter = codes "a listed value"
form_wanted OldLevel = codes "N"
form_wanted Records = codes "00000"
form_wanted Return = codes "the octet 0d or 8d (hexadecimal)"
form_wanted Utf8 = codes "UTF-8"
form_wanted HashAlone = codes "a length of 0"
form_wanted Signed = codes "lengths of 0"

-- what to tell the partner
abbrev pub form_advice : FormRule → List ℕ
form_advice Beginning = codes "send these commands alone, without secure authentication"
form_advice Short = codes "send each field in its whole length"
form_advice Long = codes "send nothing behind the last field"
form_advice OldEnd = codes "end sessions as OFTP 2 does: this ESID is of OFTP 1"
form_advice OldResponse = codes "send responses of OFTP 2: this EERP is of OFTP 1"
form_advice Greeting = codes "send the standard's own text"
form_advice Characters = codes "use these characters alone: no small letters, no _"
form_advice Digits = codes "pad numbers on the left with zeros, not with spaces"
form_advice Letter = codes "send one of the listed letters"
form_advice OldLevel = codes "set the protocol level 5 (OFTP 2): before it this octet was blank"
form_advice Records = codes "send the longest record 00000 for U and T"
form_advice Return = codes "end these commands by a carriage return"
form_advice Utf8 = codes "encode descriptions and reasons in UTF-8, not in Latin-1"
form_advice HashAlone = codes "send unsigned responses without a hash"
form_advice Signed = codes "send unsigned responses: none was asked to be signed"

-- whether the standard forbids what breaks a rule
abbrev pub form_bearing : FormRule → Bearing
form_bearing Beginning = Forbidden
form_bearing Short = Forbidden
form_bearing Long = Forbidden
form_bearing OldEnd = Forbidden
form_bearing OldResponse = Forbidden
form_bearing Greeting = Forbidden
form_bearing Characters = Forbidden
form_bearing Digits = Forbidden
form_bearing Letter = Forbidden
form_bearing OldLevel = Forbidden
form_bearing Records = Forbidden
form_bearing Return = Forbidden
form_bearing Utf8 = Forbidden
form_bearing HashAlone = Forbidden
form_bearing Signed = Forbidden

-- the departure of this station that takes part
abbrev pub form_departure : FormRule → Option Departure
form_departure Beginning = None
form_departure Short = None
form_departure Long = None
form_departure OldEnd = None
form_departure OldResponse = None
form_departure Greeting = None
form_departure Characters = None
form_departure Digits = None
form_departure Letter = Some departures.UnlistedLetters
form_departure OldLevel = Some departures.OtherLevels
form_departure Records = None
form_departure Return = None
form_departure Utf8 = None
form_departure HashAlone = Some departures.SignedResponses
form_departure Signed = Some departures.SignedResponses
