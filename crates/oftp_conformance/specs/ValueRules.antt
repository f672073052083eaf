-- The rules on the value of a field, as data. Each has its section of RFC 5024, what it says, what is expected, and what to tell the partner.
use Rattle.std.specs.Prelude.{ℕ, List, codes, [], ◌∷◌, Option, Some, None}
use Rattle.oftp_conformance.specs.declared.departure.Departure.{Departure}
use Rattle.oftp_conformance.specs.declared.departure.Departure.TheVariants as departures
use Rattle.oftp_conformance.specs.declared.departure.Bearing.{Bearing}
use Rattle.oftp_conformance.specs.declared.departure.Bearing.TheVariants.{Allowed, Forbidden}
use Rattle.oftp_conformance.specs.declared.value_rule.ValueRule.{ValueRule}
use Rattle.oftp_conformance.specs.declared.value_rule.ValueRule.TheVariants.{Level, Buffer, Credit, Authentication, Counter, Sizes, Security, Cipher, Compression, Envelope, SignedResponse, Overrun, Compressed}

-- the rules, in the order in which they are looked for
abbrev pub value_rules : List ValueRule
value_rules = Level ∷ Buffer ∷ Credit ∷ Authentication ∷ Counter ∷ Sizes ∷ Security ∷ Cipher ∷ Compression ∷ Envelope ∷ SignedResponse ∷ Overrun ∷ Compressed ∷ []

-- the field that a rule is about
abbrev pub value_field : ValueRule → List ℕ
value_field Level = codes "SSIDLEV"
value_field Buffer = codes "SSIDSDEB"
value_field Credit = codes "SSIDCRED"
value_field Authentication = codes "SSIDAUTH"
value_field Counter = codes "SFIDTIME"
value_field Sizes = codes "SFIDOSIZ"
value_field Security = codes "SFIDSEC"
value_field Cipher = codes "SFIDCIPH"
value_field Compression = codes "SFIDCOMP"
value_field Envelope = codes "SFIDENV"
value_field SignedResponse = codes "SFIDSIGN"
value_field Overrun = codes "DATABUF"
value_field Compressed = codes "DATABUF"

-- the section that has a rule
abbrev pub value_section : ValueRule → List ℕ
value_section Level = codes "5.3.2"
value_section Buffer = codes "5.3.2"
value_section Credit = codes "5.3.2"
value_section Authentication = codes "5.3.2"
value_section Counter = codes "5.3.3"
value_section Sizes = codes "5.3.3"
value_section Security = codes "5.3.3"
value_section Cipher = codes "5.3.3"
value_section Compression = codes "5.3.3"
value_section Envelope = codes "5.3.3"
value_section SignedResponse = codes "5.3.3"
value_section Overrun = codes "7.3"
value_section Compressed = codes "5.3.2"

-- what it says
abbrev pub value_says : ValueRule → List ℕ
value_says Level = codes "SSIDLEV is 1, 2, 4 or 5, and the lower one of both applies"
value_says Buffer = codes "SSIDSDEB is at least 128"
value_says Credit = codes "SSIDCRED is 1 to 999"
value_says Authentication = codes "SSIDAUTH is Y where a station demands it"
value_says Counter = codes "SFIDTIME ends with a counter from 0001 to 9999"
value_says Sizes = codes "SFIDOSIZ is SFIDFSIZ without security and compression"
value_says Security = codes "SFIDSEC is 00 for a plain file, 01 to 03 for others"
value_says Cipher = codes "SFIDCIPH is 00 where no cipher suite is used"
value_says Compression = codes "SFIDCOMP is 0 without compression, 1 with it"
value_says Envelope = codes "SFIDENV is 0 without an envelope, 1 for CMS"
value_says SignedResponse = codes "SFIDSIGN is Y where a signed response is asked for"
value_says Overrun = codes "a subrecord ends within its Exchange Buffer"
value_says Compressed = codes "buffers are compressed only if both said SSIDCMPR Y"

-- what is expected
abbrev pub value_wanted : ValueRule → List ℕ
value_wanted Level = codes "5"
value_wanted Buffer = codes "00128 to 99999"
value_wanted Credit = codes "001 to 999"
value_wanted Authentication = codes "N"
value_wanted Counter = codes "0001 to 9999 at the end"
value_wanted Sizes = codes "the same as SFIDFSIZ"
value_wanted Security = codes "00"
value_wanted Cipher = codes "00"
value_wanted Compression = codes "0"
value_wanted Envelope = codes "0"
value_wanted SignedResponse = codes "N"
value_wanted Overrun = codes "a count within the buffer"
value_wanted Compressed = codes "subrecords without the compression flag"

-- what to tell the partner
abbrev pub value_advice : ValueRule → List ℕ
value_advice Level = codes "set the protocol level 5 (OFTP 2)"
value_advice Buffer = codes "set a buffer of 128 octets or more"
value_advice Credit = codes "set a credit (window) of 1 or more"
value_advice Authentication = codes "turn secure authentication off for this station"
value_advice Counter = codes "count the files of a second from 0001"
value_advice Sizes = codes "send the size of a plain file in both fields"
value_advice Security = codes "set the security level 00: TLS protects the line"
value_advice Cipher = codes "set the cipher suite 00"
value_advice Compression = codes "set the file compression 0"
value_advice Envelope = codes "set the envelope 0"
value_advice SignedResponse = codes "set signed responses (EERP) to N"
value_advice Overrun = codes "end subrecords with their buffer"
value_advice Compressed = codes "turn buffer compression off"

-- whether the standard forbids what breaks a rule
abbrev pub value_bearing : ValueRule → Bearing
value_bearing Level = Allowed
value_bearing Buffer = Forbidden
value_bearing Credit = Forbidden
value_bearing Authentication = Allowed
value_bearing Counter = Forbidden
value_bearing Sizes = Forbidden
value_bearing Security = Allowed
value_bearing Cipher = Allowed
value_bearing Compression = Allowed
value_bearing Envelope = Allowed
value_bearing SignedResponse = Allowed
value_bearing Overrun = Forbidden
value_bearing Compressed = Forbidden

-- the departure of this station that takes part
abbrev pub value_departure : ValueRule → Option Departure
value_departure Level = Some departures.OtherLevels
value_departure Buffer = Some departures.SmallBuffers
value_departure Credit = Some departures.SmallBuffers
value_departure Authentication = Some departures.NoSecurity
value_departure Counter = None
value_departure Sizes = None
value_departure Security = Some departures.NoSecurity
value_departure Cipher = Some departures.NoSecurity
value_departure Compression = Some departures.NoSecurity
value_departure Envelope = Some departures.NoSecurity
value_departure SignedResponse = Some departures.NoSignature
value_departure Overrun = None
value_departure Compressed = None
