-- Where this station departs from RFC 5024 on purpose, as data: the section, and what it does.
use Rattle.std.specs.Prelude.{ℕ, List, codes}
use Rattle.oftp_conformance.specs.declared.departure.Departure.{Departure}
use Rattle.oftp_conformance.specs.declared.departure.Departure.TheVariants.{StrictHeaders, OtherLevels, BadOffers, UnlistedLetters, SmallBuffers, SignedResponses, NoSecurity, NoSignature, AnsweredOptions, KeptDirection, EndlessTurns, EarlyEnds, LowerCredit, OwnCodes, StrictEnds, OwnResponses}
use Rattle.oftp_conformance.specs.declared.departure.Bearing.{Bearing}
use Rattle.oftp_conformance.specs.declared.departure.Bearing.TheVariants.{Forbidden, Allowed}

-- the section that it departs from
abbrev pub departure_section : Departure → List ℕ
departure_section StrictHeaders = codes "8.2"
departure_section OtherLevels = codes "5.3.2"
departure_section BadOffers = codes "5.3.5"
departure_section UnlistedLetters = codes "10.3"
departure_section SmallBuffers = codes "9.8"
departure_section SignedResponses = codes "5.3.13"
departure_section NoSecurity = codes "10.2"
departure_section NoSignature = codes "3.3.5"
departure_section AnsweredOptions = codes "9.8.3"
departure_section KeptDirection = codes "9.10"
departure_section EndlessTurns = codes "3.3.4.2"
departure_section EarlyEnds = codes "3.4.1"
departure_section LowerCredit = codes "5.3.2"
departure_section OwnCodes = codes "5.3.3"
departure_section StrictEnds = codes "7.3"
departure_section OwnResponses = codes "3.3.5"

-- what this station does
abbrev pub departure_does : Departure → List ℕ
departure_does StrictHeaders = codes "refuses a stream header with a flag, though receivers are to be liberal"
departure_does OtherLevels = codes "takes level 5 alone"
departure_does BadOffers = codes "ends the session, and doesn't refuse the file alone"
departure_does UnlistedLetters = codes "takes no letter that isn't listed"
departure_does SmallBuffers = codes "says ESID 06, and not 10"
departure_does SignedResponses = codes "takes no signed response"
departure_does NoSecurity = codes "has no secure authentication, cipher suites, compression or envelopes"
departure_does NoSignature = codes "refuses a file whose response is to be signed"
departure_does AnsweredOptions = codes "ends the session for a Y in reply to its N"
departure_does KeptDirection = codes "takes other commands too"
departure_does EndlessTurns = codes "ends the session then"
departure_does EarlyEnds = codes "counts it as a normal end"
departure_does LowerCredit = codes "takes the smaller credit of both"
departure_does OwnCodes = codes "takes files between the two codes of the session alone"
departure_does StrictEnds = codes "refuses octets behind the end, and a record that never ended"
departure_does OwnResponses = codes "takes responses between the two codes of the session alone"

-- whether the standard forbids something, in words
abbrev pub bearing_text : Bearing → List ℕ
bearing_text Forbidden = codes "not allowed"
bearing_text Allowed = codes "allowed, but not taken here"
