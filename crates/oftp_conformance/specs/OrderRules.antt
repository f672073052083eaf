-- The rules on the order of commands, as data. Each has its section of RFC 5024, what it says, what is expected, and what to tell the partner.
use Rattle.std.specs.Prelude.{ℕ, List, codes, Option, Some, None}
use Rattle.oftp_conformance.specs.declared.departure.Departure.{Departure}
use Rattle.oftp_conformance.specs.declared.departure.Departure.TheVariants as departures
use Rattle.oftp_conformance.specs.declared.departure.Bearing.{Bearing}
use Rattle.oftp_conformance.specs.declared.departure.Bearing.TheVariants.{Allowed, Forbidden}
use Rattle.oftp_conformance.specs.declared.order_rule.OrderRule.{OrderRule}
use Rattle.oftp_conformance.specs.declared.order_rule.OrderRule.TheVariants.{OutOfPlace, EarlyCredit, MissingCredit, BeforeReady, NoTurn, SecondTurn, EarlyEnd, CreditRaised, CompressionAnswered, LogicAnswered, OtherOriginator, OtherDestination, PositionRaised, TooLong, BehindEnd, EmptyBehind, NoEnd, StreamRecords, Records, Units, SwappedCodes, OtherCodes}

-- the section that has a rule
abbrev pub order_section : OrderRule → List ℕ
order_section OutOfPlace = codes "9.10"
order_section EarlyCredit = codes "9.10"
order_section MissingCredit = codes "9.11"
order_section BeforeReady = codes "4.3.8"
order_section NoTurn = codes "9.10"
order_section SecondTurn = codes "3.3.4.2"
order_section EarlyEnd = codes "3.4.1"
order_section CreditRaised = codes "5.3.2"
order_section CompressionAnswered = codes "5.3.2"
order_section LogicAnswered = codes "5.3.2"
order_section OtherOriginator = codes "5.3.3"
order_section OtherDestination = codes "5.3.3"
order_section PositionRaised = codes "5.3.4"
order_section TooLong = codes "5.3.2"
order_section BehindEnd = codes "7.2"
order_section EmptyBehind = codes "7.3"
order_section NoEnd = codes "7.2"
order_section StreamRecords = codes "5.3.8"
order_section (Records n) = codes "5.3.8"
order_section (Units n) = codes "5.3.8"
order_section SwappedCodes = codes "5.3.13"
order_section OtherCodes = codes "3.3.5"

-- what it says
abbrev pub order_says : OrderRule → List ℕ
order_says OutOfPlace = codes "each phase takes certain commands of one side alone"
order_says EarlyCredit = codes "CDT comes once the Credit is used up"
order_says MissingCredit = codes "without Credit a speaker waits for CDT, before EFID too"
order_says BeforeReady = codes "after EERP or NERP nothing but RTR may come"
order_says NoTurn = codes "after EFPA with Y only CD may come"
order_says SecondTurn = codes "CD may not follow an unsolicited CD"
order_says EarlyEnd = codes "ESID 00 may only follow an unsolicited CD"
order_says CreditRaised = codes "the answer has no more Credit than the offer"
order_says CompressionAnswered = codes "compression is used only if both support it"
order_says LogicAnswered = codes "special logic is used only if both support it"
order_says OtherOriginator = codes "SFIDORIG is the originator, of whatever station"
order_says OtherDestination = codes "SFIDDEST is the final recipient, of whatever station"
order_says PositionRaised = codes "SFPAACNT is at most SFIDREST"
order_says TooLong = codes "DATA have at most the smaller SSIDSDEB, with their letter"
order_says BehindEnd = codes "the end flag of U and T ends the file"
order_says EmptyBehind = codes "an empty subrecord may stand anywhere"
order_says NoEnd = codes "the last subrecord of a record, or of U and T, has the end flag"
order_says StreamRecords = codes "EFIDRCNT is 0 for U and T"
order_says (Records n) = codes "EFIDRCNT is the number of records of the file"
order_says (Units n) = codes "EFIDUCNT is the number of octets of the file"
order_says SwappedCodes = codes "a response goes from the file's destination to its originator"
order_says OtherCodes = codes "a response may be for whatever station"

-- what is expected
abbrev pub order_wanted : OrderRule → List ℕ
order_wanted OutOfPlace = codes "the command that this phase takes"
order_wanted EarlyCredit = codes "no CDT while Credit is left"
order_wanted MissingCredit = codes "no command before CDT"
order_wanted BeforeReady = codes "RTR"
order_wanted NoTurn = codes "CD"
order_wanted SecondTurn = codes "ESID 00, or something to send"
order_wanted EarlyEnd = codes "CD, and then ESID 00 of the other side"
order_wanted CreditRaised = codes "no more than the other SSIDCRED"
order_wanted CompressionAnswered = codes "N, as in the other SSID"
order_wanted LogicAnswered = codes "N, as in the other SSID"
order_wanted OtherOriginator = codes "the code of the SSID of the same side"
order_wanted OtherDestination = codes "the code of the SSID of the other side"
order_wanted PositionRaised = codes "no more than the offered position"
order_wanted TooLong = codes "no more octets than that"
order_wanted BehindEnd = codes "one end flag, on the last subrecord"
order_wanted EmptyBehind = codes "nothing behind the end flag of U and T"
order_wanted NoEnd = codes "an end flag before EFID"
order_wanted StreamRecords = codes "a count of 0"
order_wanted (Records n) = codes "the number that came"
order_wanted (Units n) = codes "the number that came"
order_wanted SwappedCodes = codes "the code of the other side as the destination"
order_wanted OtherCodes = codes "the codes of both SSIDs"

-- what to tell the partner
abbrev pub order_advice : OrderRule → List ℕ
order_advice OutOfPlace = codes "keep to the order of commands of section 9"
order_advice EarlyCredit = codes "send CDT only once all Credit is used up"
order_advice MissingCredit = codes "wait for CDT once the Credit is used up, before EFID too"
order_advice BeforeReady = codes "send RTR after each response, and nothing before it"
order_advice NoTurn = codes "send CD after EFPA with Y"
order_advice SecondTurn = codes "end with ESID 00 where neither side has something to send"
order_advice EarlyEnd = codes "give the direction away by CD before the end"
order_advice CreditRaised = codes "answer with the smaller credit of both"
order_advice CompressionAnswered = codes "turn buffer compression off for this station"
order_advice LogicAnswered = codes "turn special logic off for this station"
order_advice OtherOriginator = codes "send files under the code of the session"
order_advice OtherDestination = codes "address files to the code of the session"
order_advice PositionRaised = codes "continue a file at or before the offered position"
order_advice TooLong = codes "keep to the smaller buffer of both"
order_advice BehindEnd = codes "set the end flag on the last subrecord of U and T alone"
order_advice EmptyBehind = codes "send no empty subrecords behind the end of a file"
order_advice NoEnd = codes "set the end flag on the last subrecord"
order_advice StreamRecords = codes "send a record count of 0 for U and T"
order_advice (Records n) = codes "compare the record count with what was sent"
order_advice (Units n) = codes "compare the unit count with what was sent"
order_advice SwappedCodes = codes "exchange destination and originator in responses"
order_advice OtherCodes = codes "send responses under the codes of the session"

-- whether the standard forbids what breaks a rule
abbrev pub order_bearing : OrderRule → Bearing
order_bearing OutOfPlace = Forbidden
order_bearing EarlyCredit = Forbidden
order_bearing MissingCredit = Forbidden
order_bearing BeforeReady = Forbidden
order_bearing NoTurn = Forbidden
order_bearing SecondTurn = Forbidden
order_bearing EarlyEnd = Forbidden
order_bearing CreditRaised = Forbidden
order_bearing CompressionAnswered = Allowed
order_bearing LogicAnswered = Allowed
order_bearing OtherOriginator = Allowed
order_bearing OtherDestination = Allowed
order_bearing PositionRaised = Forbidden
order_bearing TooLong = Forbidden
order_bearing BehindEnd = Forbidden
order_bearing EmptyBehind = Allowed
order_bearing NoEnd = Forbidden
order_bearing StreamRecords = Forbidden
order_bearing (Records n) = Forbidden
order_bearing (Units n) = Forbidden
order_bearing SwappedCodes = Forbidden
order_bearing OtherCodes = Allowed

-- the departure of this station that takes part
abbrev pub order_departure : OrderRule → Option Departure
order_departure OutOfPlace = None
order_departure EarlyCredit = None
order_departure MissingCredit = None
order_departure BeforeReady = None
order_departure NoTurn = Some departures.KeptDirection
order_departure SecondTurn = Some departures.EndlessTurns
order_departure EarlyEnd = Some departures.EarlyEnds
order_departure CreditRaised = Some departures.LowerCredit
order_departure CompressionAnswered = Some departures.AnsweredOptions
order_departure LogicAnswered = Some departures.AnsweredOptions
order_departure OtherOriginator = Some departures.OwnCodes
order_departure OtherDestination = Some departures.OwnCodes
order_departure PositionRaised = None
order_departure TooLong = None
order_departure BehindEnd = Some departures.StrictEnds
order_departure EmptyBehind = Some departures.StrictEnds
order_departure NoEnd = Some departures.StrictEnds
order_departure StreamRecords = None
order_departure (Records n) = None
order_departure (Units n) = None
order_departure SwappedCodes = Some departures.OwnResponses
order_departure OtherCodes = Some departures.OwnResponses
