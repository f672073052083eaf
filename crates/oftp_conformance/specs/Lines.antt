-- What is printed of a rule that is broken.
use Rattle.std.specs.Prelude.{ℕ, List, [], ◌++◌, take, drop, codes, Option, Some, None}
use Rattle.std.specs.Fmt.{decimal}
use Rattle.oftp_telling.specs.declared.kind.CommandKind.TheVariants as kinds
use Rattle.oftp_telling.specs.CommandKinds.{kind_word}
use Rattle.oftp_telling.specs.Names.{Entry}
use Rattle.oftp_telling.specs.Lines.{spot_text, evidence_text, field_evidence, rule_text}
use Rattle.oftp_codec.specs.declared.limits.TheConstants.{FRAME_HEADER}
use Rattle.oftp_conformance.specs.declared.departure.Departure.{Departure}
use Rattle.oftp_conformance.specs.declared.departure.Departure.TheVariants as departures
use Rattle.oftp_conformance.specs.declared.rule.Rule.{Rule}
use Rattle.oftp_conformance.specs.declared.rule.Rule.TheVariants as rules
use Rattle.oftp_conformance.specs.declared.order_rule.OrderRule.TheVariants as orders
use Rattle.oftp_conformance.specs.Departures.{departure_section, departure_does, bearing_text}
use Rattle.oftp_conformance.specs.Rules.{rule_section, rule_says, rule_wanted, rule_advice, rule_bearing, rule_departure}
use Rattle.oftp_conformance.specs.Places.{Spot, AtHeader, AtBeginning, AtField, AtEnd, AtCommand, Found}

-- a place in octets, and what these have there, but not a password
unfoldable pub place_text : Spot → List ℕ → List ℕ
place_text AtHeader o = codes "stream header: " ++ evidence_text (take FRAME_HEADER o)
place_text AtBeginning o = codes "first octet: " ++ evidence_text (take 1 o)
place_text (AtField k e) o = spot_text k (codes "field " ++ e.name) e.at ++ field_evidence e o
place_text (AtCommand k) o = kind_word k
place_text (AtEnd k end) o = spot_text k (codes "behind its last field") end ++ evidence_text (drop end o)

-- what the standard says
unfoldable pub says_text : Rule → List ℕ
says_text r = codes "\n  " ++ (bearing_text (rule_bearing r) ++ (codes " (RFC 5024, section " ++ (rule_section r ++ (codes "): " ++ rule_says r))))

-- what a field may have by its form
unfoldable pub expected_octets : Entry → List ℕ
expected_octets e = codes "\n  expected: " ++ rule_text e.form

-- what is expected by a rule
unfoldable pub expected_words : Rule → List ℕ
expected_words r = codes "\n  expected: " ++ rule_wanted r

-- which number is expected
unfoldable pub expected_count : ℕ → List ℕ
expected_count n = codes "\n  expected: " ++ decimal n

-- what is expected: of a field whose form is wrong, what its form allows, and of a count, what was counted
abbrev pub expected_text : Rule → Spot → List ℕ
expected_text (rules.Form r) (AtField k e) = expected_octets e
expected_text (rules.Form r) AtHeader = expected_words (rules.Form r)
expected_text (rules.Form r) AtBeginning = expected_words (rules.Form r)
expected_text (rules.Form r) (AtEnd k end) = expected_words (rules.Form r)
expected_text (rules.Form r) (AtCommand k) = expected_words (rules.Form r)
expected_text (rules.Frame r) s = expected_words (rules.Frame r)
expected_text (rules.Value r) s = expected_words (rules.Value r)
expected_text (rules.Order (orders.Records n)) s = expected_count n
expected_text (rules.Order (orders.Units n)) s = expected_count n
expected_text (rules.Order r) s = expected_words (rules.Order r)

-- a departure of this station that takes part
unfoldable pub one_departure : Departure → List ℕ
one_departure d = codes "\n  this station " ++ (departure_does d ++ (codes " (a departure from section " ++ (departure_section d ++ codes ")")))

-- the departure that takes part: a field of SFID whose form is wrong ends the session, as it does in other commands
abbrev pub departure_of : Rule → Spot → Option Departure
departure_of (rules.Form r) (AtField kinds.Sfid e) = Some departures.BadOffers
departure_of r s = rule_departure r

-- the departure that takes part, if one does
abbrev pub departure_text : Option Departure → List ℕ
departure_text None = []
departure_text (Some d) = one_departure d

-- what to tell the partner
unfoldable pub advice_text : Rule → List ℕ
advice_text r = codes "\n  tell the partner: " ++ rule_advice r

-- a rule that is broken: where and by which octets, what the standard says, what is expected, what this station does, and what to say
unfoldable pub finding_text : Found → List ℕ → List ℕ
finding_text f o = place_text f.spot o ++ (says_text f.rule ++ (expected_text f.rule f.spot ++ (departure_text (departure_of f.rule f.spot) ++ advice_text f.rule)))
