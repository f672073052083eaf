-- The rules of all groups as one.
use Rattle.std.specs.Prelude.{ℕ, List, Option}
use Rattle.oftp_conformance.specs.declared.departure.Bearing.{Bearing}
use Rattle.oftp_conformance.specs.declared.departure.Departure.{Departure}
use Rattle.oftp_conformance.specs.declared.rule.Rule.{Rule}
use Rattle.oftp_conformance.specs.declared.rule.Rule.TheVariants.{Frame, Form, Value, Order}
use Rattle.oftp_conformance.specs.FrameRules.{frame_section, frame_says, frame_wanted, frame_advice, frame_bearing, frame_departure}
use Rattle.oftp_conformance.specs.FormRules.{form_section, form_says, form_wanted, form_advice, form_bearing, form_departure}
use Rattle.oftp_conformance.specs.ValueRules.{value_section, value_says, value_wanted, value_advice, value_bearing, value_departure}
use Rattle.oftp_conformance.specs.OrderRules.{order_section, order_says, order_wanted, order_advice, order_bearing, order_departure}

-- the section that has a rule
abbrev pub rule_section : Rule → List ℕ
rule_section (Frame r) = frame_section r
rule_section (Form r) = form_section r
rule_section (Value r) = value_section r
rule_section (Order r) = order_section r

-- what it says
abbrev pub rule_says : Rule → List ℕ
rule_says (Frame r) = frame_says r
rule_says (Form r) = form_says r
rule_says (Value r) = value_says r
rule_says (Order r) = order_says r

-- what is expected
abbrev pub rule_wanted : Rule → List ℕ
rule_wanted (Frame r) = frame_wanted r
rule_wanted (Form r) = form_wanted r
rule_wanted (Value r) = value_wanted r
rule_wanted (Order r) = order_wanted r

-- what to tell the partner
abbrev pub rule_advice : Rule → List ℕ
rule_advice (Frame r) = frame_advice r
rule_advice (Form r) = form_advice r
rule_advice (Value r) = value_advice r
rule_advice (Order r) = order_advice r

-- whether the standard forbids what breaks it
abbrev pub rule_bearing : Rule → Bearing
rule_bearing (Frame r) = frame_bearing r
rule_bearing (Form r) = form_bearing r
rule_bearing (Value r) = value_bearing r
rule_bearing (Order r) = order_bearing r

-- the departure of this station that takes part
abbrev pub rule_departure : Rule → Option Departure
rule_departure (Frame r) = frame_departure r
rule_departure (Form r) = form_departure r
rule_departure (Value r) = value_departure r
rule_departure (Order r) = order_departure r
