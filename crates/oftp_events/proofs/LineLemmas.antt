-- The text of a line, member by member.
use Rattle.std.proofs.Common.{◌≡◌, ℕ, List, [], ◌∷◌, ◌++◌, Option, None, Some, fold, codes, refl, ap, sym, ◌∙◌, append_assoc, true}
use Rattle.std.specs.Borrow.{Bor}
use Rattle.serde_json.specs.Data.{Data, Members, member, object, string}
use Rattle.serde_json.specs.Written.{compact_text, members_text}
use Rattle.serde_json.proofs.OnLiterals.{serde_json_on_literals}
use Rattle.oftp_events.specs.InsideMembers.{member_text, key_values, field_data, with_member}
use Rattle.oftp_events.specs.Lines.{member_if, present_members}
use Rattle.oftp_events.specs.declared.members.Field.{Field}

regroup : (key value rest : List ℕ) → ((44 ∷ (key ++ 58 ∷ [])) ++ value) ++ rest ≡ 44 ∷ (key ++ 58 ∷ (value ++ rest))
regroup key value rest = ap (λ (t : List ℕ). 44 ∷ t) (append_assoc (key ++ 58 ∷ []) value rest ∙ append_assoc key (58 ∷ []) (value ++ rest))

-- a member is appended to what the others are appended to
first_added : (key : List ℕ) (value : Option Data) (ms : Members) → member_text key value ++ members_text true ms ≡ members_text true (member_if key value ms)
first_added key None ms = refl
first_added key (Some value) ms = regroup (compact_text (string key)) (compact_text value) (members_text true ms)

-- all members are appended, and the object ends
all_added : (members : List (Bor (List ℕ) × Field)) (text : List ℕ) → fold with_member text members ++ 125 ∷ [] ≡ text ++ members_text true (present_members (key_values members))
all_added [] text = refl
all_added (m ∷ ms) text =
    all_added ms (with_member text m)
    ∙ append_assoc text (member_text m.0.now (field_data m.1)) (members_text true (present_members (key_values ms)))
    ∙ ap (λ (t : List ℕ). text ++ t) (first_added m.0.now (field_data m.1) (present_members (key_values ms)))

-- the object begins with its first key
begun : (first : List ℕ) (ms : Members) → codes "{\"at\":" ++ (compact_text (string first) ++ members_text true ms) ≡ compact_text (object (member (codes "at") (string first) ms))
unfolding serde_json_on_literals
begun first ms = refl

-- the line, as it is written: its first key with its value, the other members, and the end
pub line_is : (first front one all line : List ℕ) (members : List (Bor (List ℕ) × Field)) (values : List (List ℕ × Option Data))
    → front ≡ codes "{\"at\":" → one ≡ front ++ compact_text (string first) → all ≡ fold with_member one members → line ≡ all ++ codes "}\n"
    → (codes "at", Some (string first)) ∷ key_values members ≡ values
    → line ≡ compact_text (object (present_members values)) ++ codes "\n"
line_is first front one all line members values a b c d e =
    let ms : Members = present_members (key_values members) in
    let value : List ℕ = compact_text (string first) in
    let object_is : all ++ 125 ∷ [] ≡ compact_text (object (member (codes "at") (string first) ms)) =
    ap (λ (t : List ℕ). t ++ 125 ∷ []) c ∙ all_added members one ∙ ap (λ (t : List ℕ). t ++ members_text true ms) (b ∙ ap (λ (t : List ℕ). t ++ value) a)
    ∙ append_assoc (codes "{\"at\":") value (members_text true ms) ∙ begun first ms in
    d ∙ sym (append_assoc all (125 ∷ []) (codes "\n")) ∙ ap (λ (t : List ℕ). t ++ codes "\n") object_is
    ∙ ap (λ (vs : List (List ℕ × Option Data)). compact_text (object (present_members vs)) ++ codes "\n") e
