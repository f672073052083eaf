-- An argument that is required or has a default always has a value.
use Rattle.std.proofs.Common.{zero, suc, ◌≡◌, ◌⊎◌, ◌∙◌, subst, ◌<◌, ◌≤◌, ap, ◌&&◌, ◌||◌, ℕ, Bool, true, false, not, List, [], ◌∷◌, length, map, codes, is_some, Option, Some, None, refl, sym, inl, inr, arith, true≢false}
use Rattle.std.specs.List.{All, find, list_all, list_any, slice_index_or}
use Rattle.std.specs.Str.{bytes_eq}
use Rattle.std.specs.Prelude.{IsSome, option_map, slice_get}
use Rattle.std.specs.Borrow.{Bor}
use Rattle.std.proofs.lemmas.Slice.Eq.{bytes_eq-Decides}
use Rattle.clap.specs.Texts.{items_of}
use Rattle.clap.specs.Words.{Rule, Text, app_of, first_of, found_of, has_subcommand, rows_of, rule_of, shape_of}
use Rattle.clap.specs.Simple.{has_plain_fields}
use Rattle.clap.specs.declared.builder.command.Command.TheOpen.{Command-F}
use Rattle.clap.specs.Facts.{Entry, EntryPasses, IsParsed, args_of, groups_of, least_values}
use Rattle.clap.specs.Built.{IsAuto, IsParsedFrom, IsPlain, IsPlainArg}
use Rattle.clap.specs.Matches.{first_value, matched_of}
use Rattle.clap.specs.Walk.{is_empty, is_free_arg, is_simple_arg}
use Rattle.clap.specs.declared.builder.action.ArgAction.{ArgAction}
use Rattle.clap.specs.declared.builder.action.ArgAction.TheVariants.{Count, Set}
use Rattle.clap.specs.declared.builder.arg.Arg.{Arg}
use Rattle.clap.specs.declared.builder.command.Command.{Command}
use Rattle.clap.specs.declared.builder.command.Command.TheViews.{out-Command}
use Rattle.clap.specs.declared.parser.matches.ArgMatches.{ArgMatches}
use Rattle.clap.specs.declared.parser.matches.MatchedArg.{MatchedArg}
use Rattle.clap.proofs.CallerLemmas.{default_present, entry_by_id, present_has_entry, required_present, same_rules_by_id}
use Rattle.clap.proofs.SimpleLemmas.{is_false, is_nil}
use Rattle.clap.proofs.TakesLemmas.{each_rule}
use Rattle.clap.proofs.WalkLemmas.{both, first_value-rows}
use Rattle.oftp_command_line.specs.Arguments.{always_has, has_alone, is_certain, is_own, is_set}

-- ---- from the tests of the rules to facts of the arguments

is_none : {X : Type 0} (o : Option X) → not (is_some o) ≡ true → o ≡ None
is_none None e = refl
is_none (Some x) e = absurd (true≢false (sym e))

either : (a b : Bool) → (a || b) ≡ true → (a ≡ true) ⊎ (b ≡ true)
either true b e = inl refl
either false b e = inr e

neither : (a b : Bool) → (a || b) ≡ false → (a ≡ false) × (b ≡ false)
neither true b e = absurd (true≢false e)
neither false b e = (refl, e)

some_texts : (xs : List (Bor Text)) → not (is_empty (map (λ (s : Bor Text). s.now) xs)) ≡ true → 0 < length xs
some_texts [] e = absurd (true≢false (sym e))
some_texts (x ∷ xs) e = omega arith

set_action : (o : Option ArgAction) → is_set o ≡ true → o ≡ Some Set
set_action (Some Set) e = refl
set_action other e = absurd (true≢false (sym e))

-- what the test `is_simple && is_free` says of an argument
record Lone (a : Arg) : Type 0 where
  plain : IsPlainArg a
  no_ifs : a.default_vals_ifs.items ≡ []
  no_delimiter : a.val_delim ≡ None

lone : (a : Arg) → (is_simple_arg a && is_free_arg a) ≡ true → Lone a
lone a e =
    let parts = both (is_simple_arg a) (is_free_arg a) e in
    let overrides = both _ _ parts.0 in
    let ifs = both _ _ overrides.1 in
    let groups = both _ _ ifs.1 in
    let delimiter = both (not (is_some a.val_delim))
    (not (is_some a.terminator) && (not a.allow_hyphen_values && (not a.allow_negative_numbers && (not a.require_equals && (not a.last && not a.global)))))
    groups.1 in
    let exclusive = both _ _ parts.1 in
    let conflicts = both _ _ exclusive.1 in
    record {
      plain = (is_false _ exclusive.0, is_nil _ conflicts.0, is_nil _ overrides.0, is_nil _ groups.0);
      no_ifs = is_nil _ ifs.0;
      no_delimiter = is_none _ delimiter.0;
    }

-- what the test `is_certain` says of an argument
record Certain (a : Arg) : Type 0 where
  wanted : (a.required ≡ true) ⊎ (0 < length (items_of a.default_vals))
  set : a.action ≡ Some Set
  least : 1 ≤ least_values a

certain : (a : Arg) → is_certain (rule_of a) ≡ true → Certain a
certain a e =
    let parts = both _ _ e in
    let rest = both _ _ parts.1 in
    let one : a.num_vals ≡ None = is_none _ rest.1 in
    record {
      wanted = elim (either _ _ parts.0) [ inl h ↦ inl h | inr h ↦ inr (some_texts _ h) ];
      set = set_action _ rest.0;
      least = rw one (omega arith);
    }

-- ---- the index of the argument with an id

pub record Place (is_such : Rule → Bool) (xs : List Arg) (id : Text) : Type 0 where
  pub place : ℕ
  pub within : place < length xs
  pub named : (d : Arg) → (slice_index_or xs place d).id.now ≡ id
  pub such : (d : Arg) → is_such (rule_of (slice_index_or xs place d)) ≡ true
  pub only : (j : ℕ) (e : Arg) → j < length xs → bytes_eq (slice_index_or xs j e).id.now id ≡ true → j ≡ place

none_has : (xs : List Arg) (id : Text) → list_any (λ (other : Rule). bytes_eq other.id id) (map rule_of xs) ≡ false
    → (j : ℕ) (e : Arg) → j < length xs → bytes_eq (slice_index_or xs j e).id.now id ≡ true → ⊥
none_has [] id none j e lt is = omega arith
none_has (x ∷ xs) id none zero e lt is = true≢false (sym is ∙ (neither _ _ none).0)
none_has (x ∷ xs) id none (suc j) e lt is = none_has xs id (neither _ _ none).1 j e (omega arith) is

place_at : (is_such : Rule → Bool) (xs : List Arg) (id : Text) → has_alone is_such id (map rule_of xs) ≡ true → Place is_such xs id
place_at is_such [] id e = absurd (true≢false (sym e))
place_at is_such (x ∷ xs) id e = go (bytes_eq x.id.now id) refl (λ rest. place_at is_such xs id rest)
  where
    first : bytes_eq x.id.now id ≡ true → list_any (λ (other : Rule). bytes_eq other.id id) (map rule_of xs) ≡ false
        → (j : ℕ) (d : Arg) → j < length (x ∷ xs) → bytes_eq (slice_index_or (x ∷ xs) j d).id.now id ≡ true → j ≡ 0
    first is none zero d lt same = refl
    first is none (suc j) d lt same = absurd (none_has xs id none j d (omega arith) same)

    later : bytes_eq x.id.now id ≡ false → (rest : Place is_such xs id)
        → (j : ℕ) (d : Arg) → j < length (x ∷ xs) → bytes_eq (slice_index_or (x ∷ xs) j d).id.now id ≡ true → j ≡ suc rest.place
    later is rest zero d lt same = absurd (true≢false (sym same ∙ is))
    later is rest (suc j) d lt same = ap suc (rest.only j d (omega arith) same)

    go : (b : Bool) → bytes_eq x.id.now id ≡ b → (has_alone is_such id (map rule_of xs) ≡ true → Place is_such xs id) → Place is_such (x ∷ xs) id
    go true is rec =
        let parts = both _ _ (rw is at e) in
        record {
          place = 0;
          within = omega arith;
          named = λ d. (bytes_eq-Decides x.id.now id).0 is;
          such = λ d. parts.0;
          only = first is (is_false _ parts.1);
        }
    go false is rec =
        let rest = rec (rw is at e) in
        record {
          place = suc rest.place;
          within = omega (arith, rest.within);
          named = λ d. rest.named d;
          such = λ d. rest.such d;
          only = later is rest;
        }

-- ---- the value of an entry

found_by_id : (xs : List Entry) (id : Text) (i : ℕ) → i < length xs → ((d : Entry) → bytes_eq (slice_index_or xs i d).0.now id ≡ true)
    → is_some (option_map (λ (e : Entry). e.1) (find (λ (e : Entry). bytes_eq e.0.now id) xs)) ≡ true
found_by_id [] id i lt is = absurd (omega arith)
found_by_id (x ∷ xs) id zero lt is = rw (is x) refl
found_by_id (x ∷ xs) id (suc i) lt is = go (bytes_eq x.0.now id) refl (found_by_id xs id i (omega arith) (λ d. is d))
  where
    go : (b : Bool) → bytes_eq x.0.now id ≡ b → is_some (option_map (λ (e : Entry). e.1) (find (λ (e : Entry). bytes_eq e.0.now id) xs)) ≡ true
        → is_some (option_map (λ (e : Entry). e.1) (find (λ (e : Entry). bytes_eq e.0.now id) (x ∷ xs))) ≡ true
    go true same rest = rw same refl
    go false same rest = rw same rest

first_some : (xs : List (Bor Text)) → 0 < length xs → is_some (option_map (λ (s : Bor Text). s.now) (slice_get xs 0)) ≡ true
first_some [] lt = absurd (omega arith)
first_some (x ∷ xs) lt = refl

-- an argument that takes one value, is alone with its id and has an entry, has a value
entry_has_value : (old : Command) (m : ArgMatches) → IsParsedFrom old m → IsPlain old → (out-Command old).has_globals ≡ false
    → (k : ℕ) (d : Arg) → k < length (args_of old)
    → (slice_index_or (args_of old) k d).action ≡ Some Set → (slice_index_or (args_of old) k d).val_delim ≡ None
    → 1 ≤ least_values (slice_index_or (args_of old) k d)
    → ((j : ℕ) (e : Arg) → j < length (args_of old)
    → bytes_eq (slice_index_or (args_of old) j e).id.now (slice_index_or (args_of old) k d).id.now ≡ true → j ≡ k)
    → ((slice_index_or (args_of old) k d).id.now ≡ [] → ⊥)
    → (IsAuto (slice_index_or (args_of old) k d) → ⊥)
    → is_some (matched_of (found_of m) (slice_index_or (args_of old) k d).id.now) ≡ true
    → is_some (first_value (found_of m) (slice_index_or (args_of old) k d).id.now) ≡ true
entry_has_value old m p plain globals k d lt set delim least unique named own has =
    go (matched_of (found_of m) (slice_index_or (args_of old) k d).id.now) refl has (p.parsed (p.from.globals ∙ globals))
  where
    go : (o : Option MatchedArg) → matched_of (found_of m) (slice_index_or (args_of old) k d).id.now ≡ o → is_some (matched_of (found_of m) (slice_index_or (args_of old) k d).id.now) ≡ true
        → IsParsed p.built (found_of m) (has_subcommand m)
        → is_some (first_value (found_of m) (slice_index_or (args_of old) k d).id.now) ≡ true
    go None e some parsed = cc
    go (Some x) e some parsed =
        let got = entry_by_id (EntryPasses p.built) (found_of m).entries.items (slice_index_or (args_of old) k d).id.now x parsed.values e in
        let same_x : got.0.1 ≡ x = got.1 in
        let key : bytes_eq got.0.0.now (slice_index_or (args_of old) k d).id.now ≡ true = got.2 in
        let key_id : got.0.0.now ≡ (slice_index_or (args_of old) k d).id.now = (bytes_eq-Decides _ _).0 key in
        let no_groups : groups_of p.built ≡ [] = (p.from.plain plain).1 in
        elim got.3.1 [
          | inl h ↦ elim h.1 [
            | inl empty ↦ absurd (named (sym key_id ∙ empty))
            | inr has ↦
                let bad : 0 < 0 = rw no_groups at has in
                absurd (omega arith)
          ]
          | inr (inl v) ↦ rw e (first_some x.vals.items (rw same_x at v))
          | inr (inr (inl h)) ↦
              let any = h.1 in
              let s = same_rules_by_id old m p k d lt unique own any.0 any.1 any.2 any.3 (rw key_id at any.4.0) in
              let is_set : any.1.action ≡ Some Set = s.action Set set in
              let bad : Set ≡ Count = rw is_set at any.4.1 in
              cc
          | inr (inr (inr h)) ↦
              let s = same_rules_by_id old m p k d lt unique own h.0 h.1 h.2 h.3 (rw key_id at h.4.0) in
              elim h.4.1 [
                | inl none ↦
                    let one = s.least set least in
                    absurd (omega arith)
                | inr has ↦
                    let bad : false ≡ true = rw (s.val_delim, delim) at has in
                    cc
              ]
        ]

-- ---- each parse

-- the first argument of a list that isn't empty
some_arg : (xs : List Arg) → 0 < length xs → Arg
some_arg [] lt = absurd (omega arith)
some_arg (x ∷ xs) lt = x

-- a plain command has no group and no global argument
plain_fields : (f : Command-F Command) → has_plain_fields f ≡ true → (f.groups.items ≡ []) × (f.has_globals ≡ false)
plain_fields f e =
    let groups = both (is_empty f.groups.items) _ e in
    let external = both (not f.allow_external_subcommands) _ groups.1 in
    let globals = both (not f.has_globals) (not f.infer_long_args && (not f.allow_missing_positional && (not f.infer_subcommands && (not f.args_conflicts_with_subcommands
    && (not f.subcommand_precedence_over_arg && (not (is_some f.long_flag) && (not (is_some f.short_flag) && (is_empty f.long_flag_aliases.items && is_empty f.short_flag_aliases.items))))))))
    external.1 in
    (is_nil _ groups.0, is_false _ globals.0)

-- what `always_has` says of a command
pub record Always (is_such : Rule → Bool) (c : Command) (id : Text) : Type 0 where
  pub plain : IsPlain c
  pub globals : (out-Command c).has_globals ≡ false
  pub negates : (out-Command c).subcommand_negates_reqs ≡ false
  pub lone : All (λ (a : Arg). (is_simple_arg a && is_free_arg a) ≡ true) (args_of c)
  pub named : id ≡ [] → ⊥
  pub not_auto : (a : Arg) → a.id.now ≡ id → IsAuto a → ⊥
  pub at : Place is_such (args_of c) id
  pub some : Arg

pub always : (is_such : Rule → Bool) (c : Command) (id : Text) → always_has is_such (app_of c) id ≡ true → Always is_such c id
always is_such c id e =
    let top = shape_of c in
    let plain_and = both top.is_plain _ e in
    let negates_and = both (not top.subcommand_negates_reqs) _ plain_and.1 in
    let lone_and = both (list_all (λ (r : Rule). r.is_simple && r.is_free) top.rules) _ negates_and.1 in
    let own_and = both (is_own id) (has_alone is_such id top.rules) lone_and.1 in
    let parts = both _ _ own_and.0 in
    let names = both _ _ parts.1 in
    let fields = plain_fields (out-Command c) plain_and.0 in
    let all = each_rule (λ (r : Rule). r.is_simple && r.is_free) (args_of c) lone_and.0 in
    let place = place_at is_such (args_of c) id own_and.1 in
    record {
      plain = ((λ k d lt. (lone (slice_index_or (args_of c) k d) (all k d lt)).plain), fields.0);
      globals = fields.1;
      negates = is_false _ negates_and.0;
      lone = all;
      named = λ empty.
          let bad : is_empty id ≡ true = rw empty refl in
          true≢false (sym bad ∙ is_false _ parts.0);
      not_auto = λ a same auto. elim auto [
        | inl help ↦ true≢false (sym ((bytes_eq-Decides id (codes "help")).1 (sym same ∙ help)) ∙ is_false _ names.0)
        | inr version ↦ true≢false (sym ((bytes_eq-Decides id (codes "version")).1 (sym same ∙ version)) ∙ is_false _ names.1)
      ];
      at = place;
      some = some_arg (args_of c) (omega (arith, place.within));
    }

-- an argument that is certain has a value
pub value_at : (is_such : Rule → Bool) → ((r : Rule) → is_such r ≡ true → is_certain r ≡ true) → (c : Command) (m : ArgMatches) → IsParsedFrom c m
    → (id : Text) → Always is_such c id → is_some (first_value (found_of m) id) ≡ true
value_at is_such is_sure c m p id h =
    let k = h.at.place in
    let d = h.some in
    let a = slice_index_or (args_of c) k d in
    let alone = lone a (h.lone k d h.at.within) in
    let named = h.at.named d in
    let sure = certain a (is_sure _ (h.at.such d)) in
    let entry : is_some (matched_of (found_of m) a.id.now) ≡ true = elim sure.wanted [
      | inl required ↦ present_has_entry (found_of m) a.id.now (required_present c m p h.plain h.globals h.negates k d h.at.within required)
      | inr defaults ↦
          let has = default_present c m p h.globals k d h.at.within (alone.no_ifs, defaults) in
          found_by_id (found_of m).entries.items a.id.now has.0 has.1 has.2
    ] in
    let value = entry_has_value c m p h.plain h.globals k d h.at.within sure.set alone.no_delimiter sure.least
    (λ j e lt same. h.at.only j e lt (rw named at same))
    (λ empty. h.named (sym named ∙ empty)) (h.not_auto a named) entry in
    subst (λ (t : Text). is_some (first_value (found_of m) t) ≡ true) named value

pub has_texts : (c : Command) (m : ArgMatches) → IsParsedFrom c m → (id : Text) → always_has is_certain (app_of c) id ≡ true
    → IsSome (first_of id (rows_of (found_of m)))
has_texts c m p id e =
    let value = value_at is_certain (λ r sure. sure) c m p id (always is_certain c id e) in
    subst (λ (o : Option Text). is_some o ≡ true) (first_value-rows (found_of m) id) value
