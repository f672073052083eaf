-- An argument that takes numbers has one of them as its value, if it has one; if it is required or has a default, it always has one.
use Rattle.std.proofs.Common.{◌≡◌, ◌∙◌, ap, ◌==◌, ◌<◌, ℕ, Bool, true, false, List, [], ◌∷◌, length, is_some, Option, Some, None, refl, sym, subst, true≢false, inl, inr, arith, unwrap_or}
use Rattle.std.specs.List.{All, slice_index_or}
use Rattle.std.specs.Str.{bytes_eq}
use Rattle.std.specs.Prelude.{IsSome, option_map, slice_get}
use Rattle.std.specs.Borrow.{Bor}
use Rattle.std.proofs.lemmas.List.Elements.{All-get_or}
use Rattle.std.proofs.lemmas.Slice.Eq.{bytes_eq-Decides}
use Rattle.clap.specs.Words.{Row, Rule, Text, app_of, first_of, found_of, one_of, rows_of, rule_of}
use Rattle.clap.specs.Facts.{Entry, EntryPasses, HasReading, PassesArg, ValuesPass, args_of, groups_of, parser_of, parser_of_value}
use Rattle.clap.specs.Built.{IsParsedFrom}
use Rattle.clap.specs.Matches.{first_value, matched_of, one_text}
use Rattle.clap.specs.Values.{Accepts, IsUnsignedIn, reading_of}
use Rattle.clap.specs.declared.builder.arg.Arg.{Arg}
use Rattle.clap.specs.declared.builder.command.Command.{Command}
use Rattle.clap.specs.declared.builder.value_parser.Reading.{Reading}
use Rattle.clap.specs.declared.builder.value_parser.Reading.TheVariants.{AsWritten}
use Rattle.clap.specs.declared.builder.value_parser.ValueParser.{ValueParser}
use Rattle.clap.specs.declared.builder.value_parser.ValueParser.TheVariants.{Unsigned}
use Rattle.clap.specs.declared.parser.matches.ArgMatches.{ArgMatches}
use Rattle.clap.specs.declared.parser.matches.Found.{Found}
use Rattle.clap.specs.declared.parser.matches.MatchedArg.{MatchedArg}
use Rattle.clap.proofs.CallerLemmas.{entry_by_id, same_rules_by_id}
use Rattle.clap.proofs.WalkLemmas.{both, first_value-rows, one_text-rows}
use Rattle.oftp_command_line.specs.Arguments.{HasValues, IsNumber, always_has, given, is_certain, is_certain_number, is_number, is_range}
use Rattle.oftp_command_line.proofs.CertainValues.{Always, always, has_texts, value_at}

-- a parser of the numbers from low to high
range_parser : (low high : ℕ) (o : Option ValueParser) → is_range low high o ≡ true → o ≡ Some (Unsigned low high)
range_parser low high (Some (Unsigned least most)) e =
    let ends = both (least == low) (most == high) e in
    let same_least : least ≡ low = grind arith in
    let same_most : most ≡ high = grind arith in
    rw (same_least, same_most) refl
range_parser low high other e = absurd (true≢false (sym e))

-- the first value, of values that are read as they are written
first_read : (f : Found) (id : Text) (x : MatchedArg) (Q : Text → Type 0) → matched_of f id ≡ Some x → x.reading ≡ AsWritten
    → All (λ (v : Bor Text). Q v.now) x.vals.items → is_some (first_value f id) ≡ true
    → (t : Text) × (first_value f id ≡ Some t) × (one_text f id ≡ Some t) × Q t
first_read f id x Q found as_written all has = go x.vals.items refl all (rw found at has)
  where
    go : (vs : List (Bor Text)) → x.vals.items ≡ vs → All (λ (v : Bor Text). Q v.now) vs
        → is_some (option_map (λ (s : Bor Text). s.now) (slice_get x.vals.items 0)) ≡ true
        → (t : Text) × (first_value f id ≡ Some t) × (one_text f id ≡ Some t) × Q t
    go [] e all has =
        let bad : false ≡ true = rw e at has in
        absurd (true≢false (sym bad))
    go (v ∷ vs) e all has =
        (v.now, rw (found, e) refl, rw (found, as_written, e) refl, All-get_or (λ (w : Bor Text). Q w.now) (v ∷ vs) 0 v (omega arith) all)

-- a value that is the text of a number in range is a number among the rows
number_is : (low high : ℕ) (id : Text) (rows : List Row) (t : Text) → first_of id rows ≡ Some t → one_of id rows ≡ Some t → IsUnsignedIn low high t
    → IsNumber low high id rows
number_is low high id rows t first one is =
    let same : given id rows ≡ t = ap (λ (o : Option Text). unwrap_or o []) first in
    record {
      text = one ∙ ap Some (sym same);
      digits = rw same is.0;
      fits = rw same is.1;
      least = rw same is.2;
      most = rw same is.3;
    }

-- the entry of an argument whose values are read as they are written
entry_read : (c : Command) (f : Found) (id : Text) (x : MatchedArg) (e : Entry) → groups_of c ≡ [] → (id ≡ [] → ⊥)
    → ((r : Reading) → HasReading c id r → r ≡ AsWritten) → matched_of f id ≡ Some x → is_some (first_value f id) ≡ true
    → e.1 ≡ x → e.0.now ≡ id → EntryPasses c e
    → (t : Text) × (first_value f id ≡ Some t) × (one_text f id ≡ Some t) × PassesArg c id t
entry_read c f id x e no_groups named reads found has same_x key_id pass =
    let no_group : e.1.is_group ≡ true → ⊥ = λ g. elim (pass.3 g) [
      | inl empty ↦ named (sym key_id ∙ empty)
      | inr lots ↦
          let bad : 0 < 0 = rw no_groups at lots in
          absurd (omega arith)
    ] in
    let all : All (λ (v : Bor Text). PassesArg c id v.now) x.vals.items = elim pass.0 [
      | inl g ↦ absurd (no_group g)
      | inr vals ↦ subst (λ (w : Text). All (λ (v : Bor Text). PassesArg c w v.now) x.vals.items) key_id (rw same_x at vals)
    ] in
    let is : e.1.reading ≡ AsWritten = elim pass.4 [
      | inl g ↦ absurd (no_group g)
      | inr h ↦ reads e.1.reading (subst (λ (w : Text). HasReading c w e.1.reading) key_id h)
    ] in
    first_read f id x (PassesArg c id) found (ap (λ (y : MatchedArg). y.reading) (sym same_x) ∙ is) all has

-- the entry of an id that is an argument's with a value
value_read : (c : Command) (f : Found) (id : Text) → ValuesPass c f → groups_of c ≡ [] → (id ≡ [] → ⊥)
    → ((r : Reading) → HasReading c id r → r ≡ AsWritten) → is_some (first_value f id) ≡ true
    → (t : Text) × (first_value f id ≡ Some t) × (one_text f id ≡ Some t) × PassesArg c id t
value_read c f id values no_groups named reads has = go (matched_of f id) refl has
  where
    step : (x : MatchedArg) → matched_of f id ≡ Some x → is_some (first_value f id) ≡ true
        → ((e : Entry) × (e.1 ≡ x) × (bytes_eq e.0.now id ≡ true) × EntryPasses c e)
        → (t : Text) × (first_value f id ≡ Some t) × (one_text f id ≡ Some t) × PassesArg c id t
    step x found has got = entry_read c f id x got.0 no_groups named reads found has got.1 ((bytes_eq-Decides got.0.0.now id).0 got.2) got.3

    go : (o : Option MatchedArg) → matched_of f id ≡ o → is_some (first_value f id) ≡ true
        → (t : Text) × (first_value f id ≡ Some t) × (one_text f id ≡ Some t) × PassesArg c id t
    go None e has =
        let bad : false ≡ true = rw e at has in
        absurd (true≢false (sym bad))
    go (Some x) e has = step x e has (entry_by_id (EntryPasses c) f.entries.items id x values e)

-- ---- such an argument at a parse

module _ (low high : ℕ) (is_such : Rule → Bool) (takes : (r : Rule) → is_such r ≡ true → is_number low high r ≡ true)
    (c : Command) (m : ArgMatches) (p : IsParsedFrom c m) (id : Text) (h : Always is_such c id) where
  -- the caller's argument
  abbrev own : Arg
  own = slice_index_or (args_of c) h.at.place h.some

  own_parser : own.value_parser ≡ Some (Unsigned low high)
  own_parser = range_parser low high own.value_parser (takes (rule_of own) (h.at.such h.some))

  -- the argument of the built command with its id takes the same numbers
  built_parser : (j : ℕ) (x : Arg) → j < length (args_of p.built) → slice_index_or (args_of p.built) j x ≡ x → bytes_eq x.id.now id ≡ true
      → parser_of x ≡ Unsigned low high
  built_parser j x lt at same =
      let named : own.id.now ≡ id = h.at.named h.some in
      let key : bytes_eq x.id.now own.id.now ≡ true = subst (λ (w : Text). bytes_eq x.id.now w ≡ true) (sym named) same in
      let rules = same_rules_by_id c m p h.at.place h.some h.at.within
      (λ k e low like. h.at.only k e low (subst (λ (w : Text). bytes_eq (slice_index_or (args_of c) k e).id.now w ≡ true) named like))
      (h.not_auto own named) j x lt at key in
      ap parser_of_value (rules.parser (Unsigned low high) own_parser)

  reading : (r : Reading) → HasReading p.built id r → r ≡ AsWritten
  reading r any = sym any.4.1 ∙ ap reading_of (built_parser any.0 any.1 any.2 any.3 any.4.0)

  passing : (t : Text) → PassesArg p.built id t → IsUnsignedIn low high t
  passing t any = subst (λ (w : ValueParser). Accepts any.1.ignore_case w t) (built_parser any.0 any.1 any.2 any.3 any.4.0) any.4.1

  number_read : is_some (first_value (found_of m) id) ≡ true → IsNumber low high id (rows_of (found_of m))
  number_read has =
      let f = found_of m in
      let parsed = p.parsed (p.from.globals ∙ h.globals) in
      let value = value_read p.built f id parsed.values (p.from.plain h.plain).1 h.named reading has in
      number_is low high id (rows_of f) value.0 (sym (first_value-rows f id) ∙ value.1) (sym (one_text-rows f id) ∙ value.2) (passing value.0 value.3)

has_numbers : (c : Command) (m : ArgMatches) → IsParsedFrom c m → (low high : ℕ) (id : Text) → always_has (is_certain_number low high) (app_of c) id ≡ true
    → IsNumber low high id (rows_of (found_of m))
has_numbers c m p low high id e =
    let parts : (r : Rule) → is_certain_number low high r ≡ true → (is_certain r ≡ true) × (is_number low high r ≡ true) =
    λ r sure. both (is_certain r) (is_number low high r) sure in
    let h = always (is_certain_number low high) c id e in
    number_read low high (is_certain_number low high) (λ r sure. (parts r sure).1) c m p id h
    (value_at (is_certain_number low high) (λ r sure. (parts r sure).0) c m p id h)

has_optional : (c : Command) (m : ArgMatches) → IsParsedFrom c m → (low high : ℕ) (id : Text) → always_has (is_number low high) (app_of c) id ≡ true
    → IsSome (first_of id (rows_of (found_of m))) → IsNumber low high id (rows_of (found_of m))
has_optional c m p low high id e has =
    number_read low high (is_number low high) (λ r takes. takes) c m p id (always (is_number low high) c id e)
    (subst (λ (o : Option Text). is_some o ≡ true) (sym (first_value-rows (found_of m) id)) has)

pub has_values : (c : Command) (m : ArgMatches) → IsParsedFrom c m → HasValues (app_of c) (rows_of (found_of m))
has_values c m p = record { texts = has_texts c m p; numbers = has_numbers c m p; optional = has_optional c m p }
