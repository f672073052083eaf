-- What is known of an expected content before and after more octets.
use Rattle.std.proofs.Common.{◌≡◌, ◌==◌, ℕ, Bool, false, List, [], ◌++◌, length, Option, None, Some, Bor, IsTrue, sym, ap, subst, ◌∙◌, append_assoc}
use Rattle.std.specs.Prelude.{◌≢◌, ◌↔◌, MatchOption}
use Rattle.std.proofs.lemmas.List.{append-nil, append_cancel_left, nil_from_length}
use Rattle.std.proofs.lemmas.Bool.Decides.{Decides-eqb}
use Rattle.oftp_requests.specs.Compared.{Compares}
use Rattle.oftp_requests.specs.declared.comparing.Comparison.{Comparison}

module _ (content written : List ℕ) where
  abbrev Known : Option (Bor (List ℕ)) → Type 0
  Known left = Compares content written (record { rest = left })

  pub still_expected : (c : Comparison) (rest : Bor (List ℕ)) → c.rest ≡ Some rest → Compares content written c → content ≡ written ++ rest.now
  still_expected c rest is knows = subst Known is knows

  pub never_whole : (c : Comparison) → c.rest ≡ None → Compares content written c → IsTrue false ↔ content ≡ written
  never_whole c is knows = (λ t. absurd cc, λ e. absurd (subst Known is knows [] (e ∙ sym (append-nil written))))

  pub whole_at_end : (rest : List ℕ) (empty : Bool) → empty ≡ (length rest == 0) → content ≡ written ++ rest → IsTrue empty ↔ content ≡ written
  whole_at_end rest empty is e = (
    λ t. e ∙ ap (λ (z : List ℕ). written ++ z) (nil_from_length rest ((Decides-eqb (length rest) 0).0 (sym is ∙ t))) ∙ append-nil written,
    λ f. is ∙ (Decides-eqb (length rest) 0).1 (ap (λ (z : List ℕ). length z) (append_cancel_left written rest [] (sym e ∙ f ∙ sym (append-nil written)))),
  )

  -- more octets, which the rest begins with or not
  pub compared_on : (rest octets : List ℕ) (left : Option (Bor (List ℕ))) → content ≡ written ++ rest
      → MatchOption left ((more : List ℕ) → rest ≢ octets ++ more) (λ x. rest ≡ octets ++ x.now)
      → Compares content (written ++ octets) (record { rest = left })
  compared_on rest octets None e differs = λ more f. differs more (append_cancel_left written rest (octets ++ more) (sym e ∙ f ∙ append_assoc written octets more))
  compared_on rest octets (Some x) e begins = e ∙ ap (λ (z : List ℕ). written ++ z) begins ∙ sym (append_assoc written octets x.now)
