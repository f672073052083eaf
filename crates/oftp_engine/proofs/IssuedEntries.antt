-- The entry of a response that is found among those to numbered files.
use Rattle.std.proofs.Common.{◌≡◌, ℕ, suc, ◌+◌, Bool, List, [], ◌∷◌, find, slice_get, Option, None, Some, refl, ap, sym, ◌∙◌, inl, inr, arith}
use Rattle.std.proofs.lemmas.Bool.{cases_Bool, cond-true, cond-false}
use Rattle.std.specs.List.{filter_map}
use Rattle.std.specs.Option.{option_map}
use Rattle.oftp_register.specs.declared.entries.IssuedEntry.{IssuedEntry}
use Rattle.oftp_register.specs.Register.{Incoming, Issued}
use Rattle.oftp_register.specs.LookUps.{issued_entry, issued_response, numbered}

-- it is that of a response to one of these files, whose numbers begin with n
pub record IsIssuedEntry (n : ℕ) (xs : List Incoming) (e : IssuedEntry) : Type 0 where
  pub place : ℕ
  pub number : e.no ≡ n + place
  pub file : Incoming
  pub at : slice_get xs place ≡ Some file
  pub response : Issued
  pub issued : file.response ≡ Some response
  pub identity : e.identity ≡ file.identity
  pub kind : response.kind ≡ e.response.kind
  pub told : issued_response response ≡ e.response

pub issued_found : (p : IssuedEntry → Bool) (n : ℕ) (xs : List Incoming) (e : IssuedEntry) → find p (filter_map (λ entry. entry) (numbered issued_entry n xs)) ≡ Some e → IsIssuedEntry n xs e
issued_found p n [] e h = absurd (cc)
issued_found p n (f ∷ fs) e h = by (issued_found p (n + 1) fs e) f.response refl h
  where
    behind : IsIssuedEntry (n + 1) fs e → IsIssuedEntry n (f ∷ fs) e
    behind k = record {
      place = suc k.place;
      number = omega (arith, k.number);
      file = k.file;
      at = k.at;
      response = k.response;
      issued = k.issued;
      identity = k.identity;
      kind = k.kind;
      told = k.told;
    }

    by : (find p (filter_map (λ entry. entry) (numbered issued_entry (n + 1) fs)) ≡ Some e → IsIssuedEntry (n + 1) fs e) → (o : Option Issued) → f.response ≡ o
        → find p (filter_map (λ entry. entry) (option_map (λ (r : Issued). let x : IssuedEntry = record { no = n; identity = f.identity; response = issued_response r } in x) o ∷
        numbered issued_entry (n + 1) fs)) ≡ Some e → IsIssuedEntry n (f ∷ fs) e
    by ih None is g = behind (ih g)
    by ih (Some w) is g =
        let here : IssuedEntry = record { no = n; identity = f.identity; response = issued_response w } in
        let rest = find p (filter_map (λ entry. entry) (numbered issued_entry (n + 1) fs)) in
        elim (cases_Bool (p here)) [
          | inl t ↦ (let q : Some here ≡ Some e = sym (cond-true (p here) (Some here) rest t) ∙ g in let same : here ≡ e = cc in
              record {
                place = 0;
                number = (let m : n ≡ e.no = ap (λ (x : IssuedEntry). x.no) same in omega (arith, m));
                file = f;
                at = refl;
                response = w;
                issued = is;
                identity = ap (λ (x : IssuedEntry). x.identity) (sym same);
                kind = ap (λ (x : IssuedEntry). x.response.kind) same;
                told = ap (λ (x : IssuedEntry). x.response) same;
              })
          | inr t ↦ behind (ih (sym (cond-false (p here) (Some here) rest t) ∙ g))
        ]
