-- Words as fields, and words that are no request.
use Rattle.std.proofs.Common.{◌≡◌, ℕ, suc, ◌-◌, ◌<◌, ◌≤◌, List, [], ◌∷◌, length, get_or, take, drop, map, refl, sym, ap, subst, ◌∙◌, arith, length-drop, drop-cons}
use Rattle.std.proofs.lemmas.List.{nil_from_length, take_rest}
use Rattle.oftp_engine.specs.declared.operating.Operator.TheVariants as operator
use Rattle.oftp_channel.specs.Asked.{IsAskable, octet_word, request_code, request_fields, request_kind, submission_fields, words_of}
use Rattle.oftp_channel.specs.InsideAsked.{IsNoRequest}
use Rattle.oftp_channel.specs.declared.asking.Request.{Request}
use Rattle.oftp_channel.specs.declared.asking.Request.TheVariants as requests
use Rattle.oftp_channel.specs.declared.codes.RequestKind.{RequestKind}
use Rattle.oftp_channel.specs.declared.codes.RequestKind.TheVariants as kinds

-- the kinds by the octets that encode them, from 0 on; 0 encodes none
abbrev kinds_by_code : List RequestKind
kinds_by_code = kinds.Init ∷ kinds.Submit ∷ kinds.Release ∷ kinds.Refuse ∷ kinds.Call ∷ kinds.Report ∷ kinds.Unanswered ∷ kinds.Outgoing ∷ kinds.Fetch ∷ kinds.Holds
    ∷ kinds.Backup ∷ kinds.Init ∷ kinds.Stop ∷ kinds.Reload ∷ kinds.Resend ∷ kinds.Status ∷ kinds.Health ∷ kinds.Settled ∷ []

kind_again : (kind : RequestKind) → get_or kinds_by_code (request_code kind) kinds.Init ≡ kind
kind_again kinds.Submit = refl
kind_again kinds.Release = refl
kind_again kinds.Refuse = refl
kind_again kinds.Call = refl
kind_again kinds.Report = refl
kind_again kinds.Unanswered = refl
kind_again kinds.Outgoing = refl
kind_again kinds.Fetch = refl
kind_again kinds.Holds = refl
kind_again kinds.Backup = refl
kind_again kinds.Init = refl
kind_again kinds.Stop = refl
kind_again kinds.Reload = refl
kind_again kinds.Resend = refl
kind_again kinds.Status = refl
kind_again kinds.Health = refl
kind_again kinds.Settled = refl

one_kind : (kind other : RequestKind) → request_code kind ≡ request_code other → kind ≡ other
one_kind kind other e = sym (kind_again kind) ∙ ap (λ (n : ℕ). get_or kinds_by_code n kinds.Init) e ∙ kind_again other

no_request : (request : Request) → IsAskable request → IsNoRequest (request_kind request) (request_fields request) → ⊥
no_request (requests.Operate book (operator.Submit s)) is refused = refused book.now (submission_fields s) refl s.dataset.now s.date.now s.time.now s.to.now s.description.now s.content.now
    s.format s.longest is.dataset is.date is.time is.to is.description is.longest refl
no_request (requests.Operate book (operator.Release number)) is refused = refused book.now number refl
no_request (requests.Operate book (operator.Refuse number reason text)) is refused = refused book.now text.now number reason is refl
no_request (requests.Call partner patience longest tracing) is refused = refused partner.now patience longest tracing is refl
no_request (requests.Report kind) is refused = refused kind refl
no_request requests.Unanswered is refused = refused refl
no_request (requests.Outgoing to) is refused = refused to.now is refl
no_request (requests.Fetch number) is refused = refused number refl
no_request (requests.Holds number content) is refused = refused number content.now refl
no_request (requests.Backup to) is refused = refused to.now is refl
no_request requests.Init is refused = refused refl
no_request (requests.Stop haste) is refused = refused haste refl
no_request requests.Reload is refused = refused refl
no_request (requests.Resend book number date time) is refused = refused book.now date.now time.now number is.0 is.1 refl
no_request (requests.Status form) is refused = refused form refl
no_request (requests.Health warn critical) is refused = refused warn critical refl
no_request requests.Settled is refused = refused refl

pub first : {A : Type 0} (x y : A) (xs ys : List A) → x ∷ xs ≡ y ∷ ys → (x ≡ y) × (xs ≡ ys)
first x y xs ys e = (cc, cc)

-- words of which the first is a kind, and the others are no fields of it
pub no_words : (kind : RequestKind) (word : List ℕ) (fields : List (List ℕ)) (request : Request) → octet_word (request_code kind) ≡ word → IsNoRequest kind fields
    → IsAskable request → words_of request ≡ word ∷ fields → ⊥
no_words kind word fields request spelled refused is e =
    let words = first (octet_word (request_code (request_kind request))) word (request_fields request) fields e in
    let code = first (request_code (request_kind request)) (request_code kind) [] [] (words.0 ∙ sym spelled) in
    let same : kind ≡ request_kind request = one_kind kind (request_kind request) (sym code.0) in
    no_request request is (subst (λ (k : RequestKind). IsNoRequest k (request_fields request)) same (subst (IsNoRequest kind) (sym words.1) refused))

-- ---- the words of a list, one after another

module _ {X : Type 0} (f : X → List ℕ) (xs : List X) where
  -- a word that is the one at this place, and those after it
  pub field_on : (at : ℕ) (x : X) (word : List ℕ) (others : List (List ℕ)) → at < length xs → x ≡ get_or xs at x → word ≡ f x → others ≡ map f (drop (suc at) xs)
      → word ∷ others ≡ map f (drop at xs)
  field_on at x word others lt is same behind =
      let here : map f (drop at xs) ≡ f (get_or xs at x) ∷ map f (drop (suc at) xs) = ap (λ (z : List X). map f z) (drop-cons xs at x lt) in
      ap (λ (z : List ℕ). z ∷ others) (same ∙ ap f is) ∙ ap (λ (z : List (List ℕ)). f (get_or xs at x) ∷ z) behind ∙ sym here

  pub no_field_on : (at : ℕ) → length xs ≤ at → [] ≡ map f (drop at xs)
  no_field_on at short = ap (λ (z : List X). map f z) (sym (nil_from_length (drop at xs) (omega (arith, length-drop at xs))))

  pub first_and_rest : (x : X) → 0 < length xs → x ≡ get_or xs 0 x → f x ∷ map f (take (length xs - 1) (drop 1 xs)) ≡ map f xs
  first_and_rest x lt is = field_on 0 x (f x) (map f (take (length xs - 1) (drop 1 xs))) lt is refl (ap (λ (z : List X). map f z) (take_rest xs 1))
