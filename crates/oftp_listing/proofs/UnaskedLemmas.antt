-- Replies for which no office is asked.
use Rattle.std.proofs.Common.{◌≡◌, ◌∙◌, ℕ, Bool, true, false, not, Option, Some, None, Result, Ok, Err, inl, inr, ap, refl, is_some, codes}
use Rattle.std.specs.Str.{bytes_eq}
use Rattle.oftp_register.specs.Offices.{View}
use Rattle.oftp_register.specs.Register.{Register}
use Rattle.oftp_listing.specs.declared.fault.ListFault.{ListFault}
use Rattle.oftp_listing.specs.declared.route.Route.{Route}
use Rattle.oftp_listing.specs.declared.route.Route.TheVariants.{Incoming, IncomingFile, Outgoing, OutgoingFile, Responses}
use Rattle.oftp_listing.specs.Heads.{Heard, Unfinished, Refused, Whole}
use Rattle.oftp_listing.specs.Replies.{Sent, error_text}
use Rattle.oftp_listing.specs.Routes.{route_at}
use Rattle.oftp_listing.specs.Texts.{Answers, Serves, is_asked, text_of}
use Rattle.oftp_listing.specs.Unasked.{IsSame, NobodyAsked, SameForEach, status_at, status_of_any, unless_get}

-- ---- what is asked

list_unasked : (is_get : Bool) → is_some (unless_get is_get) ≡ not is_get
list_unasked true = refl
list_unasked false = refl

pub nobody_asked : NobodyAsked
nobody_asked is_get None = refl
nobody_asked is_get (Some Incoming) = list_unasked is_get
nobody_asked is_get (Some (IncomingFile n)) = refl
nobody_asked is_get (Some Outgoing) = list_unasked is_get
nobody_asked is_get (Some (OutgoingFile n)) = refl
nobody_asked is_get (Some Responses) = list_unasked is_get

not_asked : (is_get : Bool) (route : Option Route) (status : ℕ) → status_at is_get route ≡ Some status → is_asked is_get route ≡ true → ⊥
not_asked is_get route status e asked =
    let said : is_some (status_at is_get route) ≡ true = ap is_some e in
    cc (said, nobody_asked is_get route, ap not asked)

-- ---- what is answered

list_answered : (is_get : Bool) (route : Route) (status : ℕ) (r : Register) → unless_get is_get ≡ Some status → text_of false (Some route) r ≡ error_text 405
    → text_of is_get (Some route) r ≡ error_text status
list_answered true route status r e refused = absurd (cc e)
list_answered false route status r e refused = refused ∙ ap error_text (cc e)

pub same_for_each : SameForEach
same_for_each is_get None status e r = ap error_text (cc e)
same_for_each is_get (Some Incoming) status e r = list_answered is_get Incoming status r e refl
same_for_each is_get (Some (IncomingFile n)) status e r = absurd (cc e)
same_for_each is_get (Some Outgoing) status e r = list_answered is_get Outgoing status r e refl
same_for_each is_get (Some (OutgoingFile n)) status e r = absurd (cc e)
same_for_each is_get (Some Responses) status e r = list_answered is_get Responses status r e refl

pub served : (is_get : Bool) (route : Option Route) (found : Option ℕ) → status_at is_get route ≡ found → (old new : View) (result : Result Sent ListFault)
    → Serves is_get route old new result → IsSame found old new result
served is_get route None e old new result serves = tt
served is_get route (Some status) e old new (Ok sent) (inl shown) = λ k s. shown.right k s ∙ same_for_each is_get route status e old.register
served is_get route (Some status) e old new (Ok sent) (inr faulty) = λ k s. absurd (not_asked is_get route status e faulty.asked)
served is_get route (Some status) e old new (Err fault) serves = λ k s. tt

-- an answer is the reply that is the same for each
pub answered_same : (heard : Heard) (old new : View) (result : Result Sent ListFault) → Answers heard old new result → IsSame (status_of_any heard) old new result
answered_same Unfinished old new result answers = tt
answered_same Refused old new (Ok sent) answers = λ k s. answers.1.octets
answered_same Refused old new (Err fault) answers = λ k s. tt
answered_same (Whole method target) old new result answers =
    let is_get = bytes_eq method (codes "GET") in
    served is_get (route_at target) (status_at is_get (route_at target)) refl old new result answers
