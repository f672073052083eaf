-- The reply to a request, as a function of the request and the register.
use Rattle.std.specs.Prelude.{◌≡◌, ◌⊎◌, ℕ, Bool, true, false, if◌then◌else◌, List, [], ◌∷◌, map, codes, Option, Some, None, Result, Ok, Err}
use Rattle.std.specs.Option.{option_map, option_and_then}
use Rattle.std.specs.Str.{bytes_eq}
use Rattle.serde_json.specs.Data.{Data, array, object}
use Rattle.serde_json.specs.View.{items_of}
use Rattle.serde_json.specs.Written.{compact_text}
use Rattle.oftp_register.specs.Register.{Register}
use Rattle.oftp_register.specs.LookUps.{in_by_no, list_in, list_issued, list_out, list_received, look_out, out_by_no, units_of}
use Rattle.oftp_register.specs.Offices.{Only, View, next_count}
use Rattle.oftp_register.specs.declared.entries.Side.TheVariants as side
use Rattle.oftp_register.specs.declared.entries.IncomingEntry.{IncomingEntry}
use Rattle.oftp_register.specs.declared.entries.OutgoingEntry.{OutgoingEntry}
use Rattle.oftp_register.specs.declared.entries.ReceivedEntry.{ReceivedEntry}
use Rattle.oftp_listing.specs.declared.fault.ListFault.{ListFault}
use Rattle.oftp_listing.specs.declared.fault.ListFault.TheVariants.{Incomplete, Memory, Office, Write}
use Rattle.oftp_listing.specs.declared.route.Route.{Route}
use Rattle.oftp_listing.specs.declared.route.Route.TheVariants.{Incoming, IncomingFile, Outgoing, OutgoingFile, Responses}
use Rattle.oftp_listing.specs.declared.state.OfficeState.{OfficeState}
use Rattle.oftp_listing.specs.declared.state.OfficeState.TheVariants.{Failed, Working}
use Rattle.oftp_listing.specs.Heads.{Heard, Unfinished, Refused, Whole}
use Rattle.oftp_listing.specs.Objects.{incoming_object, issued_object, members, outgoing_object, received_object}
use Rattle.oftp_listing.specs.Replies.{Says, Sent, error_text, reply_text}
use Rattle.oftp_listing.specs.Routes.{route_at}

-- the object of an incoming file of the register
abbrev pub shown_in : Register → IncomingEntry → Data
shown_in r e = incoming_object e (units_of r side.Incoming e.no)

-- the object of an outgoing file of the register
abbrev pub shown_out : Register → OutgoingEntry → Data
shown_out r e = outgoing_object e (units_of r side.Outgoing e.no)

-- the number of a file, or 0 where there is none
abbrev pub no_of : Option OutgoingEntry → ℕ
no_of None = 0
no_of (Some e) = e.no

-- the object of a received response of the register
abbrev pub shown_received : Register → ReceivedEntry → Data
shown_received r e = received_object e (no_of (look_out r e.response.identity))

-- the list of these
abbrev pub list_of : List Data → Data
list_of ds = array (items_of ds)

-- the object of all responses of the register
abbrev pub shown_responses : Register → Data
shown_responses r = object (members (
    (codes "issued", list_of (map issued_object (list_issued r)))
    ∷ (codes "received", list_of (map (shown_received r) (list_received r)))
    ∷ []))

-- what a route shows of the register, or nothing where its number isn't that of an entry
abbrev pub shown : Register → Route → Option Data
shown r Incoming = Some (list_of (map (shown_in r) (list_in r)))
shown r (IncomingFile n) = option_map (shown_in r) (in_by_no r n)
shown r Outgoing = Some (list_of (map (shown_out r) (list_out r)))
shown r (OutgoingFile n) = option_map (shown_out r) (out_by_no r n)
shown r Responses = Some (shown_responses r)

-- the reply that shows something, or that there is nothing; a method other than GET isn't allowed
abbrev pub reply_to : (is_get : Bool) → Option Data → List ℕ
reply_to is_get None = error_text 404
reply_to is_get (Some d) = if is_get then reply_text 200 (compact_text d) else error_text 405

-- the reply to a request for a route
abbrev pub text_of : (is_get : Bool) → Option Route → Register → List ℕ
text_of is_get route r = reply_to is_get (option_and_then (shown r) route)

-- the office is called: for a list only by GET, for one entry always
abbrev pub is_asked : (is_get : Bool) → Option Route → Bool
is_asked is_get None = false
is_asked is_get (Some Incoming) = is_get
is_asked is_get (Some (IncomingFile n)) = true
is_asked is_get (Some Outgoing) = is_get
is_asked is_get (Some (OutgoingFile n)) = true
is_asked is_get (Some Responses) = is_get

-- The office was only read, and at most the last look-up returned an error. If the store reads what was written and the office was open, its
-- register is unchanged wherever it is open. A crash leaves that register. It stays open if it returned no error.
pub record Asks (old new : View) : Type 0 where
  pub clean : new.clean → old.clean
  pub register : new.clean → old.stands → new.is_open → new.register ≡ old.register
  pub left : new.clean → old.stands → Only old.register new
  pub stays : new.told ≡ old.told → new.clean → old.stands → new.stands
  pub counts : (new.told ≡ old.told) ⊎ (new.told ≡ next_count old.told)

-- The office returned no error, and this is the reply, which says so. Whatever the store reads, it shows something, or that there is nothing.
-- If the office was open and its store reads what was written, it is the reply for the register.
pub record IsShown (is_get : Bool) (route : Option Route) (old new : View) (sent : Sent) : Type 0 where
  pub untold : new.told ≡ old.told
  pub office : sent.office ≡ Working
  pub shown' : Option Data
  pub reply : sent.octets ≡ reply_to is_get shown'
  pub right : new.clean → old.stands → sent.octets ≡ text_of is_get route old.register

-- the office was called and returned an error, and this is the reply, which says so
pub record IsFaulty (is_get : Bool) (route : Option Route) (old new : View) (sent : Sent) : Type 0 where
  pub told : new.told ≡ next_count old.told
  pub office : sent.office ≡ Failed
  pub asked : is_asked is_get route ≡ true
  pub reply : sent.octets ≡ (if is_get then error_text 503 else error_text 405)

-- Why there is no reply to a request for a route: out of memory. It is `Office` where the office had returned an error before.
abbrev pub IsUnserved : (old new : View) → ListFault → Type 0
IsUnserved old new Incomplete = ⊥
IsUnserved old new Memory = new.told ≡ old.told
IsUnserved old new Office = new.told ≡ next_count old.told
IsUnserved old new Write = ⊥

-- the result of a request for a route: its reply, or why there is none
abbrev pub Serves : (is_get : Bool) → Option Route → (old new : View) → Result Sent ListFault → Type 0
Serves is_get route old new (Ok sent) = IsShown is_get route old new sent ⊎ IsFaulty is_get route old new sent
Serves is_get route old new (Err fault) = IsUnserved old new fault

-- the result of a request that isn't understood: its reply, or out of memory
abbrev pub Refuses : Result Sent ListFault → Type 0
Refuses (Ok sent) = Says (error_text 400) Working sent
Refuses (Err fault) = fault ≡ Memory

-- the answer to a request, by what its octets are
abbrev pub Answers : Heard → (old new : View) → Result Sent ListFault → Type 0
Answers Unfinished old new result = (new.told ≡ old.told) × (result ≡ Err Incomplete)
Answers Refused old new result = (new.told ≡ old.told) × Refuses result
Answers (Whole method target) old new result = Serves (bytes_eq method (codes "GET")) (route_at target) old new result

-- how many errors of the office a call counted that says this of it: one, or none
abbrev pub CountsFor : ℕ → ℕ → OfficeState → Type 0
CountsFor old new Working = new ≡ old
CountsFor old new Failed = new ≡ next_count old

-- an answer says that the office failed exactly where the office returned an error in that call
abbrev pub TellsOffice : (old new : View) → Result Sent ListFault → Type 0
TellsOffice old new (Ok sent) = CountsFor old.told new.told sent.office
TellsOffice old new (Err Incomplete) = CountsFor old.told new.told Working
TellsOffice old new (Err Memory) = CountsFor old.told new.told Working
TellsOffice old new (Err Office) = CountsFor old.told new.told Failed
TellsOffice old new (Err Write) = ⊥
