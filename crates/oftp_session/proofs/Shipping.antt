-- The steps of a session that sends a file.
use Rattle.std.proofs.Common.{◌≡◌, ℕ, All, ◌+◌, ◌-◌, ◌*◌, ◌<◌, ◌≤◌, Bool, true, false, cond, nat_lt, max, min, List, [], ◌++◌, length, drop, slice_get, Option, None, Some, Result, Ok, Err, inl, inr, refl, sym, ap, ◌∙◌, subst, arith}
use Rattle.std.specs.Result.{IsErrAnd}
use Rattle.std.proofs.lemmas.Bool.{cases_lt, eqb-false}
use Rattle.std.proofs.lemmas.List.{drop_all, length-append}
use Rattle.std.proofs.lemmas.Option.{slice_get_within}
use Rattle.oftp_wire.specs.declared.command.Command.TheVariants as command
use Rattle.oftp_vfile.specs.declared.filling.Filled.TheVariants.{Buffer, Done, More}
use Rattle.oftp_vfile.specs.VirtualFile.{is_stream}
use Rattle.oftp_vfile.specs.Filling.{Filling}
use Rattle.oftp_vfile.proofs.LendLemmas.{stream_some}
use Rattle.oftp_vfile.proofs.MoreLemmas.{more_few}
use Rattle.oftp_register.specs.declared.entries.Side.TheVariants as side
use Rattle.oftp_register.specs.LookUps.{rows_of}
use Rattle.oftp_register.specs.Register.{Register}
use Rattle.oftp_register.specs.Soundness.{IsSound}
use Rattle.oftp_register.specs.Offices.{View}
use Rattle.oftp_session.specs.declared.sending.OutgoingTransfer.{OutgoingTransfer}
use Rattle.oftp_session.specs.declared.payloads.TheConstants.{FIRST_ROWS}
use Rattle.oftp_session.specs.declared.session.SessionFault.{SessionFault}
use Rattle.oftp_session.specs.declared.session.SessionFault.TheVariants as fault
use Rattle.oftp_session.specs.declared.state.Contact.{Contact}
use Rattle.oftp_session.specs.declared.state.State.{State}
use Rattle.oftp_session.specs.declared.state.State.TheVariants as state
use Rattle.oftp_session.specs.Phases.{Sending, Step, Transfer, quiet}
use Rattle.oftp_session.specs.Receiving.{window}
use Rattle.oftp_session.specs.Sending.{credit_left, payload_size, payloads_in, sends_next, turned_sending, with_sent}
use Rattle.oftp_session.specs.Steps.{IsSent}
use Rattle.oftp_session.specs.Standings.{Ships, at_hand}
use Rattle.oftp_session.specs.Calls.{DoesNot, IsMade}
use Rattle.oftp_session.specs.Inside.{Takes}
use Rattle.oftp_session.specs.InsidePayloads.{FillsFrom, IsDataSaid, IsFilledFrom, IsSameTransfer, MayLend, SaysNext, is_last, next_row, without}
use Rattle.oftp_session.proofs.Lending.{are_lent, data_said, looked_up, may_lend, nothing_left}
use Rattle.oftp_session.proofs.Views.{then_made}
use Rattle.oftp_session.proofs.Speaking.{then_takes}

-- rows of a stream aren't empty
pub some_rows : (s : OutgoingTransfer) (lent : List (List ℕ)) → MayLend s (at_hand s.page) → lent ≡ at_hand s.page → is_stream s.filler.format ≡ true → All (λ (r : List ℕ). 0 < length r) lent
some_rows s lent may e h =
    subst (λ (x : List (List ℕ)). All (λ (r : List ℕ). 0 < length r) x) (sym e) (stream_some s.filler.format s.longest (at_hand s.page) may.fits h)

-- while rows are looked up, nothing changes but the page, whose rows are those of the file
pub record IsAsking (old new : View) (before now : OutgoingTransfer) : Type 0 where
  pub clean : new.clean → old.clean
  pub same : now ≡ record before { page = now.page }
  pub kept : new.clean → old.stands → IsMade None None old new []
  pub ships : new.clean → old.stands → (contact : Contact) (t : Transfer) → IsSent old.register t → Ships contact t before → Ships contact t now

-- an office that keeps its register still has the file
still_sent : (old mid : View) (t : Transfer) → IsMade None None old mid [] → IsSent old.register t → IsSent mid.register t
still_sent old mid t m holds = subst (λ (r : Register). IsSent r t) (sym m.register) holds

-- a filler that doesn't move leaves the rows at hand
without_none : (page : Option (List (List ℕ))) → without 0 page ≡ page
without_none None = refl
without_none (Some rows) = refl

filled_same : (s new : OutgoingTransfer) → new ≡ record s { filler = new.filler; page = without (new.filler.row - s.filler.row) s.page } → new.filler ≡ s.filler → new ≡ s
filled_same s new same e =
    let none : s.filler.row - s.filler.row ≡ 0 = omega arith in
    same ∙ ap (λ (f : Filling). let y : OutgoingTransfer = record s { filler = f; page = without (f.row - s.filler.row) s.page } in y) e
    ∙ ap (λ (n : ℕ). let y : OutgoingTransfer = record s { page = without n s.page } in y) none
    ∙ ap (λ (p : Option (List (List ℕ))). let y : OutgoingTransfer = record s { page = p } in y) (without_none s.page)

pub more_same : (size : ℕ) (s filled : OutgoingTransfer) (frame : List ℕ) → IsFilledFrom size s filled frame More → filled ≡ s
more_same size s filled frame f = filled_same s filled f.same f.fills.0.same

-- more rows are asked for if the payload has room for them and rows follow
record HasRoom (size : ℕ) (s : OutgoingTransfer) : Type 0 where
  some : next_row s < s.rows
  few : length (at_hand s.page) < size

has_room : (size : ℕ) (s filled : OutgoingTransfer) (frame : List ℕ) → IsFilledFrom size s filled frame More → HasRoom size s
has_room size s filled frame f =
    let may = f.may in
    let within = may.within in
    let asks = f.fills.0 in
    let not = eqb-false (next_row s) s.rows asks.coming in
    record {
      some = elim (cases_lt (next_row s) s.rows) [ inl l ↦ l | inr g ↦ absurd (not (omega (arith, g, within))) ];
      few = more_few s.filler size (at_hand s.page) may.place (some_rows s (at_hand s.page) may refl) asks.reaches;
    }

-- rows that are looked up leave less room
pub asks_on : (size most : ℕ) (s filled : OutgoingTransfer) (frame : List ℕ) (rows more : List (List ℕ)) → IsFilledFrom size s filled frame More
    → most ≡ min size (max FIRST_ROWS (2 * length (at_hand filled.page))) → length more ≡ min most (filled.rows - next_row filled) → rows ≡ at_hand filled.page ++ more
    → size - length rows < size - length (at_hand s.page)
asks_on size most s filled frame rows more f twice count is =
    let room = has_room size s filled frame f in
    let some = room.some in
    let few = room.few in
    let same = more_same size s filled frame f in
    let page : length (at_hand filled.page) ≡ length (at_hand s.page) = ap (λ (x : OutgoingTransfer). length (at_hand x.page)) same in
    let row : filled.filler.row ≡ s.filler.row = ap (λ (x : OutgoingTransfer). x.filler.row) same in
    let all : filled.rows ≡ s.rows = ap (λ (x : OutgoingTransfer). x.rows) same in
    let total : length rows ≡ length (at_hand filled.page) + length more = ap length is ∙ length-append (at_hand filled.page) more in
    omega (arith, some, few, page, row, all, total, twice, count)

-- the rows that were looked up are those of the file
pub asks_more : (old mid now : View) (before s filled : OutgoingTransfer) (size most : ℕ) (frame : List ℕ) (rows more : List (List ℕ)) → IsAsking old mid before s
    → IsFilledFrom size s filled frame More → (now.clean → mid.clean) → (now.clean → mid.stands → IsMade None None mid now [])
    → (now.clean → mid.stands → (contact : Contact) (t : Transfer) → IsSent mid.register t → Ships contact t filled
    → (more ≡ rows_of mid.register side.Outgoing filled.number (next_row filled) most) × IsMade None None mid now [])
    → rows ≡ at_hand filled.page ++ more → IsAsking old now before (record filled { page = Some rows })
asks_more old mid now before s filled size most frame rows more i f clean stays finds is =
    let same = more_same size s filled frame f in record {
      clean = λ c. i.clean (clean c);
      same = ap (λ (x : OutgoingTransfer). let y : OutgoingTransfer = record x { page = Some rows } in y) (same ∙ i.same);
      kept = λ c stands. let was = i.kept (clean c) stands in then_made None None [] old mid now was (stays c was.stands);
      ships = λ c stands contact t holds at.
          let was = i.kept (clean c) stands in
          let holds' = still_sent old mid t was holds in
          let at' = subst (Ships contact t) (sym same) (i.ships (clean c) stands contact t holds at) in
          looked_up mid.register contact t filled most rows more holds' at' (finds c was.stands contact t holds' at').0 is;
    }

at_hand_without : (n : ℕ) (page : Option (List (List ℕ))) → at_hand (without n page) ≡ drop n (at_hand page)
at_hand_without n None = sym (drop_all n [] (omega arith))
at_hand_without n (Some rows) = refl

-- the next payload is sent
pub says_data : (contact : Contact) (t : Transfer) (before s new : OutgoingTransfer) (size count : ℕ) (frame : List ℕ) (old mid : View) → IsAsking old mid before s → IsSound mid.register
    → mid.clean → old.stands → IsSent old.register t → Ships contact t before → size ≡ payload_size contact → IsFilledFrom size s new frame (Buffer count)
    → SaysNext contact t new old mid frame (Ok true)
says_data contact t before s new size count frame old mid i sound clean stands holds at room f =
    let was = i.kept clean stands in
    let at' = i.ships clean stands contact t holds at in
    let lent = are_lent mid.register contact t s sound (still_sent old mid t was holds) at' in
    let page = ap (λ (x : OutgoingTransfer). at_hand x.page) f.same ∙ at_hand_without (new.filler.row - s.filler.row) s.page in
    (data_said contact t s new size (is_last s) frame at' room lent page f.fills, was)

-- nothing is left
pub says_none : (contact : Contact) (t : Transfer) (before s new : OutgoingTransfer) (size : ℕ) (frame : List ℕ) (old mid : View) → IsAsking old mid before s → IsSound mid.register
    → mid.clean → old.stands → IsSent old.register t → Ships contact t before → size ≡ payload_size contact → IsFilledFrom size s new frame Done
    → SaysNext contact t new old mid frame (Ok false)
says_none contact t before s new size frame old mid i sound clean stands holds at room f =
    let was = i.kept clean stands in
    let at' = i.ships clean stands contact t holds at in
    let lent = are_lent mid.register contact t s sound (still_sent old mid t was holds) at' in
    let none = f.fills.0 in
    ((subst (Ships contact t) (sym (filled_same s new f.same none.same)) at', nothing_left contact t s new.filler size (at_hand s.page) (is_last s) at' room lent none), was)

-- out of memory: rows of a sound register aren't faulty
fails_not : (contact : Contact) (t : Transfer) (s new : OutgoingTransfer) (size : ℕ) (frame : List ℕ) (told : SessionFault) (old now : View) → IsMade None None old now []
    → MayLend s (at_hand s.page) → FillsFrom size s new frame (Err told) → DoesNot None old now told
fails_not contact t s new size frame fault.Ended old now m may f = absurd f
fails_not contact t s new size frame fault.Office old now m may f = absurd (f.0 may)
fails_not contact t s new size frame fault.Memory old now m may f = record { register = m.register; stands = m.stands; faults = m.faults }

pub says_fault : (contact : Contact) (t : Transfer) (before s new : OutgoingTransfer) (size : ℕ) (frame : List ℕ) (told : SessionFault) (result : Result Bool SessionFault) (old mid : View)
    → IsErrAnd result (λ (y : SessionFault). y ≡ told) → IsAsking old mid before s → IsSound mid.register → mid.clean → old.stands → IsSent old.register t → Ships contact t before
    → FillsFrom size s new frame (Err told) → SaysNext contact t new old mid frame result
says_fault contact t before s new size frame told (Ok left) old mid is i sound clean stands holds at f = absurd is
says_fault contact t before s new size frame told (Err y) old mid is i sound clean stands holds at f =
    let was = i.kept clean stands in
    let may = may_lend mid.register contact t s sound (still_sent old mid t was holds) (i.ships clean stands contact t holds at) in
    subst (DoesNot None old mid) (sym is) (fails_not contact t s new size frame told old mid was may f)

-- while credit is left, the next DATA or EFID is sent
pub turned_next : (contact : Contact) (t : Transfer) (s : OutgoingTransfer) (next : Option (List ℕ)) → Ships contact t s → 0 < s.credit → slice_get (payloads_in contact t) t.sent ≡ next
    → turned_sending contact t ≡ sends_next contact t next
unfolding turned_sending
turned_next contact t s next at some e =
    let left = at.credit in
    let due : nat_lt 0 (credit_left contact t) ≡ true = grind (arith, left, some) in
    ap (λ (b : Bool). cond b (sends_next contact t (slice_get (payloads_in contact t) t.sent)) (quiet (Sending contact t))) due ∙ ap (sends_next contact t) e

-- one more payload was sent
counted : (c w sent credit : ℕ) → credit ≡ (c + 1) * w - sent → 0 < credit → (credit - 1 ≡ (c + 1) * w - (sent + 1)) × (sent + 1 ≤ (c + 1) * w)
counted c w sent credit e h = let all : ℕ = (c + 1) * w in (omega arith, omega arith)

ships_next : (contact : Contact) (t : Transfer) (s new : OutgoingTransfer) (frame : List ℕ) → Ships contact t s → 0 < s.credit → 2 ≤ payload_size contact → IsSameTransfer s new
    → IsDataSaid contact t new frame → Ships contact (with_sent t) (record new { credit = new.credit - 1 })
ships_next contact t s new frame at some room same d =
    let next : Filling = new.filler in
    let n = counted t.credits (window contact) t.sent s.credit at.credit some in
    let within = slice_get_within (payloads_in contact t) t.sent d.payload d.left in
    record {
      number = ap (λ (x : OutgoingTransfer). x.number) same ∙ at.number;
      format = d.format;
      longest = ap (λ (x : OutgoingTransfer). x.longest) same ∙ at.longest;
      rows = ap (λ (x : OutgoingTransfer). x.rows) same ∙ at.rows;
      units = ap (λ (x : OutgoingTransfer). x.units) same ∙ at.units;
      mark = ap (λ (x : OutgoingTransfer). x.mark) same ∙ at.mark;
      credit = ap (λ (x : OutgoingTransfer). x.credit - 1) same ∙ n.0;
      covered = n.1;
      room = λ _. room;
      most = omega (arith, within);
      sent = d.sent;
      page = record { first = d.page.first; place = d.page.place };
    }

pub sent_takes : (contact : Contact) (t : Transfer) (s new : OutgoingTransfer) (old now : View) (frame : List ℕ) → Ships contact t s → 0 < s.credit → 2 ≤ payload_size contact
    → IsSameTransfer s new → IsDataSaid contact t new frame → IsMade None None old now []
    → Takes (turned_sending contact t) old now frame (Ok (state.Sending contact (record new { credit = new.credit - 1 })))
sent_takes contact t s new old now frame at some room same d m =
    let made : IsMade None (Some (command.Data d.payload)) old now frame = record { said = d.said; register = m.register; stands = m.stands; faults = m.faults } in
    let ships = ships_next contact t s new frame at some room same d in
    subst (λ (x : Step). Takes x old now frame (Ok (state.Sending contact (record new { credit = new.credit - 1 })))) (sym (turned_next contact t s (Some d.payload) at some d.left))
    (made, (record new { credit = new.credit - 1 }, refl, ships))

-- if nothing is left, EFID is sent
pub end_takes : (contact : Contact) (t : Transfer) (new : OutgoingTransfer) (old mid now : View) (frame : List ℕ) (result : Result State SessionFault) → IsSent old.register t
    → Ships contact t new → slice_get (payloads_in contact t) t.sent ≡ None → IsMade None None old mid []
    → ((u : Transfer) → IsSent mid.register u → Ships contact u new → slice_get (payloads_in contact u) u.sent ≡ None → Takes (turned_sending contact u) mid now frame result)
    → Takes (turned_sending contact t) old now frame result
end_takes contact t new old mid now frame result holds at none m takes =
    then_takes (turned_sending contact t) old mid now frame result m (takes t (subst (λ (r : Register). IsSent r t) (sym m.register) holds) at none)
