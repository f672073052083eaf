-- What a station sends is true of its register.
use Rattle.std.proofs.Common.{◌≡◌, ℕ, zero, suc, ◌+◌, ◌/◌, ◌&&◌, Bool, true, false, cond, not, nat_lt, List, [], ◌∷◌, ◌++◌, map, find, Option, None, Some, is_none, Ok, refl, ap, sym, ◌∙◌, subst, inl, inr, arith}
use Rattle.std.proofs.lemmas.Bool.{cases_Bool, cond-false}
use Rattle.std.specs.Str.{bytes_eq}
use Rattle.oftp_wire.specs.declared.command.Command.{Command}
use Rattle.oftp_wire.specs.declared.command.Command.TheVariants as command
use Rattle.oftp_wire.specs.declared.command.Sfid.{Sfid}
use Rattle.oftp_wire.specs.declared.reason.StartReason.{StartReason}
use Rattle.oftp_wire.specs.declared.reason.StartReason.TheVariants.{InvalidFilename, InvalidDestination, InvalidOrigin, MaximumRecordLengthNotSupported, FileSizeTooBig, DuplicateFile, FileDirectionRefused, Unspecified}
use Rattle.oftp_wire.specs.Reasons.{start_number}
use Rattle.oftp_vfile.specs.declared.format.Format.{Format}
use Rattle.oftp_vfile.specs.declared.format.Format.TheVariants.{Fixed, Variable, Unstructured, Text}
use Rattle.oftp_vfile.specs.VirtualFile.{IsLongest}
use Rattle.oftp_register.specs.declared.entry.Identity.{Identity}
use Rattle.oftp_register.specs.declared.entry.IncomingState.{IncomingState}
use Rattle.oftp_register.specs.declared.entry.IncomingState.TheVariants.{Open, Whole}
use Rattle.oftp_register.specs.declared.entry.ResponseKind.{ResponseKind}
use Rattle.oftp_register.specs.declared.entry.ResponseKind.TheVariants.{EndResponse, NegativeEndResponse}
use Rattle.oftp_register.specs.declared.entries.IncomingEntry.{IncomingEntry}
use Rattle.oftp_register.specs.declared.entries.IssuedEntry.{IssuedEntry}
use Rattle.oftp_register.specs.declared.entries.Item.{Item}
use Rattle.oftp_register.specs.declared.entries.Item.TheVariants as item
use Rattle.oftp_register.specs.declared.verdicts.Terms.{Terms}
use Rattle.oftp_register.specs.declared.verdicts.StartVerdict.{StartVerdict}
use Rattle.oftp_register.specs.declared.verdicts.StartVerdict.TheVariants as start
use Rattle.oftp_register.specs.Register.{Register, Incoming, Outgoing, same_identity}
use Rattle.oftp_register.specs.Changes.{at_number, closed, on_incoming}
use Rattle.oftp_register.specs.Verdicts.{start_verdict, format_of, longest_of, has_length, is_plain, is_empty, is_received, is_whole, restart_position, offered_identity}
use Rattle.oftp_register.specs.LookUps.{entry_at, incoming_entry, numbered, look_in, next_item, next_response}
use Rattle.oftp_register.specs.Soundness.{IsSound, IsSoundOutgoing, AreNamedOnce}
use Rattle.oftp_register.proofs.NumberLemmas.{at_number_same, mapped_ok}
use Rattle.oftp_register.proofs.IncomingLemmas.{closed_same, if_open_ok}
use Rattle.oftp_session.specs.declared.link.WhenDone.{WhenDone}
use Rattle.oftp_session.specs.declared.link.WhenDone.TheVariants.{ChangeDirection, EndSession}
use Rattle.oftp_session.specs.Settings.{Setting}
use Rattle.oftp_session.specs.declared.state.Contact.{Contact}
use Rattle.oftp_session.specs.Phases.{Receipt}
use Rattle.oftp_session.specs.Listener.{end_response, negative_end_response}
use Rattle.oftp_session.specs.Speaker.{nothing_next, layout_of, sfid_of, response_of, on_item, offers, speaks, offered_from}
use Rattle.oftp_session.specs.Steps.{IsReceived}
use Rattle.oftp_session.proofs.Items.{a_response}
use Rattle.oftp_register.specs.ByIdentity.{out_at, in_at, named, incoming_name, outgoing_name}
use Rattle.oftp_engine.specs.TwoStations.{Has, IfAny, IsAnsweredBy}
use Rattle.oftp_engine.proofs.Standing.{IsOfferOf, IsIssuedBy, IsWholeAt}
use Rattle.oftp_engine.proofs.IssuedEntries.{IsIssuedEntry, issued_found}
use Rattle.oftp_register.proofs.ByIdentityLemmas.{found_named, one_changed, same_self, named_all}

-- SFNA 13 is sent only of a whole file.

duplicate : (reason : StartReason) → start_number reason ≡ 13 → reason ≡ DuplicateFile
duplicate InvalidFilename h = absurd (omega (arith, h))
duplicate InvalidDestination h = absurd (omega (arith, h))
duplicate InvalidOrigin h = absurd (omega (arith, h))
duplicate MaximumRecordLengthNotSupported h = absurd (omega (arith, h))
duplicate FileSizeTooBig h = absurd (omega (arith, h))
duplicate DuplicateFile h = refl
duplicate FileDirectionRefused h = absurd (omega (arith, h))
duplicate Unspecified h = absurd (omega (arith, h))

passed : {A : Type 0} (b : Bool) (x y v : A) → (x ≡ v → ⊥) → cond b x y ≡ v → y ≡ v
passed true x y v not_so h = absurd (not_so h)
passed false x y v not_so h = h

-- the verdict that a file was received before is only given if it was
pub duplicate_received : (sfid : Sfid) (found : Option IncomingEntry) (full : Bool) (terms : Terms) (retry : Bool)
    → start_verdict sfid found full terms ≡ start.Refuse DuplicateFile retry → is_received found ≡ true
duplicate_received sfid found full terms retry h =
    let v : StartVerdict = start.Refuse DuplicateFile retry in
    let no : (reason : StartReason) (again : Bool) → (reason ≡ DuplicateFile → ⊥) → (let w : StartVerdict = start.Refuse reason again in w ≡ v) → ⊥ = λ reason again k e. k (cc) in
    let h1 = passed (not terms.receives) _ _ v (no FileDirectionRefused false (λ e. cc)) h in
    let h2 = passed (not (is_plain sfid)) _ _ v (no Unspecified false (λ e. cc)) h1 in
    let h3 = passed (is_empty sfid.dataset) _ _ v (no InvalidFilename false (λ e. cc)) h2 in
    let h4 = passed (not (bytes_eq sfid.destination terms.station)) _ _ v (no InvalidDestination false (λ e. cc)) h3 in
    let h5 = passed (not (bytes_eq sfid.originator terms.partner)) _ _ v (no InvalidOrigin false (λ e. cc)) h4 in
    let h6 = passed (not (has_length sfid.layout)) _ _ v (no MaximumRecordLengthNotSupported false (λ e. cc)) h5 in
    let h7 = passed (nat_lt (terms.limits.octets / 1024) sfid.size) _ _ v (no FileSizeTooBig false (λ e. cc)) h6 in
    elim (cases_Bool (is_received found)) [
      | inl e ↦ e
      | inr e ↦ absurd (
          let accept : StartVerdict = start.Accept (restart_position sfid found terms.restart) in
          let later : StartVerdict = cond (is_none found && full) (start.Refuse Unspecified true) accept in
          let h8 : later ≡ v = sym (cond-false (is_received found) (start.Refuse DuplicateFile false) later e) ∙ h7 in
          let h9 : accept ≡ v = passed (is_none found && full) _ accept v (no Unspecified true (λ d. cc)) h8 in cc)
    ]

pub whole_state : (state : IncomingState) → is_whole state ≡ true → state ≡ Whole
whole_state Open h = absurd (cc)
whole_state Whole h = refl

received_found : (i : Identity) (n : ℕ) (xs : List Incoming) → is_received (find (λ (e : IncomingEntry). same_identity e.identity i) (numbered incoming_entry n xs)) ≡ true
    → Has (named incoming_name i xs) (λ e. e.state ≡ Whole)
received_found i n [] h = absurd (cc)
received_found i n (f ∷ fs) h = by (received_found i (n + 1) fs) (same_identity f.identity i) h
  where
    by : (is_received (find (λ (e : IncomingEntry). same_identity e.identity i) (numbered incoming_entry (n + 1) fs)) ≡ true → Has (named incoming_name i fs) (λ e. e.state ≡ Whole))
        → (b : Bool) → is_received (cond b (Some (incoming_entry n f)) (find (λ (e : IncomingEntry). same_identity e.identity i) (numbered incoming_entry (n + 1) fs))) ≡ true
        → Has (cond b (Some f) (named incoming_name i fs)) (λ e. e.state ≡ Whole)
    by ih true g = whole_state f.state g
    by ih false g = ih g

pub refusal_is_true : (r : Register) (sfid : Sfid) (full : Bool) (terms : Terms) (reason : StartReason) (retry : Bool)
    → start_verdict sfid (look_in r (offered_identity sfid)) full terms ≡ start.Refuse reason retry → start_number reason ≡ 13 → IsWholeAt r (offered_identity sfid)
refusal_is_true r sfid full terms reason retry h is =
    let same : reason ≡ DuplicateFile = duplicate reason is in
    received_found (offered_identity sfid) 1 r.incoming (duplicate_received sfid (look_in r (offered_identity sfid)) full terms retry
    (h ∙ ap (λ x. let v : StartVerdict = start.Refuse x retry in v) same))

-- EFPA is sent only of a whole file: the one that was closed.

pub closed_is_whole : (r s : Register) (f : Receipt) (rows : List (List ℕ)) → IsSound r → IsReceived r f → on_incoming (closed rows) f.number r ≡ Ok s → IsWholeAt s f.file.identity
closed_is_whole r s f rows sound holds h = by f.number holds.entry h
  where
    by : (n : ℕ) → entry_at n r.incoming ≡ Some f.file → on_incoming (closed rows) n r ≡ Ok s → IsWholeAt s f.file.identity
    by zero e g = absurd (cc)
    by (suc n) e g =
        let part = mapped_ok (λ files. record r { incoming = files }) (at_number (closed rows) (suc n) r.incoming) s g in
        let c = one_changed incoming_name (closed rows) (closed_same rows) n r.incoming part.0 part.1 in
        let same : c.old ≡ f.file = (let q : Some c.old ≡ Some f.file = sym c.entry ∙ e in cc) in
        let made = if_open_ok c.old (c.old.rows ++ rows) Whole c.old.state c.new c.done in
        let whole : c.new.state ≡ Whole = ap (λ (x : Incoming). x.state) (sym made.1) in
        let name : c.new.identity ≡ f.file.identity = closed_same rows c.old c.new c.done ∙ ap (λ (x : Incoming). x.identity) same in
        let once' : AreNamedOnce (map incoming_name part.0) = subst AreNamedOnce
        (sym (at_number_same incoming_name (closed rows) (closed_same rows) (suc n) r.incoming part.0 part.1)) sound.incoming_once in
        let found : named incoming_name f.file.identity part.0 ≡ Some c.new =
        found_named incoming_name n part.0 c.new f.file.identity once' c.entry_now (ap (λ z. same_identity z f.file.identity) name ∙ same_self f.file.identity) in
        subst (λ (z : Register). IsWholeAt z f.file.identity) part.2 (subst (λ o. Has o (λ (x : Incoming). x.state ≡ Whole)) (sym found) whole)

-- SFID is sent of a file of the station, with its header.

layout_format : (format : Format) (longest : ℕ) → format_of (layout_of format longest) ≡ format
layout_format Fixed longest = refl
layout_format Variable longest = refl
layout_format Unstructured longest = refl
layout_format Text longest = refl

layout_longest : (format : Format) (longest : ℕ) → IsLongest format longest → longest_of (layout_of format longest) ≡ longest
layout_longest Fixed longest h = refl
layout_longest Variable longest h = refl
layout_longest Unstructured longest h = sym h
layout_longest Text longest h = sym h

pub out_entry : (r : Register) (n : ℕ) (x : Outgoing) → IsSound r → entry_at n r.outgoing ≡ Some x → out_at r x.identity ≡ Some x
out_entry r zero x sound e = absurd (cc)
out_entry r (suc n) x sound e = found_named outgoing_name n r.outgoing x x.identity sound.outgoing_once e (same_self x.identity)

-- what a command means for the register of the station that sent it
abbrev pub IsTrueOf : Register → Command → Type 0
IsTrueOf r (command.Sfid sfid) = IsOfferOf r sfid
IsTrueOf r (command.Eerp eerp) = IsIssuedBy r (end_response eerp)
IsTrueOf r (command.Nerp nerp) = IsIssuedBy r (negative_end_response nerp)
IsTrueOf r _ = Unit {0}

offer_is_true : (r : Register) (n : ℕ) (file : Outgoing) (from : ℕ) → IsSound r → entry_at n r.outgoing ≡ Some file → IsTrueOf r (sfid_of file from)
offer_is_true r n file from sound e =
    let found : out_at r file.identity ≡ Some file = out_entry r n file sound e in
    let s : IsSoundOutgoing file = named_all outgoing_name IsSoundOutgoing file.identity r.outgoing file sound.outgoing found in
    record { file = file; found = found; format = layout_format file.format file.longest; longest = layout_longest file.format file.longest s.longest }

-- EERP and NERP are sent of responses that were issued.

issued_at : (r : Register) (e : IssuedEntry) → IsSound r → IsIssuedEntry 1 r.incoming e → Has (in_at r e.identity) (IsAnsweredBy e.response.kind)
issued_at r e sound k =
    let found : in_at r k.file.identity ≡ Some k.file = found_named incoming_name k.place r.incoming k.file k.file.identity sound.incoming_once k.at (same_self k.file.identity) in
    let a : IsAnsweredBy e.response.kind k.file = record { response = k.response; issued = k.issued; same = k.kind } in
    subst (λ i. Has (in_at r i) (IsAnsweredBy e.response.kind)) (sym k.identity) (subst (λ o. Has o (IsAnsweredBy e.response.kind)) (sym found) a)

response_is_true : (station : List ℕ) (r : Register) (e : IssuedEntry) (kind : ResponseKind) → kind ≡ e.response.kind → Has (in_at r e.identity) (IsAnsweredBy e.response.kind)
    → IsTrueOf r (response_of station e kind)
response_is_true station r e EndResponse is h = subst (λ k. Has (in_at r e.identity) (IsAnsweredBy k)) (sym is) h
response_is_true station r e NegativeEndResponse is h = subst (λ k. Has (in_at r e.identity) (IsAnsweredBy k)) (sym is) h

-- what a speaker sends next
nothing_is_true : (contact : Contact) (done : WhenDone) (r : Register) → IfAny (nothing_next contact done).output (IsTrueOf r)
nothing_is_true contact ChangeDirection r = tt
nothing_is_true contact EndSession r = tt

item_is_true : (setting : Setting) (contact : Contact) (done : WhenDone) (r : Register) (i : Option Item) → IsSound r
    → ((e : IssuedEntry) → i ≡ Some (item.Response e) → IsIssuedEntry 1 r.incoming e) → IfAny (on_item setting contact done r i).output (IsTrueOf r)
item_is_true setting contact done r (Some (item.Response e)) sound h = response_is_true setting.book.station.code r e e.response.kind refl (issued_at r e sound (h e refl))
item_is_true setting contact done r (Some (item.File e)) sound h = by (entry_at e.no r.outgoing) refl
  where
    by : (file : Option Outgoing) → entry_at e.no r.outgoing ≡ file → IfAny (offers contact done e.no file).output (IsTrueOf r)
    by (Some file) g = offer_is_true r e.no file (offered_from contact file) sound g
    by None g = nothing_is_true contact done r
item_is_true setting contact done r None sound h = nothing_is_true contact done r

pub speaks_truly : (setting : Setting) (contact : Contact) (done : WhenDone) (r : Register) → IsSound r → IfAny (speaks setting contact done r).output (IsTrueOf r)
unfolding speaks
speaks_truly setting contact done r sound =
    item_is_true setting contact done r (next_item r contact.code contact.tried contact.link.sends) sound
    (λ e h. issued_found _ 1 r.incoming e (a_response (next_response r contact.code contact.tried.response) _ e h))
