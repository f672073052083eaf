-- A turn, and the link between two sessions: what is sent may arrive, and they are consistent again.
use Rattle.std.proofs.Common.{◌≡◌, ◌⊎◌, ℕ, ◌≤◌, Bool, true, false, cond, nat_lt, List, [], ◌∷◌, ◌++◌, take, slice_get, All, Option, None, Some, refl, ap, sym, subst, inl, inr}
use Rattle.std.proofs.lemmas.Bool.{true≢false}
use Rattle.oftp_wire.specs.declared.command.Command.{Command}
use Rattle.oftp_wire.specs.declared.command.Command.TheVariants as command
use Rattle.oftp_register.specs.declared.entry.ResponseKind.{ResponseKind}
use Rattle.oftp_register.specs.declared.entry.ResponseKind.TheVariants.{EndResponse, NegativeEndResponse}
use Rattle.oftp_register.specs.declared.entries.IssuedEntry.{IssuedEntry}
use Rattle.oftp_register.specs.declared.entries.Item.{Item}
use Rattle.oftp_register.specs.declared.entries.Item.TheVariants as item
use Rattle.oftp_register.specs.Register.{Register, Outgoing}
use Rattle.oftp_register.specs.LookUps.{entry_at, next_item}
use Rattle.oftp_register.specs.Soundness.{IsSound}
use Rattle.oftp_session.specs.declared.link.WhenDone.{WhenDone}
use Rattle.oftp_session.specs.declared.link.WhenDone.TheVariants.{ChangeDirection, EndSession}
use Rattle.oftp_session.specs.Settings.{Setting}
use Rattle.oftp_session.specs.Phases.{Phase, Transfer, Step, ResponderOpening, InitiatorOpening, AwaitingSsid, ListenerIdle, Receiving, SpeakerIdle, GivingWay, AwaitingRtr, AwaitingStart, Sending, AwaitingEnd, EndedHere, EndedThere, quiet, says, is_over}
use Rattle.oftp_session.specs.declared.state.Contact.{Contact}
use Rattle.oftp_session.specs.Speaker.{on_item, offers, nothing_next, speaks, response_of}
use Rattle.oftp_session.specs.Sending.{turned_sending, sends_next, credit_left, payloads_in, efid_of}
use Rattle.oftp_session.specs.Steps.{turned, Holds, IsSent}
use Rattle.oftp_engine.specs.TwoStations.{IfAny}
use Rattle.oftp_engine.proofs.Standing.{SsrmGoes, SsidComes, ResponseGoes, RtrComes, SfidGoes, SfpaComes, SfnaComes, EfidGoes, AnswerComes, HasRoom, MayCome, MayOpen, MayHear, IsTold, IsTaking, IsCredit, OpensWith, Speaks, Talk}
use Rattle.oftp_engine.proofs.Says.{IsTrueOf, speaks_truly}
use Rattle.oftp_engine.proofs.Coming.{may_come_later, may_come_end}
use Rattle.oftp_session.specs.Calls.{Makes}
use Rattle.oftp_engine.proofs.Events.{later_made}
use Rattle.oftp_engine.proofs.Stepped.{with_said}
use Rattle.oftp_engine.proofs.Link.{data_may_come, data_link, efid_may_come, efid_link}

-- one that doesn't speak
abbrev IsPatient : Phase → Type 0
IsPatient InitiatorOpening = Unit {0}
IsPatient AwaitingSsid = Unit {0}
IsPatient (ListenerIdle contact) = Unit {0}
IsPatient (Receiving contact f) = Unit {0}
IsPatient _ = ⊥

told_patient : (coming : List Command) (talk : Talk) → IsTold coming talk → IsPatient talk.phase
told_patient coming talk k = subst IsPatient (sym k.listens) tt

opens_patient : (calls : Bool) (coming : List Command) (talk : Talk) → OpensWith calls coming talk → IsPatient talk.phase
opens_patient true coming talk s = told_patient [] talk s.listens
opens_patient false coming talk s = elim s [ SsrmGoes none k ↦ subst IsPatient (sym k.opens) tt | SsidComes ssid comes k ↦ subst IsPatient (sym k.opens) tt ]

speaks_patient : (talk other : Talk) (p : Phase) → Speaks talk p other → IsPatient other.phase
speaks_patient talk other ResponderOpening s = subst IsPatient (sym s.calling.opens) tt
speaks_patient talk other InitiatorOpening s = absurd s
speaks_patient talk other AwaitingSsid s = opens_patient talk.calls talk.coming other s
speaks_patient talk other (ListenerIdle contact) s = told_patient [] other s.listens
speaks_patient talk other (Receiving contact f) s = absurd s
speaks_patient talk other (SpeakerIdle contact done) s = told_patient [] other s.listens
speaks_patient talk other (GivingWay contact) s = told_patient [] other s.listens
speaks_patient talk other (AwaitingRtr contact number) s = elim s [ ResponseGoes none response is k ↦ told_patient (response ∷ []) other k | RtrComes comes k ↦ told_patient [] other k ]
speaks_patient talk other (AwaitingStart contact offer) s =
    elim s [
      | SfidGoes none sfid same k ↦ told_patient (command.Sfid sfid ∷ []) other k
      | SfpaComes from comes k ↦ subst IsPatient (sym k.takes) tt
      | SfnaComes sfna comes k ↦ told_patient [] other k
    ]
speaks_patient talk other (Sending contact t) s = subst IsPatient (sym s.takes.takes) tt
speaks_patient talk other (AwaitingEnd contact t) s = elim s [ EfidGoes credits efid k ↦ subst IsPatient (sym k.takes) tt | AnswerComes credits all answer is comes k ↦ told_patient [] other k ]
speaks_patient talk other (EndedHere reason) s = absurd s
speaks_patient talk other (EndedThere reason) s = absurd s

-- one of the two may speak
abbrev pub Linked : Talk → Talk → Type 0
Linked one other = Speaks one one.phase other ⊎ Speaks other other.phase one

-- what a step does to the link
pub record Links (calls : Bool) (coming : List Command) (other : Talk) (step : Step) (after : Register) : Type 0 where
  pub said : MayCome after other.phase (with_said other.coming step.output)
  pub meet : is_over step.phase ≡ false
      → Linked (record { calls = calls; phase = step.phase; coming = coming }) (record other { coming = with_said other.coming step.output })

-- a step that is one of two
pub either_links : (b : Bool) (x y : Step) (r after : Register) (calls : Bool) (coming : List Command) (other : Talk)
    → (Makes x.change r after → Links calls coming other x after) → (Makes y.change r after → Links calls coming other y after)
    → Makes (let s : Step = cond b x y in s).change r after → Links calls coming other (cond b x y) after
either_links true x y r after calls coming other one two made = one made
either_links false x y r after calls coming other one two made = two made

-- if the one isn't waiting, it is the one that speaks
pub mine : (one other : Talk) → (IsPatient one.phase → ⊥) → Linked one other → Speaks one one.phase other
mine one other busy s = elim s [ inl k ↦ k | inr k ↦ absurd (busy (speaks_patient other one other.phase k)) ]

quiet_links : (r after : Register) (p : Phase) (calls : Bool) (coming : List Command) (other : Talk) → after ≡ r
    → (let one : Talk = record { calls = calls; phase = p; coming = coming } in Linked one other) → MayCome r other.phase other.coming → Links calls coming other (quiet p) after
quiet_links r after p calls coming other made s come = record { said = subst (λ x. MayCome x other.phase other.coming) (sym made) come; meet = λ _. s }

-- one command goes to a listener, to which nothing was on its way
hears_next : (after : Register) (other : Talk) (c : Command) → IsTold [] other → MayHear after (c ∷ []) → MayCome after other.phase (other.coming ++ c ∷ [])
hears_next after other c k h = subst (λ p. MayCome after p (other.coming ++ c ∷ [])) (sym k.listens) (subst (λ x. MayHear after (x ++ c ∷ [])) (sym k.told) h)

told_now : (other : Talk) (c : Command) → IsTold [] other → IsTold (c ∷ []) (record other { coming = other.coming ++ c ∷ [] })
told_now other c k = record { contact = k.contact; listens = k.listens; told = ap (λ x. x ++ c ∷ []) k.told }

-- the direction changes
gives_way : (after : Register) (contact : Contact) (calls : Bool) (coming : List Command) (other : Talk) → coming ≡ [] → IsTold [] other
    → Links calls coming other (says (ListenerIdle contact) command.Cd) after
gives_way after contact calls coming other none k = record {
  said = hears_next after other command.Cd k tt;
  meet = λ _. inr (subst (λ p. Speaks (record other { coming = other.coming ++ command.Cd ∷ [] }) p (record { calls = calls; phase = ListenerIdle contact; coming = coming })) (sym k.listens)
      (record { comes = ap (λ x. x ++ command.Cd ∷ []) k.told; listens = record { contact = contact; listens = refl; told = none } }));
}

nothing_links : (after : Register) (contact : Contact) (done : WhenDone) (calls : Bool) (coming : List Command) (other : Talk) → coming ≡ [] → IsTold [] other
    → MayCome after other.phase other.coming → Links calls coming other (nothing_next contact done) after
nothing_links after contact ChangeDirection calls coming other none k come = gives_way after contact calls coming other none k
nothing_links after contact EndSession calls coming other none k come = record { said = may_come_end after other.phase other.coming _ come; meet = λ o. absurd (true≢false o) }

-- a response, or an offer
own_response_links : (after : Register) (station : List ℕ) (contact : Contact) (e : IssuedEntry) (kind : ResponseKind) (calls : Bool) (coming : List Command) (other : Talk) → coming ≡ []
    → IsTold [] other → IsTrueOf after (response_of station e kind)
    → Links calls coming other (says (AwaitingRtr contact e.no) (response_of station e kind)) after
own_response_links after station contact e EndResponse calls coming other none k true_of =
    record {
      said = hears_next after other (response_of station e EndResponse) k (true_of, tt);
      meet =
          λ _. inl (ResponseGoes none (response_of station e EndResponse) tt (told_now other (response_of station e EndResponse) k));
    }
own_response_links after station contact e NegativeEndResponse calls coming other none k true_of =
    record {
      said = hears_next after other (response_of station e NegativeEndResponse) k (true_of, tt);
      meet =
          λ _. inl (ResponseGoes none (response_of station e NegativeEndResponse) tt (told_now other (response_of station e NegativeEndResponse) k));
    }

item_links : (setting : Setting) (contact : Contact) (done : WhenDone) (after : Register) (i : Option Item) (calls : Bool) (coming : List Command) (other : Talk) → coming ≡ []
    → IsTold [] other → MayCome after other.phase other.coming
    → IfAny (on_item setting contact done after i).output (IsTrueOf after) → Links calls coming other (on_item setting contact done after i) after
item_links setting contact done after (Some (item.Response e)) calls coming other none k come true_of =
    own_response_links after setting.book.station.code _ e e.response.kind calls coming other none k true_of
item_links setting contact done after (Some (item.File e)) calls coming other none k come true_of = by (entry_at e.no after.outgoing) true_of
  where
    by : (file : Option Outgoing) → IfAny (offers contact done e.no file).output (IsTrueOf after) → Links calls coming other (offers contact done e.no file) after
    by (Some file) t = record { said = hears_next after other _ k (t, tt); meet = λ _. inl (SfidGoes none _ refl (told_now other _ k)) }
    by None t = nothing_links after contact done calls coming other none k come
item_links setting contact done after None calls coming other none k come true_of = nothing_links after contact done calls coming other none k come

sending_links : (contact : Contact) (t : Transfer) (r after : Register) (calls : Bool) (coming : List Command) (other : Talk) (payload : Option (List ℕ))
    → slice_get (payloads_in contact t) t.sent ≡ payload → IsSound r → IsSent r t → 128 ≤ contact.link.buffer
    → Makes (sends_next contact t payload).change r after → All IsCredit coming → IsTaking t.file.identity t.from (take t.sent (payloads_in contact t)) [] other
    → Links calls coming other (sends_next contact t payload) after
sending_links contact t r after calls coming other (Some p) next sound holds room made credits k = record {
  said = subst (λ x. MayCome x other.phase (other.coming ++ command.Data p ∷ [])) (sym made) (data_may_come r contact t p other sound holds.entry room next k);
  meet = λ _. inl (record { credits = credits; takes = data_link contact t p other next k });
}
sending_links contact t r after calls coming other None next sound holds room made credits k = record {
  said = may_come_later r after other.phase (other.coming ++ efid_of t.file ∷ []) (later_made r after (sends_next contact t None).change sound made)
      (efid_may_come r contact t _ other sound holds.entry room next k);
  meet = λ _. inl (EfidGoes credits _ (efid_link contact t _ other next k));
}

-- a station that speaks and sends no file changes nothing
item_same : (setting : Setting) (contact : Contact) (done : WhenDone) (r after : Register) (i : Option Item) → Makes (on_item setting contact done r i).change r after → after ≡ r
item_same setting contact done r after (Some (item.Response e)) h = h
item_same setting contact done r after (Some (item.File e)) h = by done (entry_at e.no r.outgoing) h
  where
    by : (done : WhenDone) (file : Option Outgoing) → Makes (offers contact done e.no file).change r after → after ≡ r
    by done (Some file) g = g
    by ChangeDirection None g = g
    by EndSession None g = g
item_same setting contact ChangeDirection r after None h = h
item_same setting contact EndSession r after None h = h

speaks_links : (setting : Setting) (contact : Contact) (done : WhenDone) (r after : Register) (calls : Bool) (coming : List Command) (other : Talk) → IsSound r
    → Makes (speaks setting contact done r).change r after → coming ≡ [] → IsTold [] other
    → MayCome r other.phase other.coming → Links calls coming other (speaks setting contact done r) after
unfolding speaks
speaks_links setting contact done r after calls coming other sound made none k come =
    let i = next_item r contact.code contact.tried contact.link.sends in
    subst (Links calls coming other (on_item setting contact done r i)) (sym (item_same setting contact done r after i made))
    (item_links setting contact done r i calls coming other none k come (speaks_truly setting contact done r sound))

pub turned_links : (setting : Setting) (p : Phase) (r after : Register) (calls : Bool) (coming : List Command) (other : Talk) → IsSound r → Holds p r → HasRoom p
    → Makes (turned setting p r).change r after
    → (let one : Talk = record { calls = calls; phase = p; coming = coming } in Linked one other) → MayCome r other.phase other.coming → Links calls coming other (turned setting p r) after
unfolding turned speaks turned_sending
turned_links setting ResponderOpening r after calls coming other sound holds room goes s come =
    let k = mine (record { calls = calls; phase = ResponderOpening; coming = coming }) other (λ x. x) s in
    record {
      said = subst (λ p. MayCome after p (other.coming ++ command.Ssrm ∷ [])) (sym k.calling.opens) (subst (λ x. MayOpen (x ++ command.Ssrm ∷ [])) (sym k.calling.told) tt);
      meet = λ _. inl (subst (λ b. OpensWith b coming (record other { coming = other.coming ++ command.Ssrm ∷ [] })) (sym k.role)
          (SsrmGoes k.none (record { role = k.calling.role; opens = k.calling.opens; told = ap (λ x. x ++ command.Ssrm ∷ []) k.calling.told })));
    }
turned_links setting InitiatorOpening r after calls coming other sound holds room goes s come = quiet_links r after InitiatorOpening calls coming other goes s come
turned_links setting AwaitingSsid r after calls coming other sound holds room goes s come = quiet_links r after AwaitingSsid calls coming other goes s come
turned_links setting (ListenerIdle contact) r after calls coming other sound holds room goes s come = quiet_links r after (ListenerIdle contact) calls coming other goes s come
turned_links setting (Receiving contact f) r after calls coming other sound holds room goes s come = quiet_links r after (Receiving contact f) calls coming other goes s come
turned_links setting (SpeakerIdle contact done) r after calls coming other sound holds room goes s come =
    let k = mine (record { calls = calls; phase = SpeakerIdle contact done; coming = coming }) other (λ x. x) s in
    speaks_links setting contact done r after calls coming other sound goes k.comes k.listens come
turned_links setting (GivingWay contact) r after calls coming other sound holds room goes s come =
    let k = mine (record { calls = calls; phase = GivingWay contact; coming = coming }) other (λ x. x) s in gives_way after contact calls coming other k.comes k.listens
turned_links setting (AwaitingRtr contact number) r after calls coming other sound holds room goes s come = quiet_links r after (AwaitingRtr contact number) calls coming other goes s come
turned_links setting (AwaitingStart contact offer) r after calls coming other sound holds room goes s come = quiet_links r after (AwaitingStart contact offer) calls coming other goes s come
turned_links setting (Sending contact t) r after calls coming other sound holds room goes s come =
    let k = mine (record { calls = calls; phase = Sending contact t; coming = coming }) other (λ x. x) s in
    let payload = slice_get (payloads_in contact t) t.sent in
    either_links (nat_lt 0 (credit_left contact t)) (sends_next contact t payload) (quiet (Sending contact t)) r after calls coming other
    (λ g. sending_links contact t r after calls coming other payload refl sound holds room g k.credits k.takes)
    (λ g. quiet_links r after (Sending contact t) calls coming other g (inl k) come) goes
turned_links setting (AwaitingEnd contact t) r after calls coming other sound holds room goes s come = quiet_links r after (AwaitingEnd contact t) calls coming other goes s come
turned_links setting (EndedHere reason) r after calls coming other sound holds room goes s come = quiet_links r after (EndedHere reason) calls coming other goes s come
turned_links setting (EndedThere reason) r after calls coming other sound holds room goes s come = quiet_links r after (EndedThere reason) calls coming other goes s come
