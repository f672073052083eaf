-- What a waiting session hears from the one that speaks, by the phase of that one.
use Rattle.std.proofs.Common.{◌≡◌, ℕ, Bool, true, false, List, [], ◌∷◌, ◌++◌, map, take, All, refl, sym, ◌∙◌, subst}
use Rattle.oftp_wire.specs.declared.command.Command.{Command}
use Rattle.oftp_wire.specs.declared.command.Command.TheVariants as command
use Rattle.oftp_wire.specs.declared.command.Efid.{Efid}
use Rattle.oftp_wire.specs.declared.command.Sfid.{Sfid}
use Rattle.oftp_session.specs.Phases.{Phase, Offer, Transfer, ResponderOpening, InitiatorOpening, AwaitingSsid, ListenerIdle, Receiving, SpeakerIdle, GivingWay, AwaitingRtr, AwaitingStart, Sending, AwaitingEnd, EndedHere, EndedThere}
use Rattle.oftp_session.specs.declared.state.Contact.{Contact}
use Rattle.oftp_register.specs.Verdicts.{offered_identity}
use Rattle.oftp_session.specs.Sending.{payloads_in}
use Rattle.oftp_engine.proofs.Standing.{SsrmGoes, SsidComes, ResponseGoes, RtrComes, SfidGoes, SfpaComes, SfnaComes, EfidGoes, AnswerComes, IsTold, IsTaking, IsCredit, IsResponseCommand, OpensWith, Speaks, Talk}

-- one that calls is greeted
pub record IsGreeted (c : Command) (rest : List Command) (one other : Talk) : Type 0 where
  pub opens : one.phase ≡ InitiatorOpening
  pub calls : one.calls ≡ true
  pub is : c ≡ command.Ssrm
  pub alone : rest ≡ []
  pub called : other.calls ≡ false
  pub awaits : other.phase ≡ AwaitingSsid
  pub none : other.coming ≡ []

-- a listener hears a response
pub record HearsResponse (c : Command) (rest : List Command) (one other : Talk) : Type 0 where
  pub contact : Contact
  pub listens : one.phase ≡ ListenerIdle contact
  pub is : IsResponseCommand c
  pub alone : rest ≡ []
  pub there : Contact
  pub number : ℕ
  pub awaits : other.phase ≡ AwaitingRtr there number
  pub none : other.coming ≡ []

-- a listener hears an offer
pub record HearsOffer (c : Command) (rest : List Command) (one other : Talk) : Type 0 where
  pub contact : Contact
  pub listens : one.phase ≡ ListenerIdle contact
  pub sfid : Sfid
  pub is : c ≡ command.Sfid sfid
  pub alone : rest ≡ []
  pub there : Contact
  pub offer : Offer
  pub awaits : other.phase ≡ AwaitingStart there offer
  pub none : other.coming ≡ []
  pub same : offered_identity sfid ≡ offer.file.identity

-- one that takes a file hears payloads, or these and then EFID
pub record HearsData (one other : Talk) : Type 0 where
  pub there : Contact
  pub transfer : Transfer
  pub sends : other.phase ≡ Sending there transfer
  pub credits : All IsCredit other.coming
  pub takes : IsTaking transfer.file.identity transfer.from (take transfer.sent (payloads_in there transfer)) [] one

pub record HearsEnd (one other : Talk) : Type 0 where
  pub there : Contact
  pub transfer : Transfer
  pub awaits : other.phase ≡ AwaitingEnd there transfer
  pub credits : All IsCredit other.coming
  pub efid : Efid
  pub takes : IsTaking transfer.file.identity transfer.from (payloads_in there transfer) (command.Efid efid ∷ []) one

pub data Heard (c : Command) (rest : List Command) (one other : Talk) : Type 0 where
  Greeted : IsGreeted c rest one other → Heard c rest one other
  Response : HearsResponse c rest one other → Heard c rest one other
  Offered : HearsOffer c rest one other → Heard c rest one other
  Sent : HearsData one other → Heard c rest one other
  Ended : HearsEnd one other → Heard c rest one other

pub one_left : (c d : Command) (rest : List Command) → c ∷ rest ≡ d ∷ [] → (c ≡ d) × (rest ≡ [])
one_left c d rest h = (cc, cc)

-- if something is on its way to it, something was sent to it
told_none : {A : Type 0} (c : Command) (rest : List Command) (one : Talk) → one.coming ≡ c ∷ rest → IsTold [] one → A
told_none c rest one h k = absurd (let q : c ∷ rest ≡ [] = sym h ∙ k.told in cc)

opening_heard : (c : Command) (rest : List Command) (one other : Talk) (calls : Bool) → one.coming ≡ c ∷ rest → other.phase ≡ AwaitingSsid → other.calls ≡ calls
    → OpensWith calls other.coming one → Heard c rest one other
opening_heard c rest one other true h e role s = told_none c rest one h s.listens
opening_heard c rest one other false h e role s = elim s [
  | SsrmGoes none k ↦ (let l = one_left c command.Ssrm rest (sym h ∙ k.told) in
      Greeted (record { opens = k.opens; calls = k.role; is = l.0; alone = l.1; called = role; awaits = e; none = none }))
  | SsidComes ssid comes k ↦ absurd (let q : c ∷ rest ≡ [] = sym h ∙ k.told in cc)
]

pub heard : (c : Command) (rest : List Command) (one other : Talk) (p : Phase) → one.coming ≡ c ∷ rest → other.phase ≡ p → Speaks other p one → Heard c rest one other
heard c rest one other ResponderOpening h e s = absurd (let q : c ∷ rest ≡ [] = sym h ∙ s.calling.told in cc)
heard c rest one other InitiatorOpening h e s = absurd s
heard c rest one other AwaitingSsid h e s = opening_heard c rest one other other.calls h e refl s
heard c rest one other (ListenerIdle contact) h e s = told_none c rest one h s.listens
heard c rest one other (Receiving contact f) h e s = absurd s
heard c rest one other (SpeakerIdle contact done) h e s = told_none c rest one h s.listens
heard c rest one other (GivingWay contact) h e s = told_none c rest one h s.listens
heard c rest one other (AwaitingRtr contact number) h e s = elim s [
  | ResponseGoes none response is k ↦ (let l = one_left c response rest (sym h ∙ k.told) in
      Response (record { contact = k.contact; listens = k.listens; is = subst IsResponseCommand (sym l.0) is; alone = l.1; there = contact; number = number; awaits = e; none = none }))
  | RtrComes comes k ↦ told_none c rest one h k
]
heard c rest one other (AwaitingStart contact offer) h e s = elim s [
  | SfidGoes none sfid same k ↦ (let l = one_left c (command.Sfid sfid) rest (sym h ∙ k.told) in
      Offered (record { contact = k.contact; listens = k.listens; sfid = sfid; is = l.0; alone = l.1; there = contact; offer = offer; awaits = e; none = none; same = same }))
  | SfpaComes from comes k ↦ nothing_taken k.on_the_way k.receipt.payloads k.all (sym h ∙ k.told)
  | SfnaComes sfna comes k ↦ told_none c rest one h k
]
  where
    nothing_taken : (on_the_way payloads : List (List ℕ)) → payloads ++ on_the_way ≡ [] → c ∷ rest ≡ map command.Data on_the_way ++ [] → Heard c rest one other
    nothing_taken [] payloads all told = absurd (let q : c ∷ rest ≡ [] = told in cc)
    nothing_taken (p ∷ ps) [] all told = absurd (let q : p ∷ ps ≡ [] = all in cc)
    nothing_taken (p ∷ ps) (x ∷ xs) all told = absurd (let q : x ∷ (xs ++ p ∷ ps) ≡ [] = all in cc)
heard c rest one other (Sending contact t) h e s = Sent (record { there = contact; transfer = t; sends = e; credits = s.credits; takes = s.takes })
heard c rest one other (AwaitingEnd contact t) h e s = elim s [
  | EfidGoes credits efid k ↦ Ended (record { there = contact; transfer = t; awaits = e; credits = credits; efid = efid; takes = k })
  | AnswerComes credits all answer is comes k ↦ told_none c rest one h k
]
heard c rest one other (EndedHere reason) h e s = absurd s
heard c rest one other (EndedThere reason) h e s = absurd s
