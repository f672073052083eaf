-- The promise of two stations: each of the two goes on from commands that arrive, and they are consistent again.
use Rattle.std.specs.Prelude.{⊤}
use Rattle.std.proofs.Common.{◌≡◌, ℕ, true, List, [], ◌∷◌, Some, is_some, sym, subst}
use Rattle.std.specs.List.{AllByRecursion}
use Rattle.std.proofs.lemmas.Bool.{true≢false}
use Rattle.oftp_wire.specs.declared.command.Command.{Command}
use Rattle.oftp_register.specs.declared.entry.Identity.{Identity}
use Rattle.oftp_register.specs.Register.{Register}
use Rattle.oftp_register.specs.Soundness.{IsSound}
use Rattle.oftp_session.specs.Settings.{Setting}
use Rattle.oftp_session.specs.Calls.{Makes}
use Rattle.oftp_session.specs.Phases.{register_after, Phase, ResponderOpening, InitiatorOpening, AwaitingSsid, ListenerIdle, Receiving, SpeakerIdle, GivingWay, AwaitingRtr, AwaitingStart, Sending, AwaitingEnd, EndedHere, EndedThere}
use Rattle.oftp_session.specs.Steps.{came, turned, Holds}
use Rattle.oftp_engine.specs.Runs.{Course, advance}
use Rattle.oftp_engine.specs.World.{World, Event, Happening, Deals}
use Rattle.oftp_engine.proofs.Standing.{HasRoom, WorldStands, StationLeaves, MayCome, MayComeTo, Meet, Talk, talk_of}
use Rattle.oftp_engine.specs.Promise.{TwoStations, TwoStationsAlone, is_of_two}
use Rattle.oftp_engine.specs.TwoStations.{GoesBetween}
use Rattle.oftp_engine.proofs.Keeping.{GoesOnAmong, MayHappen, MayHappenTo}
use Rattle.oftp_engine.proofs.Promised.{kept_among}
use Rattle.oftp_engine.proofs.Left.{LinkGoesOn, is_in_session, now_leaves, steps_from}
use Rattle.oftp_engine.proofs.TurnLinks.{Linked, Links, mine, turned_links}
use Rattle.oftp_engine.proofs.TakeLinks.{rtr_links, start_answer_links, sending_takes, end_answer_links, idle_links, respond_links}
use Rattle.oftp_engine.proofs.ListenLinks.{initiate_links, await_links, listen_links, receive_links}

-- a command that arrives at one of two sessions with each other
abbrev pub TakesLink : Type 0
TakesLink = (setting : Setting) (p : Phase) (r after : Register) (c : Command) (coming : List Command) (other : Talk) → IsSound r → Holds p r → HasRoom p → Makes (came setting p r c).change r after
    → (let one : Talk = record { calls = is_some setting.called; phase = p; coming = c ∷ coming } in Linked one other) → MayCome r other.phase other.coming
    → Links (is_some setting.called) coming other (came setting p r c) after

-- the same, for all phases
takes_link : TakesLink
unfolding came
takes_link setting ResponderOpening r after c coming other sound holds room made s come = respond_links r after c (is_some setting.called) coming other made come
takes_link setting InitiatorOpening r after c coming other sound holds room made s come = initiate_links setting r after c (is_some setting.called) coming other made come s
takes_link setting AwaitingSsid r after c coming other sound holds room made s come = await_links setting r after c coming other made come s
takes_link setting (ListenerIdle contact) r after c coming other sound holds room made s come = listen_links setting contact r after c (is_some setting.called) coming other made come s
takes_link setting (Receiving contact f) r after c coming other sound holds room made s come = receive_links contact f r after c (is_some setting.called) coming other sound holds made come s
takes_link setting (SpeakerIdle contact done) r after c coming other sound holds room made s come = idle_links r after c (is_some setting.called) coming other made come
takes_link setting (GivingWay contact) r after c coming other sound holds room made s come = idle_links r after c (is_some setting.called) coming other made come
takes_link setting (AwaitingRtr contact number) r after c coming other sound holds room made s come =
    rtr_links contact number r after c (is_some setting.called) coming other sound made come
    (mine (record { calls = is_some setting.called; phase = AwaitingRtr contact number; coming = c ∷ coming }) other (λ x. x) s)
takes_link setting (AwaitingStart contact offer) r after c coming other sound holds room made s come =
    start_answer_links contact offer r after c (is_some setting.called) coming other sound made come
    (mine (record { calls = is_some setting.called; phase = AwaitingStart contact offer; coming = c ∷ coming }) other (λ x. x) s)
takes_link setting (Sending contact t) r after c coming other sound holds room made s come =
    sending_takes contact t r after c (is_some setting.called) coming other sound made come
    (mine (record { calls = is_some setting.called; phase = Sending contact t; coming = c ∷ coming }) other (λ x. x) s)
takes_link setting (AwaitingEnd contact t) r after c coming other sound holds room made s come =
    end_answer_links contact t r after c (is_some setting.called) coming other sound made come
    (mine (record { calls = is_some setting.called; phase = AwaitingEnd contact t; coming = c ∷ coming }) other (λ x. x) s)
takes_link setting (EndedHere reason) r after c coming other sound holds room made s come =
    record { said = subst (λ x. MayCome x other.phase other.coming) (sym made) come; meet = λ o. absurd (true≢false o) }
takes_link setting (EndedThere reason) r after c coming other sound holds room made s come =
    record { said = subst (λ x. MayCome x other.phase other.coming) (sym made) come; meet = λ o. absurd (true≢false o) }

linked : {There Back : Identity → Type 0} (w : World) (c d : Course) → w.one.session ≡ Some c → w.other.session ≡ Some d → WorldStands There Back w
    → Linked (talk_of c w.one.coming) (talk_of d w.other.coming)
linked w c d e q h = subst (λ o. Meet (Some c) w.one.coming o w.other.coming) q (subst (λ o. Meet o w.one.coming w.other.session w.other.coming) e h.meet)

other_hears : {There Back : Identity → Type 0} (w : World) (c d : Course) → w.one.session ≡ Some c → w.other.session ≡ Some d → WorldStands There Back w → MayCome c.register d.phase w.other.coming
other_hears w c d e q h = (let k : (there : Register) → StationLeaves w.one there → MayCome there d.phase w.other.coming = subst (λ o. MayComeTo o w.other.coming w.one) q h.other.coming in
    k c.register (now_leaves w c e h))

links_of : (There Back : Identity → Type 0) → LinkGoesOn There Back
unfolding advance
links_of There Back = record {
  turns = λ w c d e q h g. (
      let sound = h.one.registers c.register (now_leaves w c e h) in
      let s = is_in_session w c e h in
      let step = turned c.setting c.phase c.register in
      let after = register_after c.register step.change in
      let k = turned_links c.setting c.phase c.register after (is_some c.setting.called) w.one.coming (talk_of d w.other.coming) sound s.holds s.room g.proceeds.allowed
      (linked w c d e q h) (other_hears w c d e q h) in
      record { said = k.said; meet = k.meet });
  takes = λ w c d command rest e q p h g. (
      let sound = h.one.registers c.register (now_leaves w c e h) in
      let s = is_in_session w c e h in
      let after = register_after c.register (came c.setting c.phase c.register command).change in
      let meets : Linked (talk_of c (command ∷ rest)) (talk_of d w.other.coming) = subst (λ x. Linked (talk_of c x) (talk_of d w.other.coming)) p (linked w c d e q h) in
      let k = takes_link c.setting c.phase c.register after command rest (talk_of d w.other.coming) sound s.holds s.room g.proceeds.allowed meets (other_hears w c d e q h) in
      record { said = k.said; meet = k.meet });
}

-- the steps at both stations
among : (There Back : Identity → Type 0) (a b : List ℕ) → ((i : Identity) → GoesBetween a b i → There i) → ((i : Identity) → GoesBetween b a i → Back i) → GoesOnAmong There Back a b
among There Back a b out here = record {
  here = steps_from There Back a b here (links_of There Back);
  there = steps_from Back There b a out (links_of Back There);
}

-- the promise of two stations among any others
pub two_stations : TwoStations
two_stations book book' partner partner' limits limits' events lawful lawful' =
    let a = book.station.code in
    let b = book'.station.code in
    kept_among (GoesBetween a b) (GoesBetween b a) book book' partner partner' limits limits' events lawful lawful' (among (GoesBetween a b) (GoesBetween b a) a b (λ i g. g) (λ i g. g)) (all events)
  where
    may : (x y : List ℕ) (h : Happening) → MayHappen (GoesBetween x y) (GoesBetween y x) y h
    may x y (Deals dealings) = (λ i g. g.destination, λ i g. g.originator)
    may x y _ = tt

    all : (events : List Event)
        → AllByRecursion (MayHappenTo (GoesBetween book.station.code book'.station.code) (GoesBetween book'.station.code book.station.code) book.station.code book'.station.code) events
    all [] = tt
    all (e ∷ es) = ((may book.station.code book'.station.code e.happening, may book'.station.code book.station.code e.happening), all es)

-- the identity of any file
abbrev IsAny : Identity → Type 0
IsAny identity = ⊤

-- the promise of two stations alone
pub two_stations_alone : TwoStationsAlone
two_stations_alone book book' partner partner' limits limits' events lawful lawful' two =
    let kept = kept_among IsAny IsAny book book' partner partner' limits limits' events lawful lawful'
    (among IsAny IsAny book.station.code book'.station.code (λ i g. tt) (λ i g. tt)) (all events two) in
    ((λ i. kept.0.0 i tt, λ i. kept.0.1 i tt), (λ i. kept.1.0 i tt, λ i. kept.1.1 i tt))
  where
    may : (code : List ℕ) (h : Happening) → is_of_two h ≡ true → MayHappen IsAny IsAny code h
    may code (Deals dealings) h = absurd (cc)
    may code _ h = tt

    all : (events : List Event) → AllByRecursion (λ (e : Event). is_of_two e.happening ≡ true) events
        → AllByRecursion (MayHappenTo IsAny IsAny book.station.code book'.station.code) events
    all [] h = tt
    all (e ∷ es) h = ((may book'.station.code e.happening h.0, may book.station.code e.happening h.0), all es h.1)
