-- Each event preserves the invariant, if each step of a session does.
use Rattle.std.proofs.Common.{◌≡◌, ℕ, Bool, true, false, cond, List, [], ◌∷◌, Option, None, Some, refl, sym, subst, ◌∙◌}
use Rattle.oftp_wire.specs.declared.command.Command.{Command}
use Rattle.oftp_register.specs.Register.{Register}
use Rattle.oftp_session.specs.Steps.{came, turned}
use Rattle.oftp_engine.specs.Runs.{Course}
use Rattle.oftp_engine.specs.World.{World, Happening, Does, Breaks, Stops, StopsInStep, FailsInStep, Orders, Alters, Calls, Deals, Event, Dealings, Doing, TakesTurn, TakesCommand, step_of, left_of, does, stops_within, fails_within, calls, in_session, without_session, happens_in, happens, turned_round, after_event, dealt}
use Rattle.oftp_engine.proofs.Standing.{WorldStands, IsInSession, LeftBy}
use Rattle.oftp_engine.proofs.Events.{stands_round, stands_broken, stands_after_stop, stands_ordered, stands_within, stands_failed, stands_called, stands_moved, at_session}
use Rattle.oftp_engine.proofs.Orders.{deed_ordered}
use Rattle.oftp_engine.proofs.Stepped.{IsStep, stands_stepped}
use Rattle.std.proofs.lemmas.Slice.Eq.{bytes_eq-Decides}
use Rattle.std.specs.Str.{bytes_eq}
use Rattle.oftp_register.specs.declared.entry.Identity.{Identity}
use Rattle.oftp_register.specs.Soundness.{IsSound}
use Rattle.oftp_session.specs.Steps.{Holds}
use Rattle.oftp_engine.specs.TwoStations.{IfAny}
use Rattle.oftp_engine.proofs.Apart.{made_later, made_sound}
use Rattle.oftp_engine.proofs.Knowing.{Knows, happens_knows, knows_round}

-- what is left to prove of each turn and of each command that arrives
pub record StepsGoOn (There Back : Identity → Type 0) (a b : List ℕ) : Type 0 where
  pub turns : (w : World) (c : Course) → w.one.session ≡ Some c → WorldStands There Back w → (after : Register) × IsStep w c (turned c.setting c.phase c.register) w.one.coming after
  pub takes : (w : World) (c : Course) (command : Command) (rest : List Command) → w.one.session ≡ Some c → w.one.coming ≡ command ∷ rest → WorldStands There Back w → Knows a b w
      → (after : Register) × IsStep w c (came c.setting c.phase c.register command) rest after

does_stands : {There Back : Identity → Type 0} {a b : List ℕ} → StepsGoOn There Back a b → (w : World) (c : Course) (doing : Doing) → w.one.session ≡ Some c → WorldStands There Back w
    → Knows a b w → WorldStands There Back (does w c (left_of doing w.one.coming) (step_of c doing w.one.coming))
does_stands {There = There} {Back = Back} on w c TakesTurn e h knows = let s = on.turns w c e h in stands_stepped w c (turned c.setting c.phase c.register) w.one.coming s.0 e h s.1
does_stands {There = There} {Back = Back} on w c TakesCommand e h knows = by w.one.coming refl
  where
    by : (coming : List Command) → w.one.coming ≡ coming → WorldStands There Back (does w c (left_of TakesCommand coming) (step_of c TakesCommand coming))
    by [] q = h
    by (command ∷ rest) q = let s = on.takes w c command rest e q h knows in stands_stepped w c (came c.setting c.phase c.register command) rest s.0 e h s.1

within_stands : {There Back : Identity → Type 0} {a b : List ℕ} → StepsGoOn There Back a b → (w : World) (c : Course) (doing : Doing) (n : ℕ) → w.one.session ≡ Some c
    → WorldStands There Back w → Knows a b w → WorldStands There Back (stops_within w c n (step_of c doing w.one.coming))
within_stands {There = There} {Back = Back} on w c TakesTurn n e h knows = let s = on.turns w c e h in stands_within w c (turned c.setting c.phase c.register) s.0 n e h s.1.sound s.1.made s.1.grounds
within_stands {There = There} {Back = Back} on w c TakesCommand n e h knows = by w.one.coming refl
  where
    by : (coming : List Command) → w.one.coming ≡ coming → WorldStands There Back (stops_within w c n (step_of c TakesCommand coming))
    by [] q = h
    by (command ∷ rest) q = let s = on.takes w c command rest e q h knows in stands_within w c (came c.setting c.phase c.register command) s.0 n e h s.1.sound s.1.made s.1.grounds

failed_stands : {There Back : Identity → Type 0} {a b : List ℕ} → StepsGoOn There Back a b → (w : World) (c : Course) (doing : Doing) (n : ℕ) → w.one.session ≡ Some c
    → WorldStands There Back w → Knows a b w → WorldStands There Back (fails_within w c n (step_of c doing w.one.coming))
failed_stands {There = There} {Back = Back} on w c TakesTurn n e h knows =
    let s = on.turns w c e h in
    stands_failed w c (turned c.setting c.phase c.register) s.0 n e h s.1.sound s.1.made s.1.grounds
failed_stands {There = There} {Back = Back} on w c TakesCommand n e h knows = by w.one.coming refl
  where
    by : (coming : List Command) → w.one.coming ≡ coming → WorldStands There Back (fails_within w c n (step_of c TakesCommand coming))
    by [] q = h
    by (command ∷ rest) q =
        let s = on.takes w c command rest e q h knows in
        stands_failed w c (came c.setting c.phase c.register command) s.0 n e h s.1.sound s.1.made s.1.grounds

in_session_stands : {There Back : Identity → Type 0} {a b : List ℕ} → StepsGoOn There Back a b → (w : World) (c : Course) (h : Happening) → w.one.session ≡ Some c → WorldStands There Back w
    → Knows a b w → WorldStands There Back (in_session w c h)
unfolding in_session
in_session_stands on w c (Does doing) e s knows = does_stands on w c doing e s knows
in_session_stands on w c Breaks e s knows = stands_broken w c e s
in_session_stands on w c (Stops n) e s knows = stands_after_stop w c n e s
in_session_stands on w c (StopsInStep doing n) e s knows = within_stands on w c doing n e s knows
in_session_stands on w c (FailsInStep doing n) e s knows = failed_stands on w c doing n e s knows
in_session_stands on w c (Orders order) e s knows = s
in_session_stands on w c (Alters alteration) e s knows = s
in_session_stands on w c Calls e s knows = s
in_session_stands on w c (Deals dealings) e s knows = s

-- what may happen: dealings with others change no file with such an identity
abbrev pub MayHappen : (Identity → Type 0) → (Identity → Type 0) → List ℕ → Happening → Type 0
MayHappen There Back code (Deals dealings) = ((i : Identity) → There i → i.destination ≡ code) × ((i : Identity) → Back i → i.originator ≡ code)
MayHappen There Back code _ = Unit {0}

stands_dealt : {There Back : Identity → Type 0} {a b : List ℕ} (w : World) (dealings : Dealings) → MayHappen There Back b (Deals dealings) → w.one.session ≡ None → WorldStands There Back w
    → Knows a b w → WorldStands There Back (dealt w dealings)
stands_dealt {There = There} {Back = Back} {b = b} w dealings may e s knows = by (bytes_eq dealings.without w.other.book.station.code) refl
  where
    by : (apart : Bool) → bytes_eq dealings.without w.other.book.station.code ≡ apart
        → WorldStands There Back (let v : World = cond apart (record w { one = record w.one { start = dealings.left w.one.start } }) w in v)
    by true t =
        let code : b ≡ dealings.without = sym ((bytes_eq-Decides dealings.without w.other.book.station.code).0 t ∙ knows.at_other.code) in
        let sound : IsSound w.one.start = s.one.registers w.one.start (subst (λ o. LeftBy w.one.start o w.one.start) (sym e) refl) in
        let is = dealings.is w.one.start sound in
        stands_moved w (dealings.left w.one.start) e
        (made_sound is.changes w.one.start (dealings.left w.one.start) sound is.made)
        (made_later is.changes w.one.start (dealings.left w.one.start) sound is.made)
        (λ i p. is.outgoing i (may.0 i p ∙ code))
        (λ i p. is.incoming i (may.1 i p ∙ code))
        s
    by false t = s

stands_without_session : {There Back : Identity → Type 0} {a b : List ℕ} (w : World) (h : Happening) → MayHappen There Back b h → w.one.session ≡ None → WorldStands There Back w → Knows a b w
    → WorldStands There Back (without_session w h)
unfolding without_session
stands_without_session w (Does doing) may e s knows = s
stands_without_session w Breaks may e s knows = s
stands_without_session w (Stops n) may e s knows = s
stands_without_session w (StopsInStep doing n) may e s knows = s
stands_without_session w (FailsInStep doing n) may e s knows = s
stands_without_session w (Orders order) may e s knows =
    stands_ordered w (order.deed w.one.book w.one.start).change (deed_ordered w.one.book w.one.start order.call (order.deed w.one.book w.one.start) (order.is w.one.book w.one.start)) e s
stands_without_session w (Alters x) may e s knows = stands_ordered w (Some x.change) (record { ordered = x.ordered; fit = x.fit }) e s
stands_without_session {There = There} {Back = Back} w Calls may e s knows = by w.other.session refl
  where
    by : (session : Option Course) → w.other.session ≡ session → WorldStands There Back (calls w session)
    by None q = stands_called w e q s
    by (Some d) q = s
stands_without_session w (Deals dealings) may e s knows = stands_dealt w dealings may e s knows

happens_stands : {There Back : Identity → Type 0} {a b : List ℕ} → StepsGoOn There Back a b → (w : World) (h : Happening) → MayHappen There Back b h → WorldStands There Back w → Knows a b w
    → WorldStands There Back (happens w h)
happens_stands {There = There} {Back = Back} on w h may s knows = by w.one.session refl
  where
    by : (session : Option Course) → w.one.session ≡ session → WorldStands There Back (happens_in w h session)
    by None e = stands_without_session w h may e s knows
    by (Some c) e = in_session_stands on w c h e s knows

-- the invariant, and what the stations know of each other
pub record StandsAmong (There Back : Identity → Type 0) (a b : List ℕ) (w : World) : Type 0 where
  pub stands : WorldStands There Back w
  pub knows : Knows a b w

among_round : (There Back : Identity → Type 0) (a b : List ℕ) (w : World) → StandsAmong There Back a b w → StandsAmong Back There b a (turned_round w)
among_round There Back a b w h = record { stands = stands_round w h.stands; knows = knows_round a b w h.knows }

happens_among : (There Back : Identity → Type 0) (a b : List ℕ) → StepsGoOn There Back a b → (w : World) (h : Happening) → MayHappen There Back b h → StandsAmong There Back a b w
    → StandsAmong There Back a b (happens w h)
happens_among There Back a b on w h may s = record {
  stands = happens_stands on w h may s.stands s.knows;
  knows = happens_knows a b w h facts s.knows;
}
  where
    facts : (c : Course) → w.one.session ≡ Some c → IsSound c.register × Holds c.phase c.register
    facts c e =
        let k : IsInSession w.one.start c = subst (λ o. IfAny o (IsInSession w.one.start)) e s.stands.one.session in
        (s.stands.one.registers c.register (at_session w.one c c.register e k.now), k.holds)

-- the steps, and what may happen, at both stations
pub record GoesOnAmong (There Back : Identity → Type 0) (a b : List ℕ) : Type 0 where
  pub here : StepsGoOn There Back a b
  pub there : StepsGoOn Back There b a

abbrev pub MayHappenTo : (Identity → Type 0) → (Identity → Type 0) → List ℕ → List ℕ → Event → Type 0
MayHappenTo There Back a b e = MayHappen There Back b e.happening × MayHappen Back There a e.happening

pub keeps_among : (There Back : Identity → Type 0) (a b : List ℕ) → GoesOnAmong There Back a b → (w : World) (e : Event) → MayHappenTo There Back a b e → StandsAmong There Back a b w
    → StandsAmong There Back a b (after_event w e)
keeps_among There Back a b on w e may s = by e.at_one
  where
    by : (one : Bool) → StandsAmong There Back a b (let v : World = cond one (happens w e.happening) (turned_round (happens (turned_round w) e.happening)) in v)
    by true = happens_among There Back a b on.here w e.happening may.0 s
    by false = among_round Back There b a (happens (turned_round w) e.happening)
        (happens_among Back There b a on.there (turned_round w) e.happening may.1 (among_round There Back a b w s))
