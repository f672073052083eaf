-- The sessions of two stations with each other are with each other's codes. The SSIDs on their way have the codes of who sent them.
use Rattle.std.proofs.Common.{◌≡◌, ℕ, Bool, true, false, cond, List, [], ◌∷◌, ◌++◌, Option, None, Some, is_some, refl, ◌∙◌, subst}
use Rattle.std.specs.List.{AllByRecursion}
use Rattle.std.specs.Str.{bytes_eq}
use Rattle.oftp_wire.specs.declared.command.Command.{Command}
use Rattle.oftp_wire.specs.declared.command.Command.TheVariants as command
use Rattle.oftp_wire.specs.declared.reason.SessionReason.TheVariants.{ResourcesNotAvailable}
use Rattle.oftp_register.specs.declared.change.Change.{Change}
use Rattle.oftp_register.specs.Register.{Register}
use Rattle.oftp_register.specs.Soundness.{IsSound}
use Rattle.oftp_session.specs.Phases.{Step, esid_of, is_over}
use Rattle.oftp_session.specs.Steps.{Holds, came, turned}
use Rattle.oftp_engine.specs.Runs.{Course, Output, advance}
use Rattle.oftp_engine.specs.World.{Station, World, Dealings, Happening, Does, Breaks, Stops, StopsInStep, FailsInStep, Orders, Alters, Calls, Deals, Doing, TakesTurn, TakesCommand, step_of, left_of, left_after, does, stops_at, stops_within, fails_within, may_stop, calls, changed_by, dealt, in_session, without_session, happens_in, happens, stepped, stopped_with, told, turned_round}
use Rattle.oftp_engine.specs.TwoStations.{IfAny}
use Rattle.oftp_engine.proofs.About.{HasCode, IsAbout, IsAboutStep, came_about, lets_in, opening_about, turned_about}

-- a session of the station with one code is with the partner of the other
pub record IsWith (own theirs : List ℕ) (c : Course) : Type 0 where
  pub setting : c.setting.book.station.code ≡ own
  pub about : IsAbout (λ code. code ≡ theirs) c.setting.book.station.code c.register c.phase

-- commands whose SSIDs have this code
abbrev pub HaveCode : List ℕ → List Command → Type 0
HaveCode code coming = AllByRecursion (HasCode (λ c. c ≡ code)) coming

pub record KnowsOther (own theirs : List ℕ) (s : Station) : Type 0 where
  pub code : s.book.station.code ≡ own
  pub session : IfAny s.session (IsWith own theirs)
  pub coming : HaveCode theirs s.coming

pub record Knows (one other : List ℕ) (w : World) : Type 0 where
  pub at_one : KnowsOther one other w.one
  pub at_other : KnowsOther other one w.other

pub knows_round : (a b : List ℕ) (w : World) → Knows a b w → Knows b a (turned_round w)
knows_round a b w h = record { at_one = h.at_other; at_other = h.at_one }

as_code : (P Q : List ℕ → Type 0) → ((x : List ℕ) → P x → Q x) → (c : Command) → HasCode P c → HasCode Q c
as_code P Q f (command.Ssid ssid) h = f ssid.code h
as_code P Q f _ h = tt

all_push : (P : Command → Type 0) (xs : List Command) (x : Command) → AllByRecursion P xs → P x → AllByRecursion P (xs ++ x ∷ [])
all_push P [] x h p = (p, tt)
all_push P (y ∷ ys) x h p = (h.0, all_push P ys x h.1 p)

module _ (a b : List ℕ) where
  -- a command that goes to a station
  told_knows : (s : Station) (output : Option Command) → IfAny output (HasCode (λ c. c ≡ a)) → KnowsOther b a s → KnowsOther b a (told s output)
  told_knows s None said h = h
  told_knows s (Some c) said h = by (is_some s.session)
    where
      by : (b' : Bool) → KnowsOther b a (cond b' (record s { coming = s.coming ++ c ∷ [] }) s)
      by true = record { code = h.code; session = h.session; coming = all_push (HasCode (λ x. x ≡ a)) s.coming c h.coming said }
      by false = h

  stopped_knows : (s : Station) (r : Register) → KnowsOther a b s → KnowsOther a b (stopped_with s r)
  stopped_knows s r h = record { code = h.code; session = tt; coming = tt }

  said_as : (own : List ℕ) (output : Option Command) → own ≡ a → IfAny output (HasCode (λ c. c ≡ own)) → IfAny output (HasCode (λ c. c ≡ a))
  said_as own None same h = tt
  said_as own (Some c) same h = as_code (λ x. x ≡ own) (λ x. x ≡ a) (λ x e. e ∙ same) c h

  -- a step
  stepped_knows : (w : World) (c : Course) (step : Step) (rest : List Command) → IsWith a b c → IsAboutStep (λ code. code ≡ b) c.setting.book.station.code c.register step
      → HaveCode b rest → Knows a b w → Knows a b (stepped (record w { one = record w.one { coming = rest } }) c step)
  unfolding advance
  stepped_knows w c step rest k s come h = record {
    at_one = by (is_over step.phase);
    at_other = told_knows w.other step.output (said_as c.setting.book.station.code step.output k.setting s.said) h.at_other;
  }
    where
      by : (over : Bool) → KnowsOther a b (cond over (stopped_with (record w.one { coming = rest }) (advance c step).register) (record w.one { coming = rest; session = Some (advance c step) }))
      by true = record { code = h.at_one.code; session = tt; coming = tt }
      by false = record { code = h.at_one.code; session = record { setting = k.setting; about = s.phase }; coming = come }

  does_knows : (w : World) (c : Course) (doing : Doing) → IsWith a b c → IsSound c.register → Holds c.phase c.register → Knows a b w
      → Knows a b (does w c (left_of doing w.one.coming) (step_of c doing w.one.coming))
  does_knows w c TakesTurn k sound holds h =
      stepped_knows w c (turned c.setting c.phase c.register) w.one.coming k (turned_about (λ code. code ≡ b) c.setting c.phase c.register sound holds k.about) h.at_one.coming h
  does_knows w c TakesCommand k sound holds h = by w.one.coming h.at_one.coming
    where
      by : (coming : List Command) → HaveCode b coming → Knows a b (does w c (left_of TakesCommand coming) (step_of c TakesCommand coming))
      by [] come = h
      by (m ∷ rest) come =
          stepped_knows w c (came c.setting c.phase c.register m) rest k
          (came_about (λ code. code ≡ b) c.setting c.phase c.register m holds (lets_in (λ code. code ≡ b) c.setting m come.0) k.about) come.1 h

  -- crashes and errors of the office
  stops_knows : (w : World) (c : Course) (out : List Output) (n : ℕ) → Knows a b w → Knows a b (stops_at w c out n)
  stops_knows w c out n h = by (may_stop c out n)
    where
      by : (may : Bool) → Knows a b (cond may (record w { one = stopped_with w.one (left_after w.one.start c n) }) w)
      by true = record { at_one = stopped_knows w.one (left_after w.one.start c n) h.at_one; at_other = h.at_other }
      by false = h

  within_knows : (w : World) (c : Course) (n : ℕ) (step : Option Step) → Knows a b w → Knows a b (stops_within w c n step)
  within_knows w c n None h = h
  within_knows w c n (Some step) h = stops_knows w (advance c step) c.outputs n h

  fails_knows : (w : World) (c : Course) (n : ℕ) (step : Option Step) → Knows a b w → Knows a b (fails_within w c n step)
  fails_knows w c n None h = h
  fails_knows w c n (Some step) h = by (may_stop (advance c step) c.outputs n)
    where
      by : (may : Bool) → Knows a b (let v : World = cond may
          (record { one = stopped_with w.one (left_after w.one.start (advance c step) n); other = told w.other (Some (esid_of ResourcesNotAvailable)) }) w in v)
      by true = record {
        at_one = stopped_knows w.one (left_after w.one.start (advance c step) n) h.at_one;
        at_other = told_knows w.other (Some (esid_of ResourcesNotAvailable)) tt h.at_other;
      }
      by false = h

  in_session_knows : (w : World) (c : Course) (h : Happening) → IsWith a b c → IsSound c.register → Holds c.phase c.register → Knows a b w → Knows a b (in_session w c h)
  unfolding in_session
  in_session_knows w c (Does doing) k sound holds s = does_knows w c doing k sound holds s
  in_session_knows w c Breaks k sound holds s = record { at_one = stopped_knows w.one c.register s.at_one; at_other = s.at_other }
  in_session_knows w c (Stops n) k sound holds s = stops_knows w c c.outputs n s
  in_session_knows w c (StopsInStep doing n) k sound holds s = within_knows w c n (step_of c doing w.one.coming) s
  in_session_knows w c (FailsInStep doing n) k sound holds s = fails_knows w c n (step_of c doing w.one.coming) s
  in_session_knows w c (Orders order) k sound holds s = s
  in_session_knows w c (Alters alteration) k sound holds s = s
  in_session_knows w c Calls k sound holds s = s
  in_session_knows w c (Deals dealings) k sound holds s = s

  -- where there is no session
  moved_knows : (w : World) (r : Register) → Knows a b w → Knows a b (record w { one = record w.one { start = r } })
  moved_knows w r h = record { at_one = record { code = h.at_one.code; session = h.at_one.session; coming = h.at_one.coming }; at_other = h.at_other }

  changed_knows : (w : World) (change : Option Change) → Knows a b w → Knows a b (changed_by w change)
  changed_knows w change h = record { at_one = record { code = h.at_one.code; session = h.at_one.session; coming = h.at_one.coming }; at_other = h.at_other }

  dealt_knows : (w : World) (dealings : Dealings) → Knows a b w → Knows a b (dealt w dealings)
  dealt_knows w dealings h = by (bytes_eq dealings.without w.other.book.station.code)
    where
      by : (apart : Bool) → Knows a b (cond apart (record w { one = record w.one { start = dealings.left w.one.start } }) w)
      by true = moved_knows w (dealings.left w.one.start) h
      by false = h

  calls_knows : (w : World) (session : Option Course) → Knows a b w → Knows a b (calls w session)
  calls_knows w None h = record {
    at_one = record {
      code = h.at_one.code;
      session = record { setting = h.at_one.code; about = opening_about (λ code. code ≡ b) w.one.book.station.code w.one.start (Some w.one.partner) };
      coming = tt;
    };
    at_other = record {
      code = h.at_other.code;
      session = record { setting = h.at_other.code; about = opening_about (λ code. code ≡ a) w.other.book.station.code w.other.start None };
      coming = tt;
    };
  }
  calls_knows w (Some c) h = h

  without_session_knows : (w : World) (h : Happening) → Knows a b w → Knows a b (without_session w h)
  unfolding without_session
  without_session_knows w (Does doing) s = s
  without_session_knows w Breaks s = s
  without_session_knows w (Stops n) s = s
  without_session_knows w (StopsInStep doing n) s = s
  without_session_knows w (FailsInStep doing n) s = s
  without_session_knows w (Orders order) s = changed_knows w (order.deed w.one.book w.one.start).change s
  without_session_knows w (Alters x) s = changed_knows w (Some x.change) s
  without_session_knows w Calls s = calls_knows w w.other.session s
  without_session_knows w (Deals dealings) s = dealt_knows w dealings s

  -- what happens at the one station
  pub happens_knows : (w : World) (h : Happening) → ((c : Course) → w.one.session ≡ Some c → IsSound c.register × Holds c.phase c.register) → Knows a b w → Knows a b (happens w h)
  happens_knows w h facts s = by w.one.session refl
    where
      by : (session : Option Course) → w.one.session ≡ session → Knows a b (happens_in w h session)
      by None e = without_session_knows w h s
      by (Some c) e =
          let f = facts c e in
          in_session_knows w c h (subst (λ o. IfAny o (IsWith a b)) e s.at_one.session) f.0 f.1 s
