-- What is left to prove of the steps: of one session alone, and of the link between two.
use Rattle.std.proofs.Common.{◌≡◌, ◌∙◌, ℕ, false, List, ◌∷◌, Some, subst}
use Rattle.oftp_wire.specs.declared.command.Command.{Command}
use Rattle.oftp_register.specs.declared.entry.Identity.{Identity}
use Rattle.oftp_register.specs.Register.{Register}
use Rattle.oftp_session.specs.Calls.{Proceeds}
use Rattle.oftp_session.specs.Phases.{Receipt, Receiving, Step, is_over, register_after}
use Rattle.oftp_session.specs.declared.state.Contact.{Contact}
use Rattle.oftp_session.proofs.Proceeding.{came_proceeds, turned_proceeds}
use Rattle.oftp_session.specs.Steps.{came, turned}
use Rattle.oftp_engine.specs.Runs.{Course, advance}
use Rattle.oftp_engine.specs.World.{World}
use Rattle.oftp_engine.specs.TwoStations.{GoesBetween, IfAny}
use Rattle.oftp_engine.proofs.Standing.{HasRoom, WorldStands, IsInSession, StationLeaves, MayCome, MayComeTo, Meet}
use Rattle.oftp_engine.proofs.Events.{at_session}
use Rattle.oftp_engine.proofs.Stepped.{with_said}
use Rattle.oftp_engine.proofs.Room.{came_room, turned_room}
use Rattle.oftp_engine.proofs.StepGrounds.{came_grounds, turned_grounds}
use Rattle.oftp_engine.proofs.Next.{came_next, turned_next}
use Rattle.oftp_engine.proofs.Keeping.{StepsGoOn}
use Rattle.oftp_engine.proofs.About.{IsAbout}
use Rattle.oftp_engine.proofs.Knowing.{IsWith}

-- a step of one session: its change is made, and leaves a sound register, the facts of the next phase, and room
pub record GoesOn (r : Register) (step : Step) : Type 0 where
  pub proceeds : Proceeds r step
  pub room : HasRoom step.phase

-- of two sessions with each other: what is sent may arrive, and they are consistent again
pub record MeetsAgain (w : World) (c d : Course) (step : Step) (rest : List Command) : Type 0 where
  pub said : MayCome (register_after c.register step.change) d.phase (with_said w.other.coming step.output)
  pub meet : is_over step.phase ≡ false → Meet (Some (advance c step)) rest (Some d) (with_said w.other.coming step.output)

pub record LinkGoesOn (There Back : Identity → Type 0) : Type 0 where
  pub turns : (w : World) (c d : Course) → w.one.session ≡ Some c → w.other.session ≡ Some d → WorldStands There Back w → GoesOn c.register (turned c.setting c.phase c.register)
      → MeetsAgain w c d (turned c.setting c.phase c.register) w.one.coming
  pub takes : (w : World) (c d : Course) (k : Command) (rest : List Command) → w.one.session ≡ Some c → w.other.session ≡ Some d → w.one.coming ≡ k ∷ rest → WorldStands There Back w
      → GoesOn c.register (came c.setting c.phase c.register k)
      → MeetsAgain w c d (came c.setting c.phase c.register k) rest

pub is_in_session : {There Back : Identity → Type 0} (w : World) (c : Course) → w.one.session ≡ Some c → WorldStands There Back w → IsInSession w.one.start c
is_in_session {There = There} {Back = Back} w c e h = subst (λ o. IfAny o (IsInSession w.one.start)) e h.one.session

pub now_leaves : {There Back : Identity → Type 0} (w : World) (c : Course) → w.one.session ≡ Some c → WorldStands There Back w → StationLeaves w.one c.register
now_leaves {There = There} {Back = Back} w c e h = at_session w.one c c.register e (is_in_session w c e h).now

comes_now : {There Back : Identity → Type 0} (w : World) (c : Course) → w.one.session ≡ Some c → WorldStands There Back w → (there : Register) → StationLeaves w.other there
    → MayCome there c.phase w.one.coming
comes_now {There = There} {Back = Back} w c e h = subst (λ o. MayComeTo o w.one.coming w.other) e h.one.coming

-- a file that comes goes from the other station to this one
ours : (own theirs : List ℕ) (Back : Identity → Type 0) (c : Course) → ((i : Identity) → GoesBetween theirs own i → Back i) → IsWith own theirs c
    → (contact : Contact) (f : Receipt) → c.phase ≡ Receiving contact f → Back f.file.identity
ours own theirs Back c all k contact f is =
    let about : IsAbout (λ code. code ≡ theirs) c.setting.book.station.code c.register (Receiving contact f) =
    subst (IsAbout (λ code. code ≡ theirs) c.setting.book.station.code c.register) is k.about in
    all f.file.identity (record { originator = about.1.originator ∙ about.0; destination = about.1.destination ∙ k.setting })

pub steps_from : (There Back : Identity → Type 0) (a b : List ℕ) → ((i : Identity) → GoesBetween b a i → Back i) → LinkGoesOn There Back → StepsGoOn There Back a b
steps_from There Back a b all link = record {
  turns = λ w c e h. (
      let k = is_in_session w c e h in
      let now = now_leaves w c e h in
      let step = turned c.setting c.phase c.register in
      let proceeds = turned_proceeds c.setting c.phase c.register (record { sound = h.one.registers c.register now; holds = k.holds }) in
      let goes : GoesOn c.register step = record { proceeds = proceeds; room = turned_room c.setting c.phase c.register k.room } in (
        register_after c.register step.change,
        record {
          made = proceeds.allowed;
          sound = proceeds.suits.sound;
          holds = λ _. proceeds.suits.holds;
          room = λ _. goes.room;
          grounds = λ there d. turned_grounds c.setting c.phase c.register there;
          next = λ there d. turned_next c.setting c.phase c.register there w.one.coming (comes_now w c e h there d);
          said = λ d q. (link.turns w c d e q h goes).said;
          meet = λ d q. (link.turns w c d e q h goes).meet;
        },
      ));
  takes = λ w c command rest e q h knows. (
      let k = is_in_session w c e h in
      let now = now_leaves w c e h in
      let sound = h.one.registers c.register now in
      let step = came c.setting c.phase c.register command in
      let come : (there : Register) → StationLeaves w.other there → MayCome there c.phase (command ∷ rest) = λ there d. subst (MayCome there c.phase) q (comes_now w c e h there d) in
      let proceeds = came_proceeds c.setting c.phase c.register command (record { sound = sound; holds = k.holds }) in
      let goes : GoesOn c.register step = record { proceeds = proceeds; room = came_room c.setting c.phase c.register command k.buffer k.room } in (
        register_after c.register step.change,
        record {
          made = proceeds.allowed;
          sound = proceeds.suits.sound;
          holds = λ _. proceeds.suits.holds;
          room = λ _. goes.room;
          grounds = λ there d.
              came_grounds c.setting c.phase c.register there command rest sound (h.other.registers there d) k.holds (h.to_one c.register there now d)
              (ours a b Back c all (subst (λ o. IfAny o (IsWith a b)) e knows.at_one.session)) (come there d);
          next = λ there d. came_next c.setting c.phase c.register there command rest (come there d);
          said = λ d p. (link.takes w c d command rest e p q h goes).said;
          meet = λ d p. (link.takes w c d command rest e p q h goes).meet;
        },
      ));
}
