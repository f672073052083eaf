-- The loop of `serve` over a conversation, one part after another.
use Rattle.std.proofs.Common.{◌≡◌, ◌<◌, ◌≤◌, ℕ, List, ◌++◌, take, length, Option, None, Some, Result, Ok, Err, refl, sym, ◌∙◌, subst, arith}
use Rattle.std.proofs.lemmas.List.{length-take-le}
use Rattle.oftp_register.specs.Offices.{View}
use Rattle.oftp_session.specs.Settings.{Setting}
use Rattle.oftp_session.specs.declared.session.Ending.{Ending}
use Rattle.oftp_io.specs.Ports.{Gives}
use Rattle.oftp_io.specs.declared.port.Port.{Port}
use Rattle.oftp_engine.specs.declared.limits.TheConstants.{PIECE}
use Rattle.oftp_engine.specs.declared.serving.End.{End}
use Rattle.oftp_engine.specs.declared.serving.End.TheVariants.{Input}
use Rattle.oftp_engine.specs.declared.serving.RunFault.{RunFault}
use Rattle.oftp_engine.specs.declared.serving.RunFault.TheVariants as fault
use Rattle.oftp_engine.specs.Runs.{ended_as}
use Rattle.oftp_engine.specs.Serving.{Scene, scene}
use Rattle.oftp_engine.specs.Served.{Gave, IsCutShort, IsNeeded, IsServed, Serves, whole}
use Rattle.oftp_engine.specs.Conversation.{ComesTo, Dialogue, HasHeard, HeardMore, Listens}
use Rattle.oftp_engine.proofs.Conversations.{heard_more, no_room}
use Rattle.oftp_engine.proofs.Phases.{ending_from, input_ending}
use Rattle.oftp_engine.proofs.Reading.{gave_on}

-- while it reads: what the conversation has heard, if the office is clean and was open
pub record IsReading {R : Type 0} (remaining : R → Option (List ℕ)) (before now : Port R) (Clean Stood : Type 0)
    (setting : Setting) (talk : Dialogue) (first here : Scene) : Type 0 where
  pub given : List ℕ
  pub gave : Gave remaining before now given
  pub faults : now.faults ≡ before.faults
  pub on : now.ended ≡ before.ended
  pub heard : Clean → Stood → HasHeard setting given talk first here
  pub needed : Clean → Stood → IsNeeded setting first.office.register given

-- it went on from there, returned this, and has read nothing that it didn't need
pub record HasGoneOn (setting : Setting) (given : List ℕ) (talk : Dialogue) (first now : Scene) (answer : Result (Option Ending) RunFault) : Type 0 where
  pub came : ComesTo setting given talk first now answer
  pub needed : IsNeeded setting first.office.register given

-- by the contract of `go_on`
pub gone_on : {O R W : Type 0} (view : O → View) (contents : W → Option (List ℕ)) (start mid last : O) (a b d : Port W)
    {remaining : R → Option (List ℕ)} {front here : Port R} {setting : Setting} {before after : Dialogue} {answer : Result (Option Ending) RunFault}
    (h : IsReading remaining front here (view mid).clean (view start).stands setting before (scene contents (view start) a) (scene contents (view mid) b))
    → ((view last).clean → (view mid).clean)
    → ((view last).clean → (first : O) (port : Port W) (s : Setting) (given : List ℕ) → HasHeard s given before (scene contents (view first) port) (scene contents (view mid) b)
    → ComesTo s given after (scene contents (view first) port) (scene contents (view last) d) answer)
    → (view last).clean → (view start).stands → HasGoneOn setting h.given after (scene contents (view start) a) (scene contents (view last) d) answer
gone_on view contents start mid last a b d {setting = setting} h is_clean goes clean stood = record {
  came = goes clean start a setting h.given (h.heard (is_clean clean) stood);
  needed = h.needed (is_clean clean) stood;
}

module _ {setting : Setting} {given : List ℕ} {talk : Dialogue} {first now : Scene} where
  -- it waits for more octets
  pub listens : {found : Option Ending} → HasGoneOn setting given talk first now (let r : Result (Option Ending) RunFault = Ok found in r) → found ≡ None
      → Listens setting given talk first now
  listens h none = subst (λ (x : Option Ending). ComesTo setting given talk first now (let r : Result (Option Ending) RunFault = Ok x in r)) none h.came

  -- the session ended
  pub served_end : {found : Option Ending} {end : Ending} {told : End} → HasGoneOn setting given talk first now (let r : Result (Option Ending) RunFault = Ok found in r)
      → found ≡ Some end → told ≡ ended_as end → IsServed setting given first now told
  served_end {end = end} h some same =
      let c = subst (λ (x : Option Ending). ComesTo setting given talk first now (let r : Result (Option Ending) RunFault = Ok x in r)) some h.came in
      record { all = c.all; ends = same ∙ ending_from (whole setting given first.office.register).phase end c.ends; needed = h.needed }

  -- an error ended it
  pub served_fault : {f : RunFault} → HasGoneOn setting given talk first now (let r : Result (Option Ending) RunFault = Err f in r)
      → Serves setting given first now (let r : Result End RunFault = Err f in r)
  served_fault h = h.came

  -- the input ended
  pub served_input : {found : Option Ending} → HasGoneOn setting given talk first now (let r : Result (Option Ending) RunFault = Ok found in r) → found ≡ None
      → IsServed setting given first now Input
  served_input h none = let l = listens h none in record { all = l.all; ends = input_ending (whole setting given first.office.register).phase l.live; needed = h.needed }

  -- the reader returned an error
  pub cut_short : {found : Option Ending} → HasGoneOn setting given talk first now (let r : Result (Option Ending) RunFault = Ok found in r) → found ≡ None
      → IsCutShort setting given first now
  cut_short h none = let l = listens h none in record { all = l.all; live = l.live }

  -- there was no room for the octets that arrived
  pub out_of_room : {found : Option Ending} {answer : Result End RunFault} → HasGoneOn setting given talk first now (let r : Result (Option Ending) RunFault = Ok found in r)
      → found ≡ None → (piece : List ℕ) → 0 < length piece → answer ≡ Err fault.Memory → Serves setting (given ++ piece) first now answer
  out_of_room h none piece some same = subst (Serves setting (given ++ piece) first now) (sym same) (no_room setting given piece talk first now (listens h none) some)

-- one more piece was read and heard
pub read_on : {R : Type 0} (remaining : R → Option (List ℕ)) (before now next : Port R) (given piece : List ℕ) (n : ℕ) (Clean Stood : Type 0)
    (setting : Setting) (talk fed : Dialogue) (first here : Scene)
    → Gave remaining before now given → now.faults ≡ before.faults → now.ended ≡ before.ended → Gives remaining now next piece n → 0 < n
    → (Clean → Stood → Listens setting given talk first here) → HeardMore talk fed (take n piece) → length (take n piece) ≤ PIECE
    → IsReading remaining before next Clean Stood setting fed first here
read_on remaining before now next given piece n Clean Stood setting talk fed first here g f o h some w more short = record {
  given = given ++ take n piece;
  gave = gave_on remaining before now next given piece n g h;
  faults = h.faults ∙ f;
  on = h.on some ∙ o;
  heard = λ clean stood. heard_more setting given (take n piece) talk fed first here (w clean stood).heard more;
  needed = λ clean stood. record {
    before = given;
    last = take n piece;
    all = refl;
    piece = short;
    some = λ _. omega (arith, some, length-take-le n piece h.fits);
    live = λ _. (w clean stood).live;
  };
}
