-- Conversations: what they have heard, piece after piece, and what holds at each wait.
use Rattle.std.proofs.Common.{◌≡◌, ℕ, ◌<◌, true, List, [], ◌++◌, length, Result, Ok, Err, is_ok, refl, sym, ap, ◌∙◌, subst}
use Rattle.std.proofs.lemmas.Bool.{false≢true}
use Rattle.oftp_register.specs.Offices.{LooksUp, Only, View}
use Rattle.oftp_register.specs.Register.{Register}
use Rattle.oftp_register.specs.Soundness.{IsSound}
use Rattle.oftp_register.specs.declared.office.OfficeFault.{OfficeFault}
use Rattle.oftp_session.proofs.Phases.{opening_suits}
use Rattle.oftp_session.proofs.Recalling.{opening_recalls}
use Rattle.oftp_session.specs.Calls.{Seen}
use Rattle.oftp_session.specs.Settings.{Setting}
use Rattle.oftp_engine.specs.Runs.{started}
use Rattle.oftp_engine.specs.Serving.{Scene, Took}
use Rattle.oftp_engine.specs.Served.{IsOutOfMemory}
use Rattle.oftp_engine.specs.Progress.{Comes, Went}
use Rattle.oftp_engine.specs.Conversation.{Dialogue, HasHeard, HeardMore, IsFresh, Listens, SendsOn, ShowsSame}
use Rattle.oftp_engine.proofs.Ending.{is_out_of_memory}
use Rattle.oftp_engine.proofs.Progress.{went_none}
use Rattle.oftp_engine.proofs.Reading.{comes_more, short_on}

-- the beginning
pub heard_none : (setting : Setting) (talk : Dialogue) (first : Scene) → IsFresh setting talk → IsSound first.office.register → first.office.stands
    → HasHeard setting [] talk first first
heard_none setting talk first fresh sound stood =
    let k = started setting first.office.register in
    record {
      sound = sound;
      stood = stood;
      come = record {
        at = k;
        went = subst (λ (t : List ℕ). Went k [] k t first first) (sym fresh.rest) (went_none k [] first);
        now = record {
          setting = fresh.setting;
          stands = fresh.stands;
          recalls = opening_recalls setting.called talk.seen first.office.register fresh.stands;
          register = refl;
          suits = opening_suits first.office.register setting.called sound;
        };
      };
      limit = fresh.limit;
      told = fresh.told;
    }

-- one more piece
pub heard_more : (setting : Setting) (given octets : List ℕ) (old new : Dialogue) (first now : Scene) → HasHeard setting given old first now → HeardMore old new octets
    → HasHeard setting (given ++ octets) new first now
heard_more setting given octets old new first now h more =
    let k = started setting first.office.register in
    let come = comes_more k given old.stream.rest octets old.seen first now h.come in
    let rest = subst (λ (t : List ℕ). Comes k (given ++ octets) t old.seen first now) (sym more.rest) come in
    record {
      sound = h.sound;
      stood = h.stood;
      come = subst (λ (s : Seen). Comes k (given ++ octets) new.stream.rest s first now) (sym more.seen) rest;
      limit = more.limit ∙ h.limit;
      told = more.told ∙ h.told;
    }

-- there is no room for a piece
pub no_room : (setting : Setting) (given octets : List ℕ) (talk : Dialogue) (first now : Scene) → Listens setting given talk first now → 0 < length octets
    → IsOutOfMemory setting (given ++ octets) first now
no_room setting given octets talk first now h some =
    is_out_of_memory setting (given ++ octets) first now (record { stood = h.heard.stood; sound = h.heard.sound; alone = λ _. h.all.left })
    (short_on (started setting first.office.register) given talk.stream.rest octets talk.seen first now some h.heard.come)

-- Between two pieces others used the office.
module _ (setting : Setting) (given : List ℕ) (talk : Dialogue) (first now : Scene) (view : View) (same : ShowsSame now.office view) where
  took_kept : (octets : List ℕ) → Took first now octets → Took first (record now { office = view }) octets
  took_kept octets t = record { contents = t.contents; taken = t.taken }

  pub heard_kept : HasHeard setting given talk first now → HasHeard setting given talk first (record now { office = view })
  heard_kept h = record {
    sound = h.sound;
    stood = h.stood;
    come = record {
      at = h.come.at;
      went = record {
        leads = h.come.went.leads;
        between = h.come.went.between;
        outputs = h.come.went.outputs;
        took = took_kept h.come.went.between h.come.went.took;
        stands = λ s. same.stands (h.come.went.stands s);
        faults = same.told ∙ h.come.went.faults;
        told = h.come.went.told;
      };
      now = record {
        setting = h.come.now.setting;
        stands = h.come.now.stands;
        recalls = h.come.now.recalls;
        register = same.register ∙ h.come.now.register;
        suits = h.come.now.suits;
      };
    };
    limit = h.limit;
    told = h.told;
  }

  pub listens_kept : Listens setting given talk first now → Listens setting given talk first (record now { office = view })
  listens_kept h = record {
    heard = heard_kept h.heard;
    all = record {
      out = took_kept _ h.all.out;
      register = same.register ∙ h.all.register;
      replay = h.all.replay ∙ ap Ok (sym same.register);
      stands = same.stands h.all.stands;
      left = subst (λ (r : Register). Only r view) (sym same.register) same.left;
      faults = same.told ∙ h.all.faults;
      told = h.all.told;
    };
    live = h.live;
  }

  pub sends_kept : SendsOn setting given talk first now → SendsOn setting given talk first (record now { office = view })
  sends_kept h = record {
    heard = heard_kept h.heard;
    between = record {
      outs = h.between.outs;
      later = h.between.later;
      outputs = h.between.outputs;
      out = took_kept _ h.between.out;
      made = h.between.made;
      kept = h.between.kept;
      few = h.between.few;
      stopped = h.between.stopped;
      register = h.between.register ∙ ap Ok (sym same.register);
      stands = same.stands h.between.stands;
      left = subst (λ (r : Register). Only r view) (sym same.register) same.left;
      faults = same.told ∙ h.between.faults;
      told = h.between.told;
    };
  }

-- a look-up that returned no error, and then others
pub looked : {T : Type 0} (Tells : Register → T → Type 0) (old new : View) (result : Result T OfficeFault) → LooksUp Tells old new result → is_ok result ≡ true
    → new.clean → old.stands → ShowsSame old new
looked Tells old new (Ok x) looks ok clean stood =
    let stands = looks.stays clean stood in
    record { register = looks.register clean stood (new.opens stands); stands = λ _. stands; told = looks.counts; left = looks.left clean stood }
looked Tells old new (Err fault) looks ok clean stood = absurd (false≢true ok)

pub same_on : (old mid new : View) → ShowsSame old mid → ShowsSame mid new → ShowsSame old new
same_on old mid new p q = record {
  register = q.register ∙ p.register;
  stands = λ s. q.stands (p.stands s);
  told = q.told ∙ p.told;
  left = subst (λ (r : Register). Only r new) p.register q.left;
}
