-- What was heard and asked determines what a life does.
use Rattle.std.proofs.Common.{◌≡◌, ◌∙◌, ◌++◌, ◌+◌, ◌≤◌, ◌⊎◌, ℕ, inl, inr, ap, sym, subst, refl, arith, List, [], ◌∷◌, length, take, drop, Ok, append_assoc, length-append}
use Rattle.std.proofs.lemmas.List.{append-nil, take-append-drop, take-append-le, take_all}
use Rattle.oftp_partners.specs.Book.{BookData}
use Rattle.oftp_vfile.specs.Laws.{OneFile}
use Rattle.oftp_register.specs.declared.change.Change.{Change}
use Rattle.oftp_register.specs.Changes.{apply_all}
use Rattle.oftp_register.specs.Offices.{View}
use Rattle.oftp_register.specs.Register.{Register}
use Rattle.oftp_session.specs.Settings.{Setting}
use Rattle.oftp_engine.specs.declared.operating.Operator.{Operator}
use Rattle.oftp_engine.specs.declared.operating.Operator.TheVariants as operator
use Rattle.oftp_engine.specs.Jobs.{LeavesSome, Stop}
use Rattle.oftp_engine.specs.Operating.{Deed, IsDeed, submitted}
use Rattle.oftp_engine.specs.Runs.{Course, Output, answered, octets_of, with_change}
use Rattle.oftp_engine.specs.Served.{whole}
use Rattle.oftp_engine.specs.Serving.{last_frame}
use Rattle.oftp_life.specs.Acts.{Act, Conversed, Ordered}
use Rattle.oftp_life.specs.Lives.{LifeLeaves}
use Rattle.oftp_life.specs.Reaches.{ActMakes, ActStops, Covers, IsCut, Reaches}
use Rattle.oftp_replay.specs.Replays.{AreAlike, AreEven, AreEvenBefore, AreSame, HasRun, HaveRun, IsEven, IsSame, RecordsDetermine, RecordsKeep, ReplayKeeps, outputs_in, said_in}
use Rattle.oftp_replay.proofs.Cuts.{answered_front, first_said, same_beginning, session_begins}

-- an operator's call does one thing
one_deed : OneFile → (book : BookData) (r : Register) (call : Operator) (deed deed' : Deed) → IsDeed book r call deed → IsDeed book r call deed' → deed ≡ deed'
one_deed one book r (operator.Submit s) deed deed' (inl (rows, file, is)) (inl (rows', file', is')) =
    is ∙ (ap (submitted book r s) (one s.format s.longest s.content.now rows rows' file.fields.longest file.content file'.content) ∙ sym is')
one_deed one book r (operator.Submit s) deed deed' (inl (rows, file, is)) (inr (none, is')) = absurd (none rows file)
one_deed one book r (operator.Submit s) deed deed' (inr (none, is)) (inl (rows, file, is')) = absurd (none rows file)
one_deed one book r (operator.Submit s) deed deed' (inr (none, is)) (inr (none', is')) = is ∙ sym is'
one_deed one book r (operator.Release n) deed deed' is is' = is ∙ sym is'
one_deed one book r (operator.Refuse n reason text) deed deed' is is' = is ∙ sym is'

-- the same calls by the same book, from the same register, do the same
same_deed : OneFile → (book book' : BookData) (r r' : Register) (call call' : Operator) (deed deed' : Deed) → book ≡ book' → r ≡ r' → call ≡ call'
    → IsDeed book r call deed → IsDeed book' r' call' deed' → deed ≡ deed'
same_deed one book book' r r' call call' deed deed' b q c is is' = one_deed one book r call deed deed' is
    (subst (λ (z : BookData). IsDeed z r call deed') (sym b)
    (subst (λ (z : Register). IsDeed book' z call deed') (sym q)
    (subst (λ (z : Operator). IsDeed book' r' z deed') (sym c) is')))

-- the same session from the same register
same_whole : (setting setting' : Setting) (heard heard' : List ℕ) (r r' : Register) → setting ≡ setting' → heard ≡ heard' → r ≡ r'
    → whole setting heard r ≡ whole setting' heard' r'
same_whole setting setting' heard heard' r r' s h q = cc

-- two acts do the same from one register
same_act : OneFile → (a b : Act) (r r' : Register) (more more' : List Change) (now now' : Register) → r ≡ r' → IsSame a b
    → ActMakes a r more now → ActMakes b r' more' now' → HasRun a r more → HasRun b r' more' → (a ≡ b) × (more ≡ more') × (now ≡ now')
same_act one (Conversed setting heard said) (Conversed setting' heard' said') r r' more more' now now' q same makes makes' ran ran' =
    let w : whole setting heard r ≡ whole setting' heard' r' = same_whole setting setting' heard heard' r r' same.0 same.1 q in
    let out : said ≡ said' = ran.0 ∙ (ap (λ (c : Course). octets_of c.outputs) w ∙ sym ran'.0) in
    let are : more ≡ more' = ran.1 ∙ (ap (λ (c : Course). c.changes) w ∙ sym ran'.1) in
    let s : setting ≡ setting' = same.0 in
    let h : heard ≡ heard' = same.1 in
    let after : apply_all r more ≡ Ok now = makes.replay in
    let after' : apply_all r' more' ≡ Ok now' = makes'.replay in
    (cc, are, cc)
same_act one (Ordered book call) (Ordered book' call') r r' more more' now now' q same makes makes' ran ran' =
    let b : book ≡ book' = same.0 in
    let c : call ≡ call' = same.1 in
    let deed : makes.deed ≡ makes'.deed = same_deed one book book' r r' call call' makes.deed makes'.deed b q c makes.is makes'.is in
    let are : more ≡ more' = makes.are ∙ (ap (λ (d : Deed). with_change [] d.change) deed ∙ sym makes'.are) in
    let after : apply_all r more ≡ Ok now = makes.replay in
    let after' : apply_all r' more' ≡ Ok now' = makes'.replay in
    (cc, are, cc)
same_act one (Conversed setting heard said) (Ordered book call) r r' more more' now now' q same makes makes' ran ran' = absurd same
same_act one (Ordered book call) (Conversed setting heard said) r r' more more' now now' q same makes makes' ran ran' = absurd same

-- one more act of each, after those that did the same
one_more : (a b : Act) (acts others : List Act) (changes changes' before before' more more' : List Change) (at at' now now' : Register)
    → AreAlike acts others before before' at at' → (a ≡ b) × (more ≡ more') × (now ≡ now') → changes ≡ before ++ more → changes' ≡ before' ++ more'
    → AreAlike (a ∷ acts) (b ∷ others) changes changes' now now'
one_more a b acts others changes changes' before before' more more' at at' now now' was (act, are, same) all all' =
    let earlier : acts ≡ others = was.same_acts in
    let made : before ≡ before' = was.same_changes in
    record { same_acts = cc; same_changes = cc; same_register = same }

-- where an act was cut, two numbers tell what it said and changed
even_act : OneFile → (a b : Act) (r s : Register) (more more' : List Change) (now now' : Register) → r ≡ s → IsSame a b
    → ActMakes a r more now → ActMakes b s more' now' → IsEven a b r s more more' → (a ≡ b) × (more ≡ more') × (now ≡ now')
even_act one a b r s more more' now now' q same makes makes' (inl ran) = same_act one a b r s more more' now now' q same makes makes' ran.0 ran.1
even_act one (Conversed setting heard said) (Conversed setting' heard' said') r s more more' now now' q same makes makes' (inr (out, long)) =
    let w : whole setting heard r ≡ whole setting' heard' s = same_whole setting setting' heard heard' r s same.0 same.1 q in
    let x = session_begins setting heard said r more now makes in
    let y = session_begins setting' heard' said' s more' now' makes' in
    let octets = octets_of (whole setting heard r).outputs in
    let are : more ≡ more' =
    same_beginning (whole setting heard r).changes more more' x.later y.later x.begins (ap (λ (c : Course). c.changes) w ∙ y.begins) long in
    let front : said ≡ said' =
    same_beginning octets said said' (drop x.out octets) (drop y.out octets)
    (sym (take-append-drop x.out octets) ∙ ap (λ (t : List ℕ). t ++ drop x.out octets) (sym x.said_first))
    (sym (take-append-drop y.out octets)
    ∙ ap (λ (t : List ℕ). t ++ drop y.out octets) (ap (λ (c : Course). take y.out (octets_of c.outputs)) w ∙ sym y.said_first)) out in
    let p : setting ≡ setting' = same.0 in
    let h : heard ≡ heard' = same.1 in
    let after : apply_all r more ≡ Ok now = makes.replay in
    let after' : apply_all s more' ≡ Ok now' = makes'.replay in
    (cc, are, cc)
even_act one (Ordered book call) (Ordered book' call') r s more more' now now' q same makes makes' (inr long) =
    same_act one (Ordered book call) (Ordered book' call') r s more more' now now' q same makes makes' tt tt
even_act one (Conversed setting heard said) (Ordered book call) r s more more' now now' q same makes makes' even = absurd same
even_act one (Ordered book call) (Conversed setting heard said) r s more more' now now' q same makes makes' even = absurd same

even_acts : OneFile → (first : Register) (acts others : List Act) (changes changes' : List Change) (now now' : Register)
    → (h : Reaches first acts changes now) → (k : Reaches first others changes' now') → AreSame acts others
    → AreEven first acts others changes changes' now now' h k → AreAlike acts others changes changes' now now'
even_acts one first [] [] changes changes' now now' h k same even =
    record { same_acts = refl; same_changes = h.0 ∙ sym k.0; same_register = h.1 ∙ sym k.1 }
even_acts one first [] (b ∷ others) changes changes' now now' h k same even = absurd same
even_acts one first (a ∷ acts) [] changes changes' now now' h k same even = absurd same
even_acts one first (a ∷ acts) (b ∷ others) changes changes' now now' h k same even =
    let was = even_acts one first acts others h.before k.before h.at k.at h.reached k.reached same.0 even.0 in
    one_more a b acts others changes changes' h.before k.before h.more k.more h.at k.at now now' was
    (even_act one a b h.at k.at h.more k.more now now' was.same_register same.1 h.makes k.makes even.1) h.all k.all

-- acts that nothing cut short
run_even : (first : Register) (acts others : List Act) (changes changes' : List Change) (now now' : Register)
    → (h : Reaches first acts changes now) → (k : Reaches first others changes' now') → AreSame acts others
    → HaveRun first acts changes now h → HaveRun first others changes' now' k → AreEven first acts others changes changes' now now' h k
run_even first [] others changes changes' now now' h k same ran ran' = tt
run_even first (a ∷ acts) [] changes changes' now now' h k same ran ran' = tt
run_even first (a ∷ acts) (b ∷ others) changes changes' now now' h k same ran ran' =
    (run_even first acts others h.before k.before h.at k.at h.reached k.reached same.0 ran.0 ran'.0, inl (ran.1, ran'.1))

pub records_determine : OneFile → RecordsDetermine
records_determine one first acts others changes changes' now now' h k same ran ran' =
    even_acts one first acts others changes changes' now now' h k same (run_even first acts others changes changes' now now' h k same ran ran')

-- the last act

-- what holds after some of these changes holds after as many of more changes
leaves_more : (changes later : List Change) (least made : ℕ) (r : Register) (v : View) → LeavesSome changes least made r v → LeavesSome (changes ++ later) least made r v
leaves_more changes later least made r v h = record {
  kept = h.kept;
  few = omega (arith, h.few, length-append changes later);
  register = λ is_open. ap (apply_all r) (take-append-le made changes later h.few) ∙ h.register is_open;
  left = λ content may.
      let p = h.left content may in
      record {
        count = p.count;
        least = p.least;
        most = omega (arith, p.most, length-append changes later);
        near = p.near;
        register = p.register;
        replay = ap (apply_all r) (take-append-le p.count changes later p.most) ∙ p.replay;
        holds = p.holds;
      };
}

-- what the last act has said and made, and its replay
record IsLast (last again : Act) (s : Register) (made remade : List Change) (answered' closing : ℕ) : Type 0 where
  out : ℕ
  said : said_in last ≡ take out (said_in again) ++ take closing last_frame
  later : List Change
  begins : remade ≡ made ++ later
  answers : answered (outputs_in again s) out ≤ answered'

last_makes : OneFile → (last again : Act) (r s : Register) (made remade : List Change) (now now' : Register) → r ≡ s → IsSame last again
    → ActMakes last r made now → ActMakes again s remade now' → HasRun again s remade → IsLast last again s made remade (length made) 0
last_makes one (Conversed setting heard said) (Conversed setting' heard' said') r s made remade now now' q same makes makes' ran =
    let w : whole setting heard r ≡ whole setting' heard' s = same_whole setting setting' heard heard' r s same.0 same.1 q in
    let x = session_begins setting heard said r made now makes in
    record {
      out = x.out;
      said = x.said_first ∙ ap (take x.out) (ap (λ (c : Course). octets_of c.outputs) w ∙ sym ran.0) ∙ sym (append-nil (take x.out said'));
      later = x.later;
      begins = ran.1 ∙ sym (ap (λ (c : Course). c.changes) w) ∙ x.begins;
      answers = subst (λ (c : Course). answered c.outputs x.out ≤ length made) w x.answers;
    }
last_makes one (Ordered book call) (Ordered book' call') r s made remade now now' q same makes makes' ran =
    let done = same_act one (Ordered book call) (Ordered book' call') r s made remade now now' q same makes makes' tt tt in
    record { out = 0; said = refl; later = []; begins = sym done.1 ∙ sym (append-nil made); answers = omega arith }
last_makes one (Conversed setting heard said) (Ordered book call) r s made remade now now' q same makes makes' ran = absurd same
last_makes one (Ordered book call) (Conversed setting heard said) r s made remade now now' q same makes makes' ran = absurd same

closing_said : (last : Act) (r : Register) (stop : Stop) → ActStops last r stop → ℕ
closing_said (Conversed setting heard said) r stop h = h.closing
closing_said (Ordered book call) r stop h = 0

last_stops : OneFile → (last again : Act) (r s : Register) (stop : Stop) (remade : List Change) (now' : Register) → r ≡ s → IsSame last again
    → (h : ActStops last r stop) → ActMakes again s remade now' → HasRun again s remade
    → IsLast last again s stop.changes remade stop.answered (closing_said last r stop h)
unfolding closing_said
last_stops one (Conversed setting heard said) (Conversed setting' heard' said') r s stop remade now' q same h makes' ran =
    let w : whole setting heard r ≡ whole setting' heard' s = same_whole setting setting' heard heard' r s same.0 same.1 q in
    let outputs : (whole setting' heard' s).outputs ≡ h.outs ++ h.later = sym (ap (λ (c : Course). c.outputs) w) ∙ h.outputs in
    let n = length (octets_of h.outs) in
    let few = answered_front h.outs h.later n (omega arith) in
    let same_count : answered (whole setting' heard' s).outputs n ≡ answered (h.outs ++ h.later) n = ap (λ (x : List Output). answered x n) outputs in
    let front : octets_of h.outs ≡ take n said' =
    sym (take_all n (octets_of h.outs) (omega arith)) ∙ first_said h.outs h.later n (omega arith)
    ∙ ap (take n) (sym (ap octets_of outputs) ∙ sym ran.0) in
    record {
      out = n;
      said = h.out ∙ ap (λ (x : List ℕ). x ++ take h.closing last_frame) front;
      later = [];
      begins = ran.1 ∙ sym (ap (λ (c : Course). c.changes) w) ∙ sym h.changes ∙ sym (append-nil stop.changes);
      answers = omega (arith, few, same_count, h.least);
    }
last_stops one (Ordered book call) (Ordered book' call') r s stop remade now' q same h makes' ran =
    let deed : h.deed ≡ makes'.deed = same_deed one book book' r s call call' h.deed makes'.deed same.0 q same.1 h.is makes'.is in
    record {
      out = 0;
      said = refl;
      later = [];
      begins = makes'.are ∙ sym (ap (λ (d : Deed). with_change [] d.change) deed) ∙ sym h.changes ∙ sym (append-nil stop.changes);
      answers = omega arith;
    }
last_stops one (Conversed setting heard said) (Ordered book call) r s stop remade now' q same h makes' ran = absurd same
last_stops one (Ordered book call) (Conversed setting heard said) r s stop remade now' q same h makes' ran = absurd same

-- the changes of the replay, behind those of the station
begins_behind : (changes changes' before before' made remade later : List Change) → before ≡ before' → changes ≡ before ++ made → changes' ≡ before' ++ remade
    → remade ≡ made ++ later → changes' ≡ changes ++ later
begins_behind changes changes' before before' made remade later p q q' e =
    q' ∙ ap (λ (x : List Change). x ++ remade) (sym p) ∙ ap (λ (x : List Change). before ++ x) e ∙ sym (append_assoc before made later)
    ∙ ap (λ (x : List Change). x ++ later) (sym q)

module _ (one : OneFile) (station : View) (first : Register) (last again : Act) (acts others : List Act) (changes : List Change) (now : Register)
    (life : LifeLeaves first (last ∷ acts) station) (k : Reaches first (again ∷ others) changes now) (same : AreSame (last ∷ acts) (again ∷ others))
    (ran : HasRun again k.at k.more) where
  -- from what was done before the last act, and by it
  replay_keeps : (before made : List Change) (at : Register) (count closing : ℕ) → AreAlike acts others before k.before at k.at → life.changes ≡ before ++ made
      → life.least ≡ length before + count → IsLast last again k.at made k.more count closing
      → (closing ≡ 0) ⊎ IsCut first (last ∷ acts) life.changes life.least → ReplayKeeps first last again acts others k.before changes k.at station life
  replay_keeps before made at count closing was all least h ended =
      let begins : changes ≡ life.changes ++ h.later =
      begins_behind life.changes changes before k.before made k.more h.later was.same_changes all k.all h.begins in
      let long : length before ≡ length k.before = ap (λ (x : List Change). length x) was.same_changes in
      let few = h.answers in
      record {
        same = was.same_acts;
        out = h.out;
        closing = closing;
        said = h.said;
        ended = ended;
        later = h.later;
        begins = begins;
        answers = omega (arith, long, few, least);
        left = subst (λ (x : List Change). LeavesSome x life.least life.made first station) (sym begins)
            (leaves_more life.changes h.later life.least life.made first station life.leaves);
      }

  by_covers : (covers : Covers first (last ∷ acts) life.changes life.least)
      → AreEvenBefore first last again acts others life.changes changes life.least now covers k → ReplayKeeps first last again acts others k.before changes k.at station life
  by_covers (inl (now', reached, least)) even =
      let was = even_acts one first acts others reached.before k.before reached.at k.at reached.reached k.reached same.0 even in
      replay_keeps reached.before reached.more reached.at (length reached.more) 0 was reached.all
      (least ∙ ap (λ (x : List Change). length x) reached.all ∙ length-append reached.before reached.more)
      (last_makes one last again reached.at k.at reached.more k.more now' now was.same_register same.1 reached.makes k.makes ran) (inl refl)
  by_covers (inr cut) even =
      let are : last ∷ acts ≡ cut.last ∷ cut.earlier = cut.are in
      let p : last ≡ cut.last = cc in
      let q : acts ≡ cut.earlier = cc in
      let alike : AreSame cut.earlier others = subst (λ (x : List Act). AreSame x others) q same.0 in
      let was' = even_acts one first cut.earlier others cut.before k.before cut.at k.at cut.reached k.reached alike even in
      let was : AreAlike acts others cut.before k.before cut.at k.at =
      subst (λ (x : List Act). AreAlike x others cut.before k.before cut.at k.at) (sym q) was' in
      let stops : ActStops last cut.at cut.stop = subst (λ (x : Act). ActStops x cut.at cut.stop) (sym p) cut.stops in
      replay_keeps cut.before cut.stop.changes cut.at cut.stop.answered (closing_said last cut.at cut.stop stops) was cut.all cut.count
      (last_stops one last again cut.at k.at cut.stop k.more now was.same_register same.1 stops k.makes ran) (inr cut)

pub records_keep : OneFile → (station : View) → RecordsKeep station
records_keep one station first last again acts others changes now life k same even ran =
    by_covers one station first last again acts others changes now life k same ran life.covers even
