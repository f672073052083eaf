-- A file that comes in parts, over all acts of a life.
use Rattle.std.proofs.Common.{◌≡◌, ◌∙◌, ◌⊎◌, inl, inr, ap, sym, subst, refl, arith, ℕ, zero, suc, ◌+◌, ◌-◌, ◌≤◌, List, [], ◌∷◌, ◌++◌, length, take, drop, Option, None, Some, Ok, length-append}
use Rattle.std.proofs.Math.Seq.{take-nil}
use Rattle.std.proofs.lemmas.Bool.{cases_lt}
use Rattle.std.proofs.lemmas.List.{take_all, take-append-drop, take-append-le}
use Rattle.oftp_partners.specs.Book.{BookData}
use Rattle.oftp_register.specs.declared.change.Change.{Change}
use Rattle.oftp_register.specs.declared.entry.Identity.{Identity}
use Rattle.oftp_register.specs.ByIdentity.{in_at}
use Rattle.oftp_register.specs.Changes.{apply_all}
use Rattle.oftp_register.specs.Offices.{View}
use Rattle.oftp_register.specs.Register.{Register}
use Rattle.oftp_register.specs.Soundness.{IsSound}
use Rattle.oftp_session.specs.Calls.{Makes}
use Rattle.oftp_session.specs.Settings.{Setting}
use Rattle.oftp_engine.specs.Jobs.{Stop}
use Rattle.oftp_engine.specs.Operating.{Deed, IsDeed}
use Rattle.oftp_engine.specs.Parts.{BringsParts, File, IsSoFar, JobLeaves, OfCall, OfSession}
use Rattle.oftp_engine.specs.Runs.{with_change}
use Rattle.oftp_engine.specs.Served.{whole}
use Rattle.oftp_engine.specs.declared.operating.Operator.{Operator}
use Rattle.oftp_engine.proofs.Ending.{take_past}
use Rattle.oftp_engine.proofs.PartRuns.{IsSoIn, job_leaves}
use Rattle.oftp_life.specs.Acts.{Act, Conversed, Ordered}
use Rattle.oftp_life.specs.Lives.{LifeLeaves}
use Rattle.oftp_life.specs.LifeParts.{BringAll, BringSo, MayAct, session_over}
use Rattle.oftp_life.specs.Reaches.{ActMakes, ActStops, Covers, IsCut, IsShort, Reaches}
use Rattle.oftp_life.proofs.Lives.{act_replays, book_in, reaches_replays, replay_behind}

-- the register after the one change of a call, or before it
pub none_or_one : (change : Option Change) (r s : Register) (n : ℕ) → apply_all r (take n (with_change [] change)) ≡ Ok s → (s ≡ r) ⊎ Makes change r s
none_or_one None r s n h =
    let same : Ok r ≡ Ok s = sym (ap (apply_all r) (take-nil n)) ∙ h in
    let is : s ≡ r = cc in inl is
none_or_one (Some k) r s zero h = let is : s ≡ r = cc in inl is
none_or_one (Some k) r s (suc n) h = inr (sym (ap (λ (ks : List Change). apply_all r (k ∷ ks)) (take-nil n)) ∙ h)

-- the changes after the first of these
past_of : (book : BookData) (first at q : Register) (before more : List Change) (n : ℕ) → apply_all first before ≡ Ok at → length before ≤ n
    → apply_all first (take n (before ++ more)) ≡ Ok q → apply_all at (take (n - length before) more) ≡ Ok q
past_of book first at q before more n replay le made =
    let m = n - length before in
    let is : length before + m ≡ n = omega (arith, le) in
    let split : take n (before ++ more) ≡ before ++ take m more = ap (λ (k : ℕ). take k (before ++ more)) (sym is) ∙ take_past before more m in
    sym (replay_behind book first at before (take m more) replay) ∙ sym (ap (apply_all first) split) ∙ made

module _ (file : File) (identity : Identity) where
  abbrev So : Register → Type 0
  So = IsSoIn file identity

  -- a session that stopped after some changes of its run
  run_left : (setting : Setting) (given : List ℕ) (stop : Option ℕ) (r q : Register) (changes : List Change) (m : ℕ)
      → changes ≡ (Rattle.oftp_engine.specs.Parts.course_of (session_over setting given stop) r).changes → BringsParts file identity (session_over setting given stop) r
      → m ≤ length changes → apply_all r (take m changes) ≡ Ok q → So r → So q
  run_left setting given stop r q changes m is may le made so = job_leaves file identity (OfSession (session_over setting given stop)) r q so may (record {
    count = m;
    most = subst (λ (ks : List Change). m ≤ length ks) is le;
    replay = subst (λ (ks : List Change). apply_all r (take m ks) ≡ Ok q) is made;
  })

  -- the same where there was no memory for the next step
  short_left : (setting : Setting) (given said : List ℕ) (r q : Register) (changes : List Change) (m : ℕ) → IsShort setting given said r changes
      → BringsParts file identity (session_over setting given None) r → m ≤ length changes → apply_all r (take m changes) ≡ Ok q → So r → So q
  short_left setting given said r q changes m h may le made so =
      let cs = (whole setting given r).changes in
      let rest = drop h.made cs in
      let all : cs ≡ changes ++ rest = sym (take-append-drop h.made cs) ∙ ap (λ (ks : List Change). ks ++ rest) (sym h.are) in
      let long : length cs ≡ length changes + length rest = ap (λ (ks : List Change). length ks) all ∙ length-append changes rest in
      run_left setting given None r q cs m refl may (omega (arith, le, long))
      (ap (apply_all r) (ap (take m) all ∙ take-append-le m changes rest le) ∙ made) so

  deed_left : (book : BookData) (call : Operator) (deed : Deed) (r q : Register) (changes : List Change) (m : ℕ) → IsDeed book r call deed → changes ≡ with_change [] deed.change
      → apply_all r (take m changes) ≡ Ok q → So r → So q
  deed_left book call deed r q changes m is are made so =
      let left = none_or_one deed.change r q m (subst (λ (ks : List Change). apply_all r (take m ks) ≡ Ok q) are made) in
      let leaves : JobLeaves (OfCall book call) r q = elim left [ inl same ↦ inl same | inr done ↦ inr (deed, is, done) ] in
      job_leaves file identity (OfCall book call) r q so tt leaves

  -- an act that stopped after some of its changes
  act_left : (act : Act) (r q after : Register) (changes : List Change) (m : ℕ) → ActMakes act r changes after → MayAct file identity act r → m ≤ length changes
      → apply_all r (take m changes) ≡ Ok q → So r → So q
  act_left (Conversed setting heard said) r q after changes m h may le made so =
      elim h.how [
        | inl ran ↦ run_left setting heard ran.stop r q changes m ran.are (may ran.stop) le made so
        | inr short ↦ short_left setting heard said r q changes m short (may None) le made so
      ]
  act_left (Ordered book call) r q after changes m h may le made so = deed_left book call h.deed r q changes m h.is h.are made so

  stop_left : (act : Act) (r q : Register) (stop : Stop) (m : ℕ) → ActStops act r stop → MayAct file identity act r → m ≤ length stop.changes
      → apply_all r (take m stop.changes) ≡ Ok q → So r → So q
  stop_left (Conversed setting heard said) r q stop m h may le made so = run_left setting heard None r q stop.changes m h.changes (may None) le made so
  stop_left (Ordered book call) r q stop m h may le made so = deed_left book call h.deed r q stop.changes m h.is h.changes made so

  -- all acts are done
  so_now : (first : Register) (acts : List Act) (changes : List Change) (now : Register) (h : Reaches first acts changes now) → BringSo file identity first acts changes now h → So first → So now
  so_now first [] changes now h brings so = subst So (sym h.1) so
  so_now first (act ∷ acts) changes now h brings so =
      act_left act h.at now now h.more (length h.more) h.makes brings.1 (omega arith)
      (ap (apply_all h.at) (take_all (length h.more) h.more (omega arith)) ∙ act_replays act h.at h.more now h.makes) (so_now first acts h.before h.at h.reached brings.0 so)

  -- some first changes of them are made
  so_first : (first : Register) (acts : List Act) (changes : List Change) (now : Register) (h : Reaches first acts changes now) → BringSo file identity first acts changes now h
      → (n : ℕ) (q : Register) → n ≤ length changes → apply_all first (take n changes) ≡ Ok q → So first → So q
  so_first first [] changes now h brings n q le made so =
      let none : Ok first ≡ Ok q = sym (ap (λ (ks : List Change). apply_all first (take n ks)) h.0 ∙ ap (apply_all first) (take-nil n)) ∙ made in
      let is : first ≡ q = cc in subst So is so
  so_first first (act ∷ acts) changes now h brings n q le made so =
      let made' = subst (λ (ks : List Change). apply_all first (take n ks) ≡ Ok q) h.all made in
      let long : length changes ≡ length h.before + length h.more = ap (λ (ks : List Change). length ks) h.all ∙ length-append h.before h.more in
      elim (cases_lt n (length h.before)) [
        | inl lt ↦
            let le' : n ≤ length h.before = omega (arith, lt) in
            so_first first acts h.before h.at h.reached brings.0 n q le' (sym (ap (apply_all first) (take-append-le n h.before h.more le')) ∙ made') so
        | inr ge ↦
            act_left act h.at q now h.more (n - length h.before) h.makes brings.1 (omega (arith, le, long, ge))
            (past_of (book_in act) first h.at q h.before h.more n (reaches_replays first acts h.before h.at h.reached) ge made') (so_now first acts h.before h.at h.reached brings.0 so)
      ]

  so_cut : (first : Register) (acts : List Act) (changes : List Change) (least n : ℕ) (cut : IsCut first acts changes least) → BringSo file identity first cut.earlier cut.before cut.at cut.reached
      → MayAct file identity cut.last cut.at → least ≤ n → n ≤ length changes → (q : Register) → apply_all first (take n changes) ≡ Ok q → So first → So q
  so_cut first acts changes least n cut brings may low le q made so =
      let made' = subst (λ (ks : List Change). apply_all first (take n ks) ≡ Ok q) cut.all made in
      let long : length changes ≡ length cut.before + length cut.stop.changes = ap (λ (ks : List Change). length ks) cut.all ∙ length-append cut.before cut.stop.changes in
      let ge : length cut.before ≤ n = let e = cut.count in omega (arith, low, e) in
      stop_left cut.last cut.at q cut.stop (n - length cut.before) cut.stops may (omega (arith, le, long, ge))
      (past_of (book_in cut.last) first cut.at q cut.before cut.stop.changes n (reaches_replays first cut.earlier cut.before cut.at cut.reached) ge made')
      (so_now first cut.earlier cut.before cut.at cut.reached brings so)

  pub life_makes_the_file : (first : Register) (acts : List Act) (now : View) (h : LifeLeaves first acts now) → IsSound first → IsSoFar file (in_at first identity)
      → BringAll file identity first acts h.changes h.least h.covers → (content : now.Content) → now.may_leave content → (r : Register) × now.holds content r × IsSoFar file (in_at r identity)
  life_makes_the_file first acts now h sound so brings content may =
      let p = h.leaves.left content may in
      let from : So first = record { sound = sound; so_far = so } in
      (p.register, p.holds, (by h.covers brings p.count p.least p.most p.register p.replay from).so_far)
    where
      by : (covers : Covers first acts h.changes h.least) → BringAll file identity first acts h.changes h.least covers → (n : ℕ) → h.least ≤ n → n ≤ length h.changes → (q : Register)
          → apply_all first (take n h.changes) ≡ Ok q → So first → So q
      by (inl all) brings n low le q made so = so_first first acts h.changes all.0 all.1 brings n q le made so
      by (inr cut) brings n low le q made so = so_cut first acts h.changes h.least n cut brings.0 brings.1 low le q made so
