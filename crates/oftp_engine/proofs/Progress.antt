-- How far the engine is, one part after another.
use Rattle.oftp_wire.specs.declared.reason.SessionReason.TheVariants.{ProtocolViolation}
use Rattle.std.proofs.Common.{◌≡◌, ℕ, ◌-◌, ◌<◌, ◌≤◌, true, false, List, [], ◌∷◌, ◌++◌, length, take, drop, Option, None, Some, refl, sym, ap, ◌∙◌, subst, arith, append_assoc, length-append, length-drop, inl, inr}
use Rattle.std.proofs.lemmas.List.{append-nil, take-append-le, drop-append-le}
use Rattle.oftp_wire.specs.declared.command.Command.{Command}
use Rattle.oftp_codec.specs.Stream.{front, command_in, IsWithin}
use Rattle.oftp_codec.specs.Stream.{Head, Whole, Bad}
use Rattle.oftp_codec.specs.declared.frame_fault.FrameFault.{FrameFault}
use Rattle.oftp_codec.proofs.Streams.{front_within, front_more, IsTold}
use Rattle.oftp_register.specs.Offices.{next_count}
use Rattle.oftp_session.specs.Phases.{is_over, Phase, Step, fails, framed, frame_of}
use Rattle.oftp_session.specs.Steps.{has_turn, turned, Suits}
use Rattle.oftp_session.specs.Calls.{Proceeds, Seen}
use Rattle.oftp_session.proofs.Proceeding.{turned_proceeds}
use Rattle.oftp_codec.specs.declared.limits.TheConstants.{LONGEST_FRAME}
use Rattle.oftp_engine.specs.declared.serving.RunFault.{RunFault}
use Rattle.oftp_engine.specs.declared.serving.RunFault.TheVariants as fault
use Rattle.oftp_engine.specs.Runs.{Course, Output, advance, run, is_stopped, octets_of, with_output, with_change, turned_in, came_in}
use Rattle.oftp_engine.specs.Serving.{IsSaid, MayRunOut, Scene, Took}
use Rattle.oftp_engine.specs.Progress.{Leads, Went}
use Rattle.oftp_engine.specs.InsideServing.{Reaches, Fails, Made, StepFails}
use Rattle.oftp_io.proofs.Bytes.{appends_none, appends_on, count_on}
use Rattle.oftp_engine.proofs.Courses.{grows_none, grows_on, grows_step, octets-append, stopped_before, run_turn, run_frame, run_bad, run_over}

-- what the writer took

pub took_none : (s : Scene) → Took s s []
took_none s = record { contents = appends_none s.contents; taken = omega arith }

pub took_on : (a b c : Scene) (xs ys : List ℕ) → Took a b xs → Took b c ys → Took a c (xs ++ ys)
took_on a b c xs ys p q = record {
  contents = appends_on a.contents b.contents c.contents xs ys p.contents q.contents;
  taken = count_on a.taken b.taken c.taken (length xs) (length ys) (length (xs ++ ys)) p.taken q.taken (length-append xs ys);
}

output_octets : (outputs : List Output) (o : Option Command) (n : ℕ) → octets_of (with_output outputs o n) ≡ octets_of outputs ++ framed o
output_octets outputs None n = sym (append-nil (octets_of outputs))
output_octets outputs (Some command) n =
    octets-append outputs (record { octets = frame_of command; after = n } ∷ []) ∙ ap (λ (z : List ℕ). octets_of outputs ++ z) (append-nil (frame_of command))

pub octets_step : (c : Course) (s : Step) → octets_of (advance c s).outputs ≡ octets_of c.outputs ++ framed s.output
unfolding advance
octets_step c s = output_octets c.outputs s.output (length (with_change c.changes s.change))

-- in a run

pub leads_none : (c : Course) (s : List ℕ) → Leads c s c s
leads_none c s = record { grows = grows_none c; same = λ more limit h. refl; gone = []; split = refl }

pub leads_on : (c d e : Course) (s t u : List ℕ) → Leads c s d t → Leads d t e u → Leads c s e u
leads_on c d e s t u p q = record {
  grows = grows_on c d e p.grows q.grows;
  same = λ more limit h. p.same more limit (stopped_before limit d e q.grows h) ∙ q.same more limit h;
  gone = p.gone ++ q.gone;
  split = p.split ∙ ap (λ (x : List ℕ). p.gone ++ x) q.split ∙ sym (append_assoc p.gone q.gone u);
}

pub reaches_later : (c d e e' : Course) (s t : List ℕ) → Leads c s d t → Reaches d t e e' → Reaches c s e e'
reaches_later c d e e' s t p q = record {
  grows = grows_on c d e p.grows q.grows;
  same = λ more limit h.
      let r = q.same more limit h in
      (r.0, p.same more limit (stopped_before limit d e q.grows h) ∙ r.1);
}

pub reaches_itself : (c : Course) (s : List ℕ) → Reaches c s c c
reaches_itself c s = record { grows = grows_none c; same = λ more limit h. (s ++ more, refl) }

-- what led to a step leads past it
pub leads_step : (c : Course) (step : Step) (s t gone : List ℕ) → s ≡ gone ++ t
    → (Suits c.phase c.register → Proceeds c.register step)
    → ((more : List ℕ) (limit : Option ℕ) → is_stopped limit c ≡ false → run limit (s ++ more) c ≡ run limit (t ++ more) (advance c step))
    → Leads c s (advance c step) t
leads_step c step s t gone split proceeds h =
    let grows = grows_step c step proceeds in
    record { grows = grows; same = λ more limit stopped. h more limit (stopped_before limit c (advance c step) grows stopped); gone = gone; split = split }

pub reaches_step : (c : Course) (step : Step) (s t : List ℕ)
    → ((more : List ℕ) (limit : Option ℕ) → is_stopped limit c ≡ false → run limit (s ++ more) c ≡ run limit (t ++ more) (advance c step))
    → Reaches c s c (advance c step)
reaches_step c step s t h = record { grows = grows_none c; same = λ more limit stopped. (t ++ more, h more limit stopped) }

-- the engine's parts

pub went_none : (c : Course) (s : List ℕ) (old : Scene) → Went c s c s old old
went_none c s old = record {
  leads = leads_none c s;
  between = [];
  outputs = sym (append-nil (octets_of c.outputs));
  took = took_none old;
  stands = λ h. h;
  faults = refl;
  told = refl;
}

pub went_on : (c d e : Course) (s t u : List ℕ) (a b z : Scene) → Went c s d t a b → Went d t e u b z → Went c s e u a z
went_on c d e s t u a b z p q = record {
  leads = leads_on c d e s t u p.leads q.leads;
  between = p.between ++ q.between;
  outputs = q.outputs ∙ ap (λ (x : List ℕ). x ++ q.between) p.outputs ∙ append_assoc (octets_of c.outputs) p.between q.between;
  took = took_on a b z p.between q.between p.took q.took;
  stands = λ h. q.stands (p.stands h);
  faults = q.faults ∙ p.faults;
  told = q.told ∙ p.told;
}

pub went_step : (c : Course) (step : Step) (s t : List ℕ) (seen : Seen) (a b : Scene) → Leads c s (advance c step) t → Made c step seen a b → Went c s (advance c step) t a b
went_step c step s t seen a b leads made = record {
  leads = leads;
  between = framed step.output;
  outputs = octets_step c step;
  took = made.took;
  stands = made.stands;
  faults = made.faults;
  told = made.told;
}

pub fails_step : (c : Course) (step : Step) (s : List ℕ) (a b : Scene) (f : RunFault) → Proceeds c.register step → Reaches c s c (advance c step)
    → (f ≡ fault.Memory → MayRunOut c.phase s) → StepFails c step a b f → Fails c s a b f
fails_step c step s a b fault.Read proceeds r cause h = absurd h
fails_step c step s a b fault.Write proceeds r cause h = record {
  at = c;
  step = step;
  count = h.count;
  reaches = r;
  short = h.short;
  between = [];
  outputs = sym (append-nil (octets_of c.outputs));
  took = h.took;
  register = h.register;
  stands = h.stands;
  faults = h.faults;
  told = h.told;
}
fails_step c step s a b fault.Office proceeds r cause h = record {
  at = c;
  step = step;
  count = h.count;
  reaches = r;
  between = [];
  outputs = sym (append-nil (octets_of c.outputs));
  took = h.took;
  said = h.said;
  proceeds = proceeds;
  cases = h.cases;
  faults = h.faults;
}
fails_step c step s a b fault.Memory proceeds r cause h = record {
  at = c;
  rest = s;
  leads = leads_none c s;
  cause = cause refl;
  between = [];
  outputs = sym (append-nil (octets_of c.outputs));
  took = h.took;
  register = h.register;
  stands = h.stands;
  faults = h.faults;
  told = h.told;
}

outputs_later : (c d : Course) (at xs ys : List ℕ) → octets_of d.outputs ≡ octets_of c.outputs ++ xs → at ≡ octets_of d.outputs ++ ys → at ≡ octets_of c.outputs ++ (xs ++ ys)
outputs_later c d at xs ys p q = q ∙ ap (λ (x : List ℕ). x ++ ys) p ∙ append_assoc (octets_of c.outputs) xs ys

took_later : (a b z : Scene) (xs ys zs : List ℕ) → Took a b xs → Took b z (ys ++ zs) → Took a z ((xs ++ ys) ++ zs)
took_later a b z xs ys zs p q = subst (Took a z) (sym (append_assoc xs ys zs)) (took_on a b z xs (ys ++ zs) p q)

said_later : (a b z : Scene) (count : ℕ) → b.told ≡ a.told → IsSaid b z count → IsSaid a z count
said_later a b z count same h = elim h [ inl all ↦ inl (all.0, all.1 ∙ same) | inr part ↦ inr (part.0, part.1 ∙ ap next_count same) ]

-- what leads to d, so that the run reaches what d reaches
record Before (c : Course) (s : List ℕ) (d : Course) (t : List ℕ) (old new : Scene) : Type 0 where
  reaches : (at next : Course) → Reaches d t at next → Reaches c s at next
  leads : (at : Course) (u : List ℕ) → Leads d t at u → (v : List ℕ) × Leads c s at v × (length u ≤ length v)
  between : List ℕ
  outputs : octets_of d.outputs ≡ octets_of c.outputs ++ between
  took : Took old new between
  stands : old.office.stands → new.office.stands
  faults : new.office.told ≡ old.office.told
  told : new.told ≡ old.told

later_cause : (p : Phase) (u v : List ℕ) → length u ≤ length v → MayRunOut p u → MayRunOut p v
later_cause p u v le h = elim h [ inl some ↦ inl (omega (arith, some, le)) | inr sends ↦ inr sends ]

fails_from : (c d : Course) (s t : List ℕ) (a b z : Scene) (f : RunFault) → Before c s d t a b → Fails d t b z f → Fails c s a z f
fails_from c d s t a b z fault.Read w h = absurd h
fails_from c d s t a b z fault.Write w h = record {
  at = h.at;
  step = h.step;
  count = h.count;
  reaches = w.reaches h.at _ h.reaches;
  short = h.short;
  between = w.between ++ h.between;
  outputs = outputs_later c d _ w.between h.between w.outputs h.outputs;
  took = took_later a b z w.between h.between (take h.count (framed h.step.output)) w.took h.took;
  register = h.register;
  stands = λ o. h.stands (w.stands o);
  faults = h.faults ∙ w.faults;
  told = h.told ∙ ap next_count w.told;
}
fails_from c d s t a b z fault.Office w h = record {
  at = h.at;
  step = h.step;
  count = h.count;
  reaches = w.reaches h.at _ h.reaches;
  between = w.between ++ h.between;
  outputs = outputs_later c d _ w.between h.between w.outputs h.outputs;
  took = took_later a b z w.between h.between _ w.took h.took;
  said = said_later a b z h.count w.told h.said;
  proceeds = h.proceeds;
  cases = h.cases;
  faults = h.faults ∙ ap next_count w.faults;
}
fails_from c d s t a b z fault.Memory w h = record {
  at = h.at;
  rest = (w.leads h.at h.rest h.leads).0;
  leads = (w.leads h.at h.rest h.leads).1;
  cause = later_cause h.at.phase h.rest _ (w.leads h.at h.rest h.leads).2 h.cause;
  between = w.between ++ h.between;
  outputs = outputs_later c d _ w.between h.between w.outputs h.outputs;
  took = took_on a b z w.between h.between w.took h.took;
  register = h.register;
  stands = λ o. h.stands (w.stands o);
  faults = h.faults ∙ w.faults;
  told = h.told ∙ w.told;
}

pub fails_later : (c d : Course) (s t : List ℕ) (a b z : Scene) (f : RunFault) → Went c s d t a b → Fails d t b z f → Fails c s a z f
fails_later c d s t a b z f w h = fails_from c d s t a b z f before h
  where
    before : Before c s d t a b
    before = record {
      reaches = λ at next r. reaches_later c d at next s t w.leads r;
      leads = λ at u l. (u, leads_on c d at s t u w.leads l, omega arith);
      between = w.between;
      outputs = w.outputs;
      took = w.took;
      stands = w.stands;
      faults = w.faults;
      told = w.told;
    }

-- a due turn, whatever octets are there

pub leads_turn : (c : Course) (s : List ℕ) → has_turn c.phase ≡ true → Leads c s (turned_in c) s
leads_turn c s h = leads_step c (turned c.setting c.phase c.register) s s [] refl (turned_proceeds c.setting c.phase c.register) (λ more limit stopped. run_turn limit (s ++ more) c h stopped)

pub reaches_turn : (c : Course) (s : List ℕ) → has_turn c.phase ≡ true → Reaches c s c (turned_in c)
reaches_turn c s h = reaches_step c (turned c.setting c.phase c.register) s s (λ more limit stopped. run_turn limit (s ++ more) c h stopped)

-- a whole frame, and octets that don't begin with one

pub command_more : (n : ℕ) (s more : List ℕ) → 5 ≤ n → n ≤ length s → command_in n (s ++ more) ≡ command_in n s
command_more n s more five there =
    ap (λ (x : List ℕ). take (n - 4) x) (drop-append-le 4 s more (omega arith)) ∙ take-append-le (n - 4) (drop 4 s) more (omega (arith, length-drop 4 s))

pub leads_frame : (c : Course) (s : List ℕ) (n : ℕ)
    → has_turn c.phase ≡ false → is_over c.phase ≡ false → front LONGEST_FRAME s ≡ Whole n → (more : List ℕ) (limit : Option ℕ) → is_stopped limit c ≡ false
    → run limit (s ++ more) c ≡ run limit (drop n s ++ more) (came_in c (command_in n s))
leads_frame c s n turn over whole more limit stopped =
    let within : IsWithin (length s) (Whole n) = subst (IsWithin (length s)) whole (front_within LONGEST_FRAME s) in
    let told : IsTold (front LONGEST_FRAME s) = subst IsTold (sym whole) tt in
    run_frame limit (s ++ more) c n turn over stopped (front_more LONGEST_FRAME s more told ∙ whole)
    ∙ ap (λ (x : List ℕ). run limit x (came_in c (command_in n (s ++ more)))) (drop-append-le n s more within.1)
    ∙ ap (λ (x : List ℕ). run limit (drop n s ++ more) (came_in c x)) (command_more n s more within.0 within.1)

over_step : (c : Course) (step : Step) → is_over step.phase ≡ true → is_over (advance c step).phase ≡ true
unfolding advance
over_step c step h = h

-- octets that begin with a frame, or with none that could follow
pub told_some : (s : List ℕ) (h : Head) → front LONGEST_FRAME s ≡ h → IsTold h → 0 < length s
unfolding front
told_some [] h e told = absurd (subst IsTold (sym e) told)
told_some (x ∷ s) h e told = omega arith

pub leads_bad : (c : Course) (s : List ℕ) (f : FrameFault)
    → has_turn c.phase ≡ false → is_over c.phase ≡ false → front LONGEST_FRAME s ≡ Bad f → (more : List ℕ) (limit : Option ℕ) → is_stopped limit c ≡ false
    → run limit (s ++ more) c ≡ run limit (s ++ more) (advance c (fails ProtocolViolation))
leads_bad c s f turn over bad more limit stopped =
    let told : IsTold (front LONGEST_FRAME s) = subst IsTold (sym bad) tt in
    run_bad limit (s ++ more) c f turn over stopped (front_more LONGEST_FRAME s more told ∙ bad)
    ∙ sym (run_over limit (s ++ more) (advance c (fails ProtocolViolation)) (over_step c (fails ProtocolViolation) refl))

-- the turns are made whatever octets are there

pub went_with : (c d : Course) (s : List ℕ) (a b : Scene) → Went c [] d [] a b → Went c s d s a b
went_with c d s a b w = record {
  leads = record { grows = w.leads.grows; same = λ more limit h. w.leads.same (s ++ more) limit h; gone = []; split = refl };
  between = w.between;
  outputs = w.outputs;
  took = w.took;
  stands = w.stands;
  faults = w.faults;
  told = w.told;
}

none_behind : (xs ys : List ℕ) → [] ≡ xs ++ ys → [] ≡ ys
none_behind [] ys e = e
none_behind (x ∷ xs) ys e = absurd (let no : ⊥ = cc in no)

reaches_with : (c d e : Course) (s : List ℕ) → Reaches c [] d e → Reaches c s d e
reaches_with c d e s r = record { grows = r.grows; same = λ more limit h. r.same (s ++ more) limit h }

leads_with : (c d : Course) (s u : List ℕ) → Leads c [] d u → Leads c s d (u ++ s)
leads_with c d s u l = record {
  grows = l.grows;
  same = λ more limit h. l.same (s ++ more) limit h ∙ ap (λ (x : List ℕ). run limit x d) (sym (append_assoc u s more));
  gone = [];
  split = ap (λ (x : List ℕ). x ++ s) (none_behind l.gone u l.split);
}

pub fails_with : (c : Course) (s : List ℕ) (a b : Scene) (f : RunFault) → Fails c [] a b f → Fails c s a b f
fails_with c s a b f h = fails_from c c s [] a a b f before h
  where
    before : Before c s c [] a a
    before = record {
      reaches = λ at next r. reaches_with c at next s r;
      leads = λ at u l. (u ++ s, leads_with c at s u l, omega (arith, length-append u s));
      between = [];
      outputs = sym (append-nil (octets_of c.outputs));
      took = took_none a;
      stands = λ o. o;
      faults = refl;
      told = refl;
    }
