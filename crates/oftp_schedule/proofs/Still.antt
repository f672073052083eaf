-- What holds of each choice holds of the one that is taken, and what holds where nothing is chosen.
use Rattle.std.proofs.Common.{◌≡◌, ◌≢◌, ◌∙◌, ℕ, Bool, true, false, if◌then◌else◌, Option, Some, None, cond, refl, ap, sym}
use Rattle.oftp_schedule.specs.declared.connection.Reply.{Reply}
use Rattle.oftp_schedule.specs.declared.connection.Choice.{Choice}
use Rattle.oftp_schedule.specs.declared.connection.Choice.TheVariants.{Nothing, Finish, Settle, Admit, Inspect, Start, Proceed, Consult, Perform, Lend, Seek, Depart}
use Rattle.oftp_schedule.specs.declared.connection.Session.{Session}
use Rattle.oftp_schedule.specs.declared.connection.Connection.{Connection}
use Rattle.oftp_schedule.specs.Machine.{State, or_else, choice_of, finish, expiry, dismissed, orphaned, call_over, way_given, admission, dial, job, departure, is_past, choice}

-- of two choices that come to nothing each is nothing
pub both : (a b : Choice) → or_else a b ≡ Nothing → (a ≡ Nothing) × (b ≡ Nothing)
both Nothing b e = (refl, e)
both (Finish st) b e = cc
both (Settle id r) b e = cc
both (Admit d) b e = cc
both Inspect b e = cc
both (Start id x) b e = cc
both (Proceed id x) b e = cc
both (Consult id) b e = cc
both (Perform id) b e = cc
both (Lend id) b e = cc
both (Seek id c) b e = cc
both (Depart st) b e = cc

-- what holds of the first of two choices, and of the second where the first is nothing, holds of the one that is taken
pub taken : (Q : Choice → Type 0) (a b : Choice) → Q a → (a ≡ Nothing → Q b) → Q (or_else a b)
taken Q Nothing b f g = g refl
taken Q (Finish st) b f g = f
taken Q (Settle id r) b f g = f
taken Q (Admit d) b f g = f
taken Q Inspect b f g = f
taken Q (Start id x) b f g = f
taken Q (Proceed id x) b f g = f
taken Q (Consult id) b f g = f
taken Q (Perform id) b f g = f
taken Q (Lend id) b f g = f
taken Q (Seek id c) b f g = f
taken Q (Depart st) b f g = f

pub either : (Q : Choice → Type 0) (a b : Choice) → Q a → Q b → Q (or_else a b)
either Q a b f g = taken Q a b f (λ e. g)

-- what holds of nothing, and of what is chosen for one who is found
pub of_found : (Q : Choice → Type 0) (f : Connection → Choice) (at : Option Connection) → Q Nothing → ((c : Connection) → at ≡ Some c → Q (f c)) → Q (choice_of at f)
of_found Q f None n k = n
of_found Q f (Some c) n k = k c refl

-- what holds of nothing, and of what is chosen where a test says so
pub if_so : (Q : Choice → Type 0) (b : Bool) (c : Choice) → Q Nothing → (b ≡ true → Q c) → Q (if b then c else Nothing)
if_so Q true c n k = k refl
if_so Q false c n k = n

pub unless : (Q : Choice → Type 0) (b : Bool) (c : Choice) → Q Nothing → (b ≡ false → Q c) → Q (if b then Nothing else c)
unless Q true c n k = n
unless Q false c n k = k refl

-- nobody is found for whom something would be chosen
pub nobody : (at : Option Connection) (f : Connection → Choice) → ((c : Connection) → at ≡ Some c → f c ≢ Nothing) → choice_of at f ≡ Nothing → at ≡ None
nobody None f k e = refl
nobody (Some c) f k e = absurd (k c refl e)

pub settle_something : (id : ℕ) (r : Reply) → Settle id r ≢ Nothing
settle_something id r e = cc

pub start_something : (id : ℕ) (x : Session) → Start id x ≢ Nothing
start_something id x e = cc

-- what is chosen after the rules of the end, where the program goes on
abbrev pub Rest : State → Choice
Rest s = or_else (expiry s) (or_else (dismissed s s.course) (or_else (orphaned s)
    (or_else (call_over s) (or_else (way_given s) (or_else (admission s) (or_else (dial s) (or_else (job s) (departure s s.course))))))))

going_on : (s : State) → is_past s.course ≡ false → choice s ≡ or_else (finish s s.course) (Rest s)
going_on s n = ap (λ b. cond b Nothing (or_else (finish s s.course) (Rest s))) n

-- what holds of nothing and of each of the choices holds of the one that is taken
pub each_choice : (Q : Choice → Type 0) (s : State) → Q Nothing → Q (finish s s.course) → Q (expiry s) → Q (dismissed s s.course) → Q (orphaned s) → Q (call_over s)
    → Q (way_given s) → Q (admission s) → Q (dial s) → Q (job s) → Q (departure s s.course) → Q (choice s)
each_choice Q s none a b c d e f g h i j =
    let h8 = either Q (job s) (departure s s.course) i j in
    let h7 = either Q (dial s) (or_else (job s) (departure s s.course)) h h8 in
    let h6 = either Q (admission s) (or_else (dial s) (or_else (job s) (departure s s.course))) g h7 in
    let h5 = either Q (way_given s) (or_else (admission s) (or_else (dial s) (or_else (job s) (departure s s.course)))) f h6 in
    let h4 = either Q (call_over s) (or_else (way_given s) (or_else (admission s) (or_else (dial s) (or_else (job s) (departure s s.course))))) e h5 in
    let h3 = either Q (orphaned s) (or_else (call_over s) (or_else (way_given s) (or_else (admission s) (or_else (dial s) (or_else (job s) (departure s s.course)))))) d h4 in
    let h2 = either Q (dismissed s s.course) (or_else (orphaned s)
    (or_else (call_over s) (or_else (way_given s) (or_else (admission s) (or_else (dial s) (or_else (job s) (departure s s.course))))))) c h3 in
    let h1 = either Q (expiry s) (or_else (dismissed s s.course)
    (or_else (orphaned s) (or_else (call_over s) (or_else (way_given s) (or_else (admission s) (or_else (dial s) (or_else (job s) (departure s s.course)))))))) b h2 in
    let h0 = either Q (finish s s.course) (Rest s) a h1 in
    elim (is_past s.course) as (λ b. Q (cond b Nothing (or_else (finish s s.course) (Rest s)))) [ true ↦ none | false ↦ h0 ]

-- each of the choices is nothing
pub record Stillness (s : State) : Type 0 where
  pub finish_is : finish s s.course ≡ Nothing
  pub expiry_is : expiry s ≡ Nothing
  pub dismissed_is : dismissed s s.course ≡ Nothing
  pub orphaned_is : orphaned s ≡ Nothing
  pub call_over_is : call_over s ≡ Nothing
  pub way_given_is : way_given s ≡ Nothing
  pub admission_is : admission s ≡ Nothing
  pub dial_is : dial s ≡ Nothing
  pub job_is : job s ≡ Nothing
  pub departure_is : departure s s.course ≡ Nothing

pub stillness : (s : State) → choice s ≡ Nothing → is_past s.course ≡ false → Stillness s
stillness s e n =
    let h0 = both (finish s s.course) (Rest s) (sym (going_on s n) ∙ e) in
    let h1 = both (expiry s) (or_else (dismissed s s.course) (or_else (orphaned s)
    (or_else (call_over s) (or_else (way_given s) (or_else (admission s) (or_else (dial s) (or_else (job s) (departure s s.course)))))))) h0.1 in
    let h2 = both (dismissed s s.course) (or_else (orphaned s)
    (or_else (call_over s) (or_else (way_given s) (or_else (admission s) (or_else (dial s) (or_else (job s) (departure s s.course))))))) h1.1 in
    let h3 = both (orphaned s) (or_else (call_over s) (or_else (way_given s) (or_else (admission s) (or_else (dial s) (or_else (job s) (departure s s.course)))))) h2.1 in
    let h4 = both (call_over s) (or_else (way_given s) (or_else (admission s) (or_else (dial s) (or_else (job s) (departure s s.course))))) h3.1 in
    let h5 = both (way_given s) (or_else (admission s) (or_else (dial s) (or_else (job s) (departure s s.course)))) h4.1 in
    let h6 = both (admission s) (or_else (dial s) (or_else (job s) (departure s s.course))) h5.1 in
    let h7 = both (dial s) (or_else (job s) (departure s s.course)) h6.1 in
    let h8 = both (job s) (departure s s.course) h7.1 in
    record {
      finish_is = h0.0;
      expiry_is = h1.0;
      dismissed_is = h2.0;
      orphaned_is = h3.0;
      call_over_is = h4.0;
      way_given_is = h5.0;
      admission_is = h6.0;
      dial_is = h7.0;
      job_is = h8.0;
      departure_is = h8.1;
    }
