-- What a station does apart from one partner: its files for this partner, and from it, stay as they were.
use Rattle.std.proofs.Common.{◌≡◌, ◌≢◌, ℕ, List, [], ◌∷◌, ◌++◌, Option, None, Some, Result, Ok, refl, ap, sym, ◌∙◌, subst}
use Rattle.std.specs.Option.{option_map}
use Rattle.oftp_register.specs.declared.change.Cause.{Cause}
use Rattle.oftp_register.specs.declared.change.Change.{Change}
use Rattle.oftp_register.specs.declared.change.Change.TheVariants as change
use Rattle.oftp_register.specs.declared.entry.Identity.{Identity}
use Rattle.oftp_register.specs.Register.{Incoming, Outgoing, Received, Register}
use Rattle.oftp_register.specs.ByIdentity.{in_at, incoming_name, out_at, outgoing_name}
use Rattle.oftp_register.specs.Changes.{apply, at_number, closed, closing, given_up, handed, kept, mapped, marked, new_incoming, refused, reopened, sent, started_in}
use Rattle.oftp_register.specs.LookUps.{entry_at}
use Rattle.oftp_register.specs.Soundness.{IsSound}
use Rattle.oftp_register.proofs.AdditionLemmas.{filed_ok}
use Rattle.oftp_register.proofs.ByIdentityLemmas.{stays_elsewhere}
use Rattle.oftp_register.proofs.NumberLemmas.{mapped_ok}
use Rattle.oftp_engine.specs.World.{AreMade, LeavesFilesOf}
use Rattle.oftp_engine.proofs.About.{IsOfPartner}
use Rattle.oftp_engine.proofs.Fitting.{IsSameContent}
use Rattle.oftp_engine.proofs.Grounds.{OfEntry}
use Rattle.oftp_engine.proofs.Later.{IsLater, IsLaterFile, Stays, apply_later, later_self}

-- changes that are made, each of which leaves a sound register

pub made_sound : (changes : List Change) (r s : Register) → IsSound r → AreMade r changes s → IsSound s
made_sound [] r s sound made = subst IsSound (sym made) sound
made_sound (k ∷ ks) r s sound made = made_sound ks made.0 s made.2 made.3

then_out : (a b c : Option Outgoing) → Stays IsSameContent a b → Stays IsSameContent b c → Stays IsSameContent a c
then_out None b c h k = tt
then_out (Some x) None c h k = absurd h
then_out (Some x) (Some y) None h k = absurd k
then_out (Some x) (Some y) (Some z) h k = record { format = k.format ∙ h.format; longest = k.longest ∙ h.longest; rows = k.rows ∙ h.rows }

then_in : (a b c : Option Incoming) → Stays IsLaterFile a b → Stays IsLaterFile b c → Stays IsLaterFile a c
then_in None b c h k = tt
then_in (Some x) None c h k = absurd h
then_in (Some x) (Some y) None h k = absurd k
then_in (Some x) (Some y) (Some z) h k = record { whole = λ w. k.whole (h.whole w); answered = λ kind a. k.answered kind (h.answered kind a) }

later_then : (r s t : Register) → IsLater r s → IsLater s t → IsLater r t
later_then r s t h k = record {
  outgoing = λ i. then_out (out_at r i) (out_at s i) (out_at t i) (h.outgoing i) (k.outgoing i);
  incoming = λ i. then_in (in_at r i) (in_at s i) (in_at t i) (h.incoming i) (k.incoming i);
}

pub made_later : (changes : List Change) (r s : Register) → IsSound r → AreMade r changes s → IsLater r s
made_later [] r s sound made = subst (IsLater r) (sym made) (later_self r)
made_later (k ∷ ks) r s sound made = later_then r made.0 s (apply_later r k made.0 sound made.1) (made_later ks made.0 s made.2 made.3)

made_push : (changes : List Change) (r s t : Register) (k : Change) → AreMade r changes s → apply s k ≡ Ok t → IsSound t → AreMade r (changes ++ k ∷ []) t
made_push [] r s t k made is sound = (t, subst (λ (x : Register). apply x k ≡ Ok t) made is, sound, refl)
made_push (j ∷ js) r s t k made is sound = (made.0, made.1, made.2, made_push js made.0 s t k made.3 is sound)

-- one change of a session with another partner

record IsSameFor (code : List ℕ) (r s : Register) : Type 0 where
  outgoing : (identity : Identity) → identity.destination ≡ code → out_at s identity ≡ out_at r identity
  incoming : (identity : Identity) → identity.originator ≡ code → in_at s identity ≡ in_at r identity

-- the other table is as it was
out_same : (r s : Register) (result : Result (List Incoming) Cause) → mapped (λ files. record r { incoming = files }) result ≡ Ok s → (i : Identity) → out_at s i ≡ out_at r i
out_same r s result h i =
    let part = mapped_ok (λ files. record r { incoming = files }) result s h in
    subst (λ (z : Register). out_at z i ≡ out_at r i) part.2 refl

in_same : (r s : Register) (result : Result (List Outgoing) Cause) → mapped (λ files. record r { outgoing = files }) result ≡ Ok s → (i : Identity) → in_at s i ≡ in_at r i
in_same r s result h i =
    let part = mapped_ok (λ files. record r { outgoing = files }) result s h in
    subst (λ (z : Register). in_at z i ≡ in_at r i) part.2 refl

-- an entry with another identity
not_named : {A : Type 0} (name : A → Identity) (o : Option A) (i : Identity) → ((x : A) → o ≡ Some x → name x ≢ i) → option_map name o ≢ Some i
not_named name None i h e = absurd (let no : ⊥ = cc in no)
not_named name (Some x) i h e = h x refl (let same : name x ≡ i = cc in same)

from_others : (code : List ℕ) (n : ℕ) (files : List Incoming) → OfEntry n files (λ (e : Incoming). e.identity.originator ≢ code) → (i : Identity) → i.originator ≡ code
    → option_map incoming_name (entry_at n files) ≢ Some i
from_others code n files of i is = not_named incoming_name (entry_at n files) i (λ x e same. of x e (ap (λ (j : Identity). j.originator) same ∙ is))

to_others : (code : List ℕ) (n : ℕ) (files : List Outgoing) → OfEntry n files (λ (f : Outgoing). f.identity.destination ≢ code) → (i : Identity) → i.destination ≡ code
    → option_map outgoing_name (entry_at n files) ≢ Some i
to_others code n files of i is = not_named outgoing_name (entry_at n files) i (λ x e same. of x e (ap (λ (j : Identity). j.destination) same ∙ is))

some_same : (a b : Identity) → Some a ≡ Some b → a ≡ b
some_same a b h = cc

change_same : (code : List ℕ) (r : Register) (k : Change) (s : Register) → IsOfPartner (λ c. c ≢ code) r k → apply r k ≡ Ok s → IsSameFor code r s
unfolding apply
change_same code r (change.Submit identity format longest description rows) s of h = absurd of
change_same code r (change.Start identity format longest description count) s of h = record {
  outgoing = λ i is. out_same r s (started_in r (new_incoming identity format longest description) count r.incoming) h i;
  incoming = λ i is. (stays_elsewhere r (change.Start identity format longest description count) s h).incoming i
      (λ e. of (ap (λ (j : Identity). j.originator) (some_same identity i e) ∙ is));
}
change_same code r (change.Keep n rows) s of h = record {
  outgoing = λ i is. out_same r s (at_number (kept rows) n r.incoming) h i;
  incoming = λ i is. (stays_elsewhere r (change.Keep n rows) s h).incoming i (from_others code n r.incoming of i is);
}
change_same code r (change.Close n rows) s of h = record {
  outgoing = λ i is. out_same r s (at_number (closed rows) n r.incoming) h i;
  incoming = λ i is. (stays_elsewhere r (change.Close n rows) s h).incoming i (from_others code n r.incoming of i is);
}
change_same code r (change.GiveUp n) s of h = record {
  outgoing = λ i is. out_same r s (at_number given_up n r.incoming) h i;
  incoming = λ i is. (stays_elsewhere r (change.GiveUp n) s h).incoming i (from_others code n r.incoming of i is);
}
change_same code r (change.File kind identity reason creator text) s of h = record {
  outgoing = λ i is. (stays_elsewhere r (change.File kind identity reason creator text) s h).outgoing i
      (λ e. of (ap (λ (j : Identity). j.destination) (some_same identity i e) ∙ is));
  incoming = λ i is. (
      let response : Received = record { kind = kind; identity = identity; reason = reason; creator = creator; text = text } in
      subst (λ (z : Register). in_at z i ≡ in_at r i) (filed_ok r s response h).1 refl);
}
change_same code r (change.Issue n kind reason text) s of h = absurd of
change_same code r (change.Mark n rows) s of h = record {
  outgoing = λ i is. (stays_elsewhere r (change.Mark n rows) s h).outgoing i (to_others code n r.outgoing of i is);
  incoming = λ i is. in_same r s (at_number (marked rows) n r.outgoing) h i;
}
change_same code r (change.BeginClosing n) s of h = record {
  outgoing = λ i is. (stays_elsewhere r (change.BeginClosing n) s h).outgoing i (to_others code n r.outgoing of i is);
  incoming = λ i is. in_same r s (at_number closing n r.outgoing) h i;
}
change_same code r (change.HandOver n) s of h = record {
  outgoing = λ i is. (stays_elsewhere r (change.HandOver n) s h).outgoing i (to_others code n r.outgoing of i is);
  incoming = λ i is. in_same r s (at_number handed n r.outgoing) h i;
}
change_same code r (change.Refuse n reason) s of h = record {
  outgoing = λ i is. (stays_elsewhere r (change.Refuse n reason) s h).outgoing i (to_others code n r.outgoing of i is);
  incoming = λ i is. in_same r s (at_number (refused reason) n r.outgoing) h i;
}
change_same code r (change.Reopen n) s of h = record {
  outgoing = λ i is. (stays_elsewhere r (change.Reopen n) s h).outgoing i (to_others code n r.outgoing of i is);
  incoming = λ i is. in_same r s (at_number reopened n r.outgoing) h i;
}
change_same code r (change.Send n) s of h = record {
  outgoing = λ i is. out_same r s (at_number sent n r.incoming) h i;
  incoming = λ i is. (stays_elsewhere r (change.Send n) s h).incoming i (from_others code n r.incoming of i is);
}

-- nothing happened yet, and one more change
pub apart_self : (code : List ℕ) (r : Register) → LeavesFilesOf code r r
apart_self code r = record { changes = []; made = refl; outgoing = λ i is. refl; incoming = λ i is. refl }

pub apart_push : (code : List ℕ) (r s t : Register) (k : Change) → LeavesFilesOf code r s → IsOfPartner (λ c. c ≢ code) s k → apply s k ≡ Ok t → IsSound t → LeavesFilesOf code r t
apart_push code r s t k h of is sound =
    let same = change_same code s k t of is in
    record {
      changes = h.changes ++ k ∷ [];
      made = made_push h.changes r s t k h.made is sound;
      outgoing = λ i e. same.outgoing i e ∙ h.outgoing i e;
      incoming = λ i e. same.incoming i e ∙ h.incoming i e;
    }
