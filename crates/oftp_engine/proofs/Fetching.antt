-- A file that is fetched in pieces of some rows.
use Rattle.std.proofs.Common.{◌≡◌, ◌≢◌, ◌≤◌, ◌+◌, ◌-◌, ◌++◌, ℕ, List, length, Option, take, drop, inl, inr, ap, ◌∙◌, sym, subst, refl, arith, append_assoc, length-append}
use Rattle.std.proofs.Math.Seq.{take-add, take-append-add, take-append_seam}
use Rattle.std.proofs.lemmas.List.{take-append-le}
use Rattle.std.proofs.KnownBytes.{Appends-nil, Appends-trans}
use Rattle.std.proofs.lemmas.Grind.{flat_map-append}
use Rattle.std.specs.Io.KnownBytes.{Appends}
use Rattle.oftp_vfile.specs.LocalForm.{local_of, local_row}
use Rattle.oftp_register.specs.Register.{Register}
use Rattle.oftp_register.specs.LookUps.{file_rows}
use Rattle.oftp_register.specs.Offices.{Only, View, next_count}
use Rattle.oftp_register.specs.declared.entries.IncomingEntry.{IncomingEntry}
use Rattle.oftp_register.specs.declared.entries.Side.TheVariants as side
use Rattle.oftp_io.specs.declared.port.Port.{Port}
use Rattle.oftp_io.specs.Ports.{Puts, SentAll, SentPart}
use Rattle.oftp_io.proofs.Puts.{puts_none, puts_on}
use Rattle.oftp_engine.specs.declared.serving.RunFault.{RunFault}
use Rattle.oftp_engine.specs.declared.serving.RunFault.TheVariants as fault
use Rattle.oftp_engine.specs.Fetched.{FetchesErr, HasFile, OfficeAnswered, IsPartOut, OfficeUnanswered, fetched, piece_of}
use Rattle.oftp_engine.specs.Served.{WriterErr}

-- the rows before one are out
pub record IsFetched {W : Type 0} (contents : W → Option (List ℕ)) (e : IncomingEntry) (from : ℕ) (old now : View) (front here : Port W) : Type 0 where
  pub few : from ≤ e.rows
  pub clean : now.clean → old.clean
  pub answered : OfficeAnswered old now
  pub told : here.faults ≡ front.faults
  pub out : Puts contents front here
  pub pieces : now.clean → old.stands → Appends (contents front.inner) (contents here.inner) (piece_of old.register e 0 from)

-- a piece and the next one are one piece
piece_more : (r : Register) (e : IncomingEntry) (from most : ℕ) → piece_of r e 0 (from + most) ≡ piece_of r e 0 from ++ piece_of r e from most
piece_more r e from most =
    let rows = file_rows r side.Incoming e.no in
    ap (local_of e.format) (take-add from most rows) ∙ flat_map-append (local_row e.format) (take from rows) (take most (drop from rows))

-- the pieces so far and the rest are the file
file_more : (r : Register) (e : IncomingEntry) (from : ℕ) → from ≤ e.rows → fetched r e ≡ piece_of r e 0 from ++ piece_of r e from (e.rows - from)
file_more r e from few = ap (piece_of r e 0) (omega (arith, few)) ∙ piece_more r e from (e.rows - from)

-- an office that returned no error, and then returned one or didn't
answered_on : (old mid new : View) → OfficeAnswered old mid → (new.clean → mid.clean) → OfficeAnswered mid new → OfficeAnswered old new
answered_on old mid new p clean q = record {
  told = q.told ∙ p.told;
  stays = λ h stood.
      let was = p.stays (clean h) stood in
      let now = q.stays h was.0 in
      (now.0, now.1 ∙ was.1);
}

unanswered_on : (e : IncomingEntry) (old mid new : View) → OfficeAnswered old mid → (new.clean → mid.clean) → OfficeUnanswered e mid new → OfficeUnanswered e old new
unanswered_on e old mid new p clean q = record {
  told = elim q.told [ inl none ↦ inl (none ∙ p.told) | inr one ↦ inr (one ∙ ap next_count p.told) ];
  fault = λ h stood has.
      let was = p.stays (clean h) stood in
      q.fault h was.0 (subst (λ (r : Register). HasFile r e) (sym was.1) has) ∙ ap next_count p.told;
  register = λ h stood is_open.
      let was = p.stays (clean h) stood in
      q.register h was.0 is_open ∙ was.1;
  left = λ h stood.
      let was = p.stays (clean h) stood in
      subst (λ (r : Register). Only r new) was.1 (q.left h was.0);
}

-- no row yet
pub fetched_none : {W : Type 0} (contents : W → Option (List ℕ)) (e : IncomingEntry) (v : View) (port : Port W) → IsFetched contents e 0 v v port port
fetched_none contents e v port = record {
  few = omega arith;
  clean = λ h. h;
  answered = record { told = refl; stays = λ clean stood. (stood, refl) };
  told = refl;
  out = puts_none contents port;
  pieces = λ clean stood. Appends-nil (contents port.inner);
}

module _ {W : Type 0} (contents : W → Option (List ℕ)) (e : IncomingEntry) (from most : ℕ) (old mid new : View) (front here next : Port W)
    (so : IsFetched contents e from old mid front here) (clean : new.clean → mid.clean) where
  -- the next piece
  pub fetched_on : (piece : List ℕ) → from + most ≤ e.rows → OfficeAnswered mid new → (new.clean → mid.stands → piece ≡ piece_of mid.register e from most)
      → Puts contents here next → SentAll contents here next piece → IsFetched contents e (from + most) old new front next
  fetched_on piece fits answered is out sent = record {
    few = fits;
    clean = λ h. so.clean (clean h);
    answered = answered_on old mid new so.answered clean answered;
    told = sent.faults ∙ so.told;
    out = puts_on contents front here next so.out out;
    pieces = λ h stood.
        let was = so.answered.stays (clean h) stood in
        let same : piece ≡ piece_of old.register e from most = is h was.0 ∙ ap (λ (r : Register). piece_of r e from most) was.1 in
        let both = Appends-trans (contents front.inner) (contents here.inner) (contents next.inner) (piece_of old.register e 0 from) piece
        (so.pieces (clean h) stood) sent.wrote.contents in
        subst (Appends (contents front.inner) (contents next.inner))
        (ap (λ (x : List ℕ). piece_of old.register e 0 from ++ x) same ∙ sym (piece_more old.register e from most)) both;
  }

  -- if the next piece is missing, a beginning of the file is out
  pub fetched_so_far : new.clean → old.stands → IsPartOut (fetched old.register e) (contents front.inner) (contents here.inner)
  fetched_so_far h stood =
      let done = piece_of old.register e 0 from in
      let rest = piece_of old.register e from (e.rows - from) in
      let file = file_more old.register e from so.few in
      record {
        count = length done;
        few = omega (arith, ap (λ (x : List ℕ). length x) file, length-append done rest);
        out = subst (Appends (contents front.inner) (contents here.inner)) (sym (ap (take (length done)) file ∙ take-append_seam done rest)) (so.pieces (clean h) stood);
      }

  -- if the next piece is out in part
  pub fetched_in_part : (piece : List ℕ) → from + most ≤ e.rows → (new.clean → mid.stands → piece ≡ piece_of mid.register e from most)
      → SentPart contents here next piece → new.clean → old.stands → IsPartOut (fetched old.register e) (contents front.inner) (contents next.inner)
  fetched_in_part piece fits is sent h stood =
      let was = so.answered.stays (clean h) stood in
      let same : piece ≡ piece_of old.register e from most = is h was.0 ∙ ap (λ (r : Register). piece_of r e from most) was.1 in
      let done = piece_of old.register e 0 from in
      let rest = piece_of old.register e (from + most) (e.rows - (from + most)) in
      let file : fetched old.register e ≡ done ++ (piece ++ rest) =
      file_more old.register e (from + most) fits ∙ ap (λ (x : List ℕ). x ++ rest) (piece_more old.register e from most ∙ ap (λ (x : List ℕ). done ++ x) (sym same))
      ∙ append_assoc done piece rest in
      let out : take (length done + sent.count) (done ++ (piece ++ rest)) ≡ done ++ take sent.count piece =
      take-append-add done (piece ++ rest) sent.count ∙ ap (λ (x : List ℕ). done ++ x) (take-append-le sent.count piece rest (omega (arith, sent.short))) in
      let both = Appends-trans (contents front.inner) (contents here.inner) (contents next.inner) done (take sent.count piece) (so.pieces (clean h) stood) sent.wrote.contents in
      record {
        count = length done + sent.count;
        few = omega (arith, ap (λ (x : List ℕ). length x) file, length-append done (piece ++ rest), length-append piece rest, sent.short);
        out = subst (Appends (contents front.inner) (contents next.inner)) (sym (ap (take (length done + sent.count)) file ∙ out)) both;
      }

  -- the errors of the office then
  pub answered_so : OfficeAnswered mid new → OfficeAnswered old new
  answered_so answered = answered_on old mid new so.answered clean answered

  pub fetches_err : (f : RunFault) → FetchesErr e mid new f → FetchesErr e old new f
  fetches_err fault.Read h = h
  fetches_err fault.Write h = answered_so h
  fetches_err fault.Office h = unanswered_on e old mid new so.answered clean h
  fetches_err fault.Memory h = answered_so h

-- all rows
pub fetched_whole : {W : Type 0} (contents : W → Option (List ℕ)) (e : IncomingEntry) (from : ℕ) (old now : View) (front here : Port W)
    → IsFetched contents e from old now front here → e.rows ≤ from → now.clean → old.stands → Appends (contents front.inner) (contents here.inner) (fetched old.register e)
fetched_whole contents e from old now front here so end clean stood =
    let same : from ≡ e.rows = omega (arith, so.few, end) in
    subst (λ (n : ℕ). Appends (contents front.inner) (contents here.inner) (piece_of old.register e 0 n)) same (so.pieces clean stood)

-- a writer without an error, where the error isn't its own
pub unwritten : {W : Type 0} (front here : Port W) (f : RunFault) → here.faults ≡ front.faults → f ≢ fault.Write → WriterErr front here f
unwritten front here fault.Read same other = same
unwritten front here fault.Write same other = absurd (other refl)
unwritten front here fault.Office same other = inl same
unwritten front here fault.Memory same other = same
