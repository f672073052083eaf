-- DATA and EFID between two sessions: what is sent may arrive, and the link between both goes on.
use Rattle.std.proofs.Common.{◌≡◌, ℕ, zero, suc, ◌+◌, ◌-◌, ◌≤◌, Bool, List, [], ◌∷◌, ◌++◌, take, drop, map, slice_get, None, Some, refl, ap, sym, ◌∙◌, subst, arith, append_assoc}
use Rattle.std.proofs.lemmas.List.{append-nil, map-append, take-append-drop}
use Rattle.oftp_wire.specs.declared.command.Command.{Command}
use Rattle.oftp_wire.specs.declared.command.Command.TheVariants as command
use Rattle.oftp_wire.specs.declared.command.Efid.{Efid}
use Rattle.oftp_register.specs.declared.entry.Identity.{Identity}
use Rattle.oftp_register.specs.Register.{Register}
use Rattle.oftp_register.specs.LookUps.{entry_at}
use Rattle.oftp_register.specs.Soundness.{IsSound}
use Rattle.oftp_session.specs.Phases.{Phase, Receipt, Transfer, Receiving}
use Rattle.oftp_session.specs.declared.state.Contact.{Contact}
use Rattle.oftp_session.specs.Sending.{payloads_in}
use Rattle.oftp_engine.proofs.Standing.{ComesFrom, IsBeginning, MayTake, MayCome, IsTaking, Talk}
use Rattle.oftp_engine.proofs.Says.{out_entry}

-- payloads on the way, and what comes after them
pub datas_may_come : (r : Register) (i : Identity) (from : ℕ) (payloads on_the_way : List (List ℕ)) (behind : List Command) → MayTake r i from (payloads ++ on_the_way) behind
    → MayTake r i from payloads (map command.Data on_the_way ++ behind)
datas_may_come r i from payloads [] behind h = subst (λ x. MayTake r i from x behind) (append-nil payloads) h
datas_may_come r i from payloads (p ∷ ps) behind h = datas_may_come r i from (payloads ++ p ∷ []) ps behind (subst (λ x. MayTake r i from x behind) (sym (append_assoc payloads (p ∷ []) ps)) h)

-- one more of a list
take_one_more : {A : Type 0} (n : ℕ) (xs : List A) (x : A) → slice_get xs n ≡ Some x → take n xs ++ x ∷ [] ≡ take (n + 1) xs
take_one_more {A = A} n xs x h = by n xs h ∙ (let e : suc n ≡ n + 1 = omega arith in ap (λ k. take k xs) e)
  where
    by : (n : ℕ) (xs : List A) → slice_get xs n ≡ Some x → take n xs ++ x ∷ [] ≡ take (suc n) xs
    by n [] h = absurd (cc)
    by zero (y ∷ ys) h = let is : y ≡ x = cc in ap (λ z. z ∷ []) (sym is)
    by (suc n) (y ∷ ys) h = ap (λ zs. y ∷ zs) (by n ys h)

none_left : {A : Type 0} (n : ℕ) (xs : List A) → slice_get xs n ≡ None → take n xs ≡ xs
none_left {A = A} n xs h = by n xs h
  where
    by : (n : ℕ) (xs : List A) → slice_get xs n ≡ None → take n xs ≡ xs
    by zero [] h = refl
    by (suc n) [] h = refl
    by zero (y ∷ ys) h = absurd (cc)
    by (suc n) (y ∷ ys) h = ap (λ zs. y ∷ zs) (by n ys h)

-- the first payloads of a transfer are a beginning of the file's
pub sent_begins : (r : Register) (contact : Contact) (t : Transfer) (n : ℕ) → IsSound r → entry_at t.number r.outgoing ≡ Some t.file → 128 ≤ contact.link.buffer
    → ComesFrom r t.file.identity t.from (take n (payloads_in contact t)) (drop n (payloads_in contact t))
sent_begins r contact t n sound entry room = record {
  file = t.file;
  found = out_entry r t.number t.file sound entry;
  size = contact.link.buffer - 1;
  room = omega (arith, room);
  split = take-append-drop n (payloads_in contact t);
}

-- what the listener has and what is on its way, as the speaker knows
taken_so : (r : Register) (identity : Identity) (from : ℕ) (payloads : List (List ℕ)) (behind : List Command) (other : Talk) (k : IsTaking identity from payloads behind other) (more : List Command)
    → MayTake r identity from payloads more → MayTake r k.receipt.file.identity k.receipt.from k.receipt.payloads (map command.Data k.on_the_way ++ more)
taken_so r identity from payloads behind other k more h =
    datas_may_come r k.receipt.file.identity k.receipt.from k.receipt.payloads k.on_the_way more
    (subst (λ i. MayTake r i k.receipt.from (k.receipt.payloads ++ k.on_the_way) more) (sym k.same)
    (subst (λ c. MayTake r identity c (k.receipt.payloads ++ k.on_the_way) more) (sym k.from_row)
    (subst (λ x. MayTake r identity from x more) (sym k.all) h)))

-- DATA is sent: the payload may arrive at the listener
pub data_may_come : (r : Register) (contact : Contact) (t : Transfer) (payload : List ℕ) (other : Talk) → IsSound r → entry_at t.number r.outgoing ≡ Some t.file
    → 128 ≤ contact.link.buffer → slice_get (payloads_in contact t) t.sent ≡ Some payload
    → IsTaking t.file.identity t.from (take t.sent (payloads_in contact t)) [] other → MayCome r other.phase (other.coming ++ command.Data payload ∷ [])
data_may_come r contact t payload other sound entry room next k =
    let one = take_one_more t.sent (payloads_in contact t) payload next in
    let begins : IsBeginning r t.file.identity t.from (take t.sent (payloads_in contact t) ++ payload ∷ []) =
    subst (IsBeginning r t.file.identity t.from) (sym one) (drop (t.sent + 1) (payloads_in contact t), sent_begins r contact t (t.sent + 1) sound entry room) in
    let h = taken_so r t.file.identity t.from (take t.sent (payloads_in contact t)) [] other k (command.Data payload ∷ []) begins in
    subst (λ (p : Phase). MayCome r p (other.coming ++ command.Data payload ∷ [])) (sym k.takes)
    (subst (λ x. MayTake r k.receipt.file.identity k.receipt.from k.receipt.payloads (x ++ command.Data payload ∷ [])) (sym (k.told ∙ append-nil (map command.Data k.on_the_way))) h)

-- and the link goes on
pub data_link : (contact : Contact) (t : Transfer) (payload : List ℕ) (other : Talk) → slice_get (payloads_in contact t) t.sent ≡ Some payload
    → IsTaking t.file.identity t.from (take t.sent (payloads_in contact t)) [] other
    → let now : Talk = record other { coming = other.coming ++ command.Data payload ∷ [] } in IsTaking t.file.identity t.from (take (t.sent + 1) (payloads_in contact t)) [] now
data_link contact t payload other next k = record {
  contact = k.contact;
  receipt = k.receipt;
  takes = k.takes;
  same = k.same;
  from_row = k.from_row;
  on_the_way = k.on_the_way ++ payload ∷ [];
  told = ap (λ x. x ++ command.Data payload ∷ []) (k.told ∙ append-nil (map command.Data k.on_the_way)) ∙ sym (map-append command.Data k.on_the_way (payload ∷ []))
      ∙ sym (append-nil (map command.Data (k.on_the_way ++ payload ∷ [])));
  all = sym (append_assoc k.receipt.payloads k.on_the_way (payload ∷ [])) ∙ ap (λ x. x ++ payload ∷ []) k.all ∙ take_one_more t.sent (payloads_in contact t) payload next;
}

-- EFID is sent only after the last payload
pub efid_may_come : (r : Register) (contact : Contact) (t : Transfer) (efid : Efid) (other : Talk) → IsSound r → entry_at t.number r.outgoing ≡ Some t.file → 128 ≤ contact.link.buffer
    → slice_get (payloads_in contact t) t.sent ≡ None
    → IsTaking t.file.identity t.from (take t.sent (payloads_in contact t)) [] other → MayCome r other.phase (other.coming ++ command.Efid efid ∷ [])
efid_may_come r contact t efid other sound entry room none k =
    let all : take t.sent (payloads_in contact t) ≡ payloads_in contact t = none_left t.sent (payloads_in contact t) none in
    let whole : ComesFrom r t.file.identity t.from (take t.sent (payloads_in contact t)) [] =
    record {
      file = t.file;
      found = out_entry r t.number t.file sound entry;
      size = contact.link.buffer - 1;
      room = omega (arith, room);
      split =
          append-nil (take t.sent (payloads_in contact t)) ∙ all;
    } in
    let h = taken_so r t.file.identity t.from (take t.sent (payloads_in contact t)) [] other k (command.Efid efid ∷ []) (whole, tt) in
    subst (λ (p : Phase). MayCome r p (other.coming ++ command.Efid efid ∷ [])) (sym k.takes)
    (subst (λ x. MayTake r k.receipt.file.identity k.receipt.from k.receipt.payloads (x ++ command.Efid efid ∷ [])) (sym (k.told ∙ append-nil (map command.Data k.on_the_way))) h)

pub efid_link : (contact : Contact) (t : Transfer) (efid : Efid) (other : Talk) → slice_get (payloads_in contact t) t.sent ≡ None
    → IsTaking t.file.identity t.from (take t.sent (payloads_in contact t)) [] other
    → let now : Talk = record other { coming = other.coming ++ command.Efid efid ∷ [] } in IsTaking t.file.identity t.from (payloads_in contact t) (command.Efid efid ∷ []) now
efid_link contact t efid other none k = record {
  contact = k.contact;
  receipt = k.receipt;
  takes = k.takes;
  same = k.same;
  from_row = k.from_row;
  on_the_way = k.on_the_way;
  told = ap (λ x. x ++ command.Efid efid ∷ []) (k.told ∙ append-nil (map command.Data k.on_the_way));
  all = k.all ∙ none_left t.sent (payloads_in contact t) none;
}

-- the listener takes a payload, and the link goes on: rows that it keeps don't change the identity of the file
pub payload_link : (contact : Contact) (f g : Receipt) (payload : List ℕ) (calls : Bool) (identity : Identity) (from : ℕ) (payloads on_the_way : List (List ℕ)) (behind : List Command)
    → f.file.identity ≡ identity → f.from ≡ from → f.payloads ++ payload ∷ on_the_way ≡ payloads
    → g.file.identity ≡ f.file.identity → g.from ≡ f.from → g.payloads ≡ f.payloads ++ payload ∷ []
    → let now : Talk = record { calls = calls; phase = Receiving contact g; coming = map command.Data on_the_way ++ behind } in IsTaking identity from payloads behind now
payload_link contact f g payload calls identity from payloads on_the_way behind same place all name goes more = record {
  contact = contact;
  receipt = g;
  takes = refl;
  same = name ∙ same;
  from_row = goes ∙ place;
  on_the_way = on_the_way;
  told = refl;
  all = ap (λ x. x ++ on_the_way) more ∙ append_assoc f.payloads (payload ∷ []) on_the_way ∙ all;
}
