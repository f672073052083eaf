-- What is next is in the register: a response that is due, or a file that is on its way.
use Rattle.std.proofs.Common.{◌≡◌, ℕ, suc, ◌+◌, ◌≤◌, ◌&&◌, Bool, true, false, cond, nat_lt, List, [], ◌∷◌, length, take, drop, find, slice_get, Option, None, Some, refl, ap, sym, ◌∙◌, inl, inr, arith}
use Rattle.std.proofs.lemmas.Bool.{cases_Bool, cond-true, cond-false, and_parts}
use Rattle.std.specs.List.{filter_map}
use Rattle.std.specs.Option.{option_map}
use Rattle.std.specs.Str.{bytes_eq}
use Rattle.oftp_vfile.specs.VirtualFile.{units_in}
use Rattle.oftp_register.specs.declared.entry.Dispatch.{Dispatch}
use Rattle.oftp_register.specs.declared.entry.Dispatch.TheVariants.{Due, Sent}
use Rattle.oftp_register.specs.declared.entries.Cursor.{Cursor}
use Rattle.oftp_register.specs.declared.entries.IssuedEntry.{IssuedEntry}
use Rattle.oftp_register.specs.declared.entries.OutgoingEntry.{OutgoingEntry}
use Rattle.oftp_register.specs.declared.entries.Item.TheVariants as item
use Rattle.oftp_register.specs.declared.entries.Side.TheVariants as side
use Rattle.oftp_register.specs.Register.{Register, Incoming, Outgoing, Issued}
use Rattle.oftp_register.specs.LookUps.{entry_at, is_due, is_next_file, is_next_response, is_on_its_way, issued_entry, issued_response, item_of, next_file, next_item, next_response, numbered, outgoing_entry, rows_of, units_of}
use Rattle.oftp_register.specs.Soundness.{IsSound, IsSoundOutgoing}
use Rattle.oftp_register.proofs.EntryLemmas.{all_at, rows_of_outgoing}
use Rattle.oftp_session.specs.declared.state.Contact.{Contact}
use Rattle.oftp_session.specs.Speaker.{offer_of}
use Rattle.oftp_session.specs.Steps.{IsOffered, IsResponding}

-- the first response that may be next, from a number on
record IsDueAt (n : ℕ) (xs : List Incoming) (e : IssuedEntry) : Type 0 where
  place : ℕ
  number : e.no ≡ n + place
  file : Incoming
  at : slice_get xs place ≡ Some file
  response : Issued
  issued : file.response ≡ Some response
  due : is_due response.dispatch ≡ true

due_found : (partner : List ℕ) (tried n : ℕ) (xs : List Incoming) (e : IssuedEntry)
    → find (is_next_response partner tried) (filter_map (λ entry. entry) (numbered issued_entry n xs)) ≡ Some e → IsDueAt n xs e
due_found partner tried n [] e h = absurd (let no : ⊥ = cc in no)
due_found partner tried n (f ∷ fs) e h = by (due_found partner tried (n + 1) fs e) f.response refl h
  where
    p : IssuedEntry → Bool
    p = is_next_response partner tried

    rest : List (Option IssuedEntry)
    rest = numbered issued_entry (n + 1) fs

    here : Issued → IssuedEntry
    here w = record { no = n; identity = f.identity; response = issued_response w }

    behind : IsDueAt (n + 1) fs e → IsDueAt n (f ∷ fs) e
    behind k = record { place = suc k.place; number = omega (arith, k.number); file = k.file; at = k.at; response = k.response; issued = k.issued; due = k.due }

    by : (find p (filter_map (λ entry. entry) rest) ≡ Some e → IsDueAt (n + 1) fs e) → (o : Option Issued) → f.response ≡ o
        → find p (filter_map (λ entry. entry) (option_map here o ∷ rest)) ≡ Some e → IsDueAt n (f ∷ fs) e
    by ih None is g = behind (ih g)
    by ih (Some w) is g =
        let others = find p (filter_map (λ entry. entry) rest) in
        elim (cases_Bool (p (here w))) [
          | inl t ↦ (let q : Some (here w) ≡ Some e = sym (cond-true (p (here w)) (Some (here w)) others t) ∙ g in
              let same : here w ≡ e = cc in
              let last = (and_parts (nat_lt tried n) (is_due w.dispatch && bytes_eq f.identity.originator partner) t).1 in
              record {
                place = 0;
                number = (let m : n ≡ e.no = ap (λ (x : IssuedEntry). x.no) same in omega (arith, m));
                file = f;
                at = refl;
                response = w;
                issued = is;
                due = (and_parts (is_due w.dispatch) (bytes_eq f.identity.originator partner) last).0;
              })
          | inr t ↦ behind (ih (sym (cond-false (p (here w)) (Some (here w)) others t) ∙ g))
        ]

-- the first file that may be next, from a number on
record IsGoingAt (n : ℕ) (xs : List Outgoing) (e : OutgoingEntry) : Type 0 where
  place : ℕ
  file : Outgoing
  at : slice_get xs place ≡ Some file
  entry : e ≡ outgoing_entry (n + place) file
  goes : is_on_its_way file.state ≡ true

going_found : (partner : List ℕ) (tried n : ℕ) (xs : List Outgoing) (e : OutgoingEntry) → find (is_next_file partner tried) (numbered outgoing_entry n xs) ≡ Some e → IsGoingAt n xs e
going_found partner tried n [] e h = absurd (let no : ⊥ = cc in no)
going_found partner tried n (f ∷ fs) e h =
    let here : OutgoingEntry = outgoing_entry n f in
    let p : OutgoingEntry → Bool = is_next_file partner tried in
    let rest = find p (numbered outgoing_entry (n + 1) fs) in
    elim (cases_Bool (p here)) [
      | inl t ↦ (let q : Some here ≡ Some e = sym (cond-true (p here) (Some here) rest t) ∙ h in
          let same : here ≡ e = cc in
          let last = (and_parts (nat_lt tried n) (is_on_its_way f.state && bytes_eq f.identity.destination partner) t).1 in
          record {
            place = 0;
            file = f;
            at = refl;
            entry = sym same ∙ ap (λ m. outgoing_entry m f) (let m : n ≡ n + 0 = omega arith in m);
            goes = (and_parts (is_on_its_way f.state) (bytes_eq f.identity.destination partner) last).0;
          })
      | inr t ↦ (let k = going_found partner tried (n + 1) fs e (sym (cond-false (p here) (Some here) rest t) ∙ h) in
          record {
            place = suc k.place;
            file = k.file;
            at = k.at;
            entry = k.entry ∙ ap (λ m. outgoing_entry m k.file) (let m : n + 1 + k.place ≡ n + suc k.place = omega arith in m);
            goes = k.goes;
          })
    ]

due_so : (d : Dispatch) → is_due d ≡ true → d ≡ Due
due_so Due h = refl
due_so Sent h = absurd (let no : ⊥ = cc in no)

one_more : (n k : ℕ) → n ≡ 1 + k → n ≡ suc k
one_more n k h = omega (arith, h)

-- which of the two is next
pub a_response : (response : Option IssuedEntry) (file : Option OutgoingEntry) (e : IssuedEntry) → item_of response file ≡ Some (item.Response e) → response ≡ Some e
a_response (Some x) file e h = cc
a_response None (Some x) e h = absurd (let no : ⊥ = cc in no)
a_response None None e h = absurd (let no : ⊥ = cc in no)

a_file : (response : Option IssuedEntry) (file : Option OutgoingEntry) (e : OutgoingEntry) → item_of response file ≡ Some (item.File e) → file ≡ Some e
a_file (Some x) file e h = absurd (let no : ⊥ = cc in no)
a_file None (Some x) e h = cc
a_file None None e h = absurd (let no : ⊥ = cc in no)

where_sends : (sends : Bool) (file : Option OutgoingEntry) (e : OutgoingEntry) → cond sends file None ≡ Some e → file ≡ Some e
where_sends true file e h = h
where_sends false file e h = absurd (let no : ⊥ = cc in no)

-- a response that is next is due
pub item_responds : (r : Register) (partner : List ℕ) (tried : Cursor) (files : Bool) (e : IssuedEntry)
    → next_item r partner tried files ≡ Some (item.Response e) → IsResponding r e.no
item_responds r partner tried files e h =
    let k = due_found partner tried.response 1 r.incoming e (a_response (next_response r partner tried.response) (cond files (next_file r partner tried.file) None) e h) in
    record {
      file = k.file;
      entry = ap (λ n. entry_at n r.incoming) (one_more e.no k.place k.number) ∙ k.at;
      response = k.response;
      issued = k.issued;
      due = due_so k.response.dispatch k.due;
    }

-- a file is offered from a row that it has
offer_within : (restart : Bool) (file : Outgoing) → IsSoundOutgoing file → cond restart file.mark 0 ≤ length file.rows
offer_within true file s = s.marked
offer_within false file s = omega arith

-- a file that is next is on its way, and may be offered
pub item_goes : (r : Register) (contact : Contact) (partner : List ℕ) (tried : Cursor) (files : Bool) (e : OutgoingEntry) → IsSound r
    → next_item r partner tried files ≡ Some (item.File e) → (file : Outgoing) × (e ≡ outgoing_entry e.no file) × IsOffered r (offer_of contact e.no file)
item_goes r contact partner tried files e sound h =
    let found = where_sends files (next_file r partner tried.file) e (a_file (next_response r partner tried.response) (cond files (next_file r partner tried.file) None) e h) in
    let k = going_found partner tried.file 1 r.outgoing e found in
    let number : e.no ≡ 1 + k.place = ap (λ (x : OutgoingEntry). x.no) k.entry in
    let entry : entry_at e.no r.outgoing ≡ Some k.file = ap (λ n. entry_at n r.outgoing) (one_more e.no k.place number) ∙ k.at in (
      k.file,
      k.entry ∙ ap (λ n. outgoing_entry n k.file) (sym number),
      record { entry = entry; goes = k.goes; within = offer_within contact.link.restart k.file (all_at IsSoundOutgoing e.no r.outgoing k.file sound.outgoing entry) },
    )

-- the octets of an outgoing file with a number, and its rows that are borrowed
pub units_are : (r : Register) (n : ℕ) (file : Outgoing) → entry_at n r.outgoing ≡ Some file → units_of r side.Outgoing n ≡ units_in file.rows
units_are r n file h = ap units_in (rows_of_outgoing r n file h)

pub rows_lent_are : (r : Register) (n from most : ℕ) (file : Outgoing) → entry_at n r.outgoing ≡ Some file → rows_of r side.Outgoing n from most ≡ take most (drop from file.rows)
rows_lent_are r n from most file h = ap (λ (rows : List (List ℕ)). take most (drop from rows)) (rows_of_outgoing r n file h)
