-- What a page of the outgoing files answers.
use Rattle.std.proofs.Common.{◌≡◌, ◌≤◌, ◌+◌, ℕ, zero, suc, List, [], ◌∷◌, length, slice_get, unwrap_or, codes, Some, All, refl, ap, subst, ◌∙◌}
use Rattle.std.specs.List.{AllByRecursion}
use Rattle.std.proofs.lemmas.List.Elements.{All-head, All-tail}
use Rattle.sqlite_tied.specs.Compute.{everything}
use Rattle.sqlite.specs.declared.types.Value.TheVariants.{Null}
use Rattle.sqlite.specs.Order.{Row}
use Rattle.sqlite.specs.Term.{Term, col, eval_all}
use Rattle.sqlite.specs.Query.{end}
use Rattle.sqlite.specs.Command.{Command}
use Rattle.sqlite.specs.Command.TheVariants.{Select}
use Rattle.sqlite.specs.Listing.{understood}
use Rattle.oftp_register.specs.declared.entries.OutgoingEntry.{OutgoingEntry}
use Rattle.oftp_register.specs.declared.entries.Side.TheVariants as side
use Rattle.oftp_register.specs.Register.{Register, Outgoing}
use Rattle.oftp_register.specs.Soundness.{IsSound, IsSoundOutgoing}
use Rattle.oftp_register.specs.LookUps.{entry_at, file_rows, numbered, outgoing_entry}
use Rattle.oftp_tables.specs.Schema.{out_file_tree}
use Rattle.oftp_tables.specs.Tables.{HasRefusal, out_file_row, rows_out}
use Rattle.oftp_tables.proofs.BackLemmas.{at_place}
use Rattle.oftp_store.specs.Reads.{all_listed, numbers_of, outgoing_entry_of, outgoing_header_of, paged_out_entry, paged_out_number}
use Rattle.oftp_store.specs.Tells.{FindsPages}
use Rattle.oftp_store.specs.Texts.{out_page_text}
use Rattle.oftp_store.proofs.HeaderLemmas.{out_back}
use Rattle.oftp_store.proofs.ListPageLemmas.{alone, finds_also, finds_by, numbers_same, page_params, page_query, page_told}
use Rattle.oftp_store.proofs.ProgressLemmas.{mapped_placed}
use Rattle.oftp_store.proofs.ReadLemmas.{IsRead}

abbrev page_project : List Term
page_project = col 1 2 ∷ col 1 3 ∷ col 1 4 ∷ col 1 5 ∷ col 1 6 ∷ col 1 7 ∷ col 1 8 ∷ col 1 9 ∷ col 1 10 ∷ col 1 11 ∷ col 1 12 ∷ col 1 0 ∷ []

abbrev page_select : Command
page_select =
    Select (record { lets = []; body = page_query out_file_tree end page_project })
    (codes "dataset" ∷ codes "date" ∷ codes "time" ∷ codes "originator" ∷ codes "destination" ∷ codes "format" ∷ codes "longest" ∷ codes "description" ∷ codes "mark"
    ∷ codes "state" ∷ codes "reason" ∷ codes "no" ∷ [])

page_read : IsRead out_page_text page_select
unfolding understood everything
page_read = record { is = refl; unlisted = refl; plain = (refl, refl) }

row_back : (r : Register) (behind n : ℕ) (f : Outgoing) → HasRefusal f.state → length (file_rows r side.Outgoing n) ≡ length f.rows
    → paged_out_entry r (eval_all page_project (page_params behind ∷ out_file_row n f ∷ [])) ≡ outgoing_entry n f
row_back r behind n f small counted =
    ap (λ h. outgoing_entry_of n h (length (file_rows r side.Outgoing n))) (out_back n f small) ∙ ap (outgoing_entry_of n (outgoing_header_of f)) counted

module _ {E : Type 0} (told : Register → Row → E) (entry : ℕ → Outgoing → E) (back : (r : Register) (behind n : ℕ) (f : Outgoing) → HasRefusal f.state
    → length (file_rows r side.Outgoing n) ≡ length f.rows → told r (eval_all page_project (page_params behind ∷ out_file_row n f ∷ [])) ≡ entry n f) where
  finds_page : FindsPages out_page_text told (λ r. numbered entry 1 r.outgoing)
  finds_page = finds_by page_read (λ db behind rows answer r kept sound.
      page_told out_file_row out_file_tree end page_project db.trees behind r.outgoing (λ n f. page_params behind ∷ out_file_row n f ∷ []) (λ n f. refl)
      (λ n before f after placed. alone out_file_row (λ n f. refl) db.trees behind n f)
      (told r) entry
      (λ n before f after placed.
      let small = at_place (λ (x : Outgoing). HasRefusal x.state) before f after (subst (AllByRecursion (λ (x : Outgoing). HasRefusal x.state)) placed.here kept.outgoing.reasons) in
      back r behind n f small (ap (λ o. length (unwrap_or o [])) (mapped_placed rows_out n r.outgoing before f after placed)))
      rows kept.outgoing.headers (answer.answer Null))

pub finds_outgoing : FindsPages out_page_text (λ r row. Some (paged_out_entry r row)) (λ r. all_listed outgoing_entry r.outgoing)
finds_outgoing = finds_page (λ r row. Some (paged_out_entry r row)) (λ n f. Some (outgoing_entry n f)) (λ r behind n f small counted. ap Some (row_back r behind n f small counted))

pub numbers_outgoing : FindsPages out_page_text (λ r row. paged_out_number row) (λ r. numbers_of (all_listed outgoing_entry r.outgoing))
numbers_outgoing =
    finds_also _ (finds_page (λ r row. paged_out_number row) (λ n f. n) (λ r behind n f small counted. refl)) (λ r. numbers_same (λ n f. Some (outgoing_entry n f)) r.outgoing)

-- ---- the mark of an entry

marked_at : (n : ℕ) (files : List Outgoing) (i : ℕ) (e : OutgoingEntry) → All IsSoundOutgoing files → slice_get (numbered (λ n f. Some (outgoing_entry n f)) n files) i ≡ Some (Some e)
    → e.mark ≤ e.rows
marked_at n [] i e all is = absurd (let no_such = is in cc)
marked_at n (f ∷ files) zero e all is =
    let sound = All-head IsSoundOutgoing f files all in
    let same : outgoing_entry n f ≡ e = cc in
    subst (λ (e : OutgoingEntry). e.mark ≤ e.rows) same sound.marked
marked_at n (f ∷ files) (suc i) e all is = marked_at (n + 1) files i e (All-tail IsSoundOutgoing f files all) is

-- it doesn't exceed its rows
pub listed_mark : (r : Register) (k : ℕ) (e : OutgoingEntry) → IsSound r → entry_at k (all_listed outgoing_entry r.outgoing) ≡ Some (Some e) → e.mark ≤ e.rows
listed_mark r zero e sound is = absurd (let no_such = is in cc)
listed_mark r (suc i) e sound is = marked_at 1 r.outgoing i e sound.outgoing is
