-- What an operator's call changes: a file is submitted, or a response issued, fit and made.
use Rattle.std.proofs.Common.{◌≡◌, ℕ, ◌+◌, Bool, true, false, cond, ◌&&◌, nat_le, is_some, List, [], length, None, Result, Ok, Err, refl, sym, ap, ◌∙◌, subst, inl, inr}
use Rattle.std.specs.Prelude.{codes}
use Rattle.oftp_partners.specs.Book.{BookData, partner_at}
use Rattle.oftp_register.specs.declared.change.Cause.{Cause}
use Rattle.oftp_register.specs.declared.change.Change.{Change}
use Rattle.oftp_register.specs.declared.change.Change.TheVariants as change
use Rattle.oftp_register.specs.declared.entry.ResponseKind.{ResponseKind}
use Rattle.oftp_register.specs.declared.entry.ResponseKind.TheVariants.{EndResponse, NegativeEndResponse}
use Rattle.oftp_register.specs.Register.{Register}
use Rattle.oftp_register.specs.Changes.{apply, is_outgoing}
use Rattle.oftp_register.specs.Soundness.{IsFile, IsFit, IsResponse}
use Rattle.oftp_session.specs.Phases.{register_after}
use Rattle.oftp_engine.specs.declared.operating.Operator.{Operator}
use Rattle.oftp_engine.specs.declared.operating.Operator.TheVariants as operator
use Rattle.oftp_engine.specs.declared.operating.Refusal.TheVariants.{Duplicate, Field, Limit, Unknown}
use Rattle.oftp_engine.specs.declared.submitting.Submission.{Submission}
use Rattle.oftp_engine.specs.Events.{DeedsAreOrders}
use Rattle.oftp_engine.specs.Operating.{Deed, IsDeed, IsFileOf, decided, identity_of, is_too_big, makes, refused, refuses, registered, released, submitted}
use Rattle.oftp_engine.specs.TwoStations.{IfAny}
use Rattle.oftp_engine.specs.World.{World, Order, Orders, happens, happens_in, is_ordered, without_session}
use Rattle.oftp_engine.proofs.Offers.{is_file}
use Rattle.oftp_engine.proofs.Stops.{made_after}

-- a change of a kind that no session makes, fit in each register
pub record IsOrder (k : Change) : Type 0 where
  pub ordered : is_ordered k ≡ true
  pub fit : (r : Register) → IsFit r k

issue_fits : (n : ℕ) (kind : ResponseKind) (reason : ℕ) (text : List ℕ) → IsResponse kind reason [] text → (r : Register) → IsFit r (change.Issue n kind reason text)
unfolding IsFit
issue_fits n kind reason text response r = response

submit_fits : (book : BookData) (s : Submission) (rows : List (List ℕ)) → IsFile s.format s.longest rows
    → (r : Register) → IsFit r (change.Submit (identity_of book s) s.format s.longest s.description.now rows)
unfolding IsFit
submit_fits book s rows file r = file

issue_order : (n : ℕ) (kind : ResponseKind) (reason : ℕ) (text : List ℕ) → IsResponse kind reason [] text → IsOrder (change.Issue n kind reason text)
issue_order n kind reason text response = record { ordered = refl; fit = issue_fits n kind reason text response }

decided_order : (verb : List ℕ) (n : ℕ) (k : Change) (result : Result Register Cause) → IsOrder k → IfAny (decided verb n k result).change IsOrder
decided_order verb n k (Ok after) it = it
decided_order verb n k (Err cause) it = tt

submitted_order : (book : BookData) (r : Register) (s : Submission) (rows : List (List ℕ)) → IsFileOf s rows → IfAny (submitted book r s rows).change IsOrder
submitted_order book r s rows file = by (is_some (partner_at s.to.now book.partners)) (is_outgoing r (identity_of book s)) (is_too_big r.limits rows) refl
  where
    submit : Change
    submit = change.Submit (identity_of book s) s.format s.longest s.description.now rows

    by : (known there big : Bool) → is_too_big r.limits rows ≡ big
        → (let d : Deed = cond known (cond there (refuses Duplicate) (cond big (refuses Limit) (registered (identity_of book s) s rows r))) (refuses Unknown) in
        IfAny d.change IsOrder)
    by false there big e = tt
    by true true big e = tt
    by true false true e = tt
    by true false false e =
        decided_order (codes "done: submit ") (1 + length r.outgoing) submit (apply r submit)
        (record { ordered = refl; fit = submit_fits book s rows (is_file s rows r.limits file e) })

pub deed_ordered : (book : BookData) (r : Register) (call : Operator) (deed : Deed) → IsDeed book r call deed → IfAny deed.change IsOrder
deed_ordered book r (operator.Submit s) deed (inl (rows, file, is)) = subst (λ (d : Deed). IfAny d.change IsOrder) (sym is) (submitted_order book r s rows file)
deed_ordered book r (operator.Submit s) deed (inr (none, is)) = subst (λ (d : Deed). IfAny d.change IsOrder) (sym is) tt
deed_ordered book r (operator.Release n) deed is =
    let issue = change.Issue n EndResponse 0 [] in
    subst (λ (d : Deed). IfAny d.change IsOrder) (sym is) (decided_order (codes "done: release ") n issue (apply r issue) (issue_order n EndResponse 0 [] (refl, refl, refl)))
deed_ordered book r (operator.Refuse n reason text) deed is =
    subst (λ (d : Deed). IfAny d.change IsOrder) (sym is) (by (nat_le reason 99 && nat_le (length text.now) 999))
  where
    issue : Change
    issue = change.Issue n NegativeEndResponse reason text.now

    by : (b : Bool) → (let d : Deed = cond b (makes (codes "done: refuse ") n issue r) (refuses Field) in IfAny d.change IsOrder)
    by true = decided_order (codes "done: refuse ") n issue (apply r issue) (issue_order n NegativeEndResponse reason text.now tt)
    by false = tt

-- what a call does at one book and register, and at each
record IsDoneSo (book : BookData) (r : Register) (call : Operator) (deed : Deed) : Type 0 where
  order : Order
  same : order.call ≡ call
  does : order.deed book r ≡ deed

order_of : (book : BookData) (r : Register) (call : Operator) (deed : Deed) → IsDeed book r call deed → IsDoneSo book r call deed
order_of book r (operator.Submit s) deed (inl (rows, file, is)) = record {
  order = record { call = operator.Submit s; deed = λ b q. submitted b q s rows; is = λ b q. inl (rows, file, refl) };
  same = refl;
  does = sym is;
}
order_of book r (operator.Submit s) deed (inr (none, is)) = record {
  order = record { call = operator.Submit s; deed = λ b q. refuses Field; is = λ b q. inr (none, refl) };
  same = refl;
  does = sym is;
}
order_of book r (operator.Release n) deed is = record {
  order = record { call = operator.Release n; deed = λ b q. released q n; is = λ b q. refl };
  same = refl;
  does = sym is;
}
order_of book r (operator.Refuse n reason text) deed is = record {
  order = record { call = operator.Refuse n reason text; deed = λ b q. refused q n reason text.now; is = λ b q. refl };
  same = refl;
  does = sym is;
}

pub deeds_are_orders : DeedsAreOrders
unfolding without_session
deeds_are_orders w call deed after none is made =
    let o = order_of w.one.book w.one.start call deed is in
    let left : register_after w.one.start (o.order.deed w.one.book w.one.start).change ≡ after =
    ap (λ (d : Deed). register_after w.one.start d.change) o.does ∙ made_after w.one.start deed.change after made in
    let happened : happens w (Orders o.order) ≡ happens_in w (Orders o.order) None = ap (happens_in w (Orders o.order)) none in
    record { order = o.order; same = o.same; does = happened ∙ ap (λ (r : Register). let v : World = record w { one = record w.one { start = r } } in v) left }
