-- The tables of a register, where one of them has other rows.
use Rattle.std.proofs.Common.{◌≡◌, ◌≢◌, ◌==◌, ℕ, List, inl, inr, sym, subst, ◌∙◌}
use Rattle.std.proofs.lemmas.Bool.{cases_Bool, eqb-false, eqb-true}
use Rattle.sqlite.specs.Order.{Row}
use Rattle.sqlite.specs.Tree.{Trees, with_tree}
use Rattle.oftp_register.specs.Register.{Register}
use Rattle.oftp_tables.specs.Tables.{HoldIncoming, HoldOutgoing, HoldReceived, Tables}
use Rattle.oftp_tables.specs.Statements.{Others}

module _ (tree : ℕ) (rows : List Row) (old new : Trees) (is : new tree ≡ rows) where
  at : (k : ℕ) → (k ≢ tree → new k ≡ old k) → new k ≡ with_tree old tree rows k
  at k other =
      elim (cases_Bool (k == tree)) [
        | inl same ↦ rw same (subst (λ m. new m ≡ rows) (sym (eqb-true k tree same)) is)
        | inr differs ↦ rw differs (other (eqb-false k tree differs))
      ]

  -- so the new tables represent a register if these do
  pub lands : (s : Register) → Others tree old new → Tables s (with_tree old tree rows) → Tables s new
  lands s others t =
      let mid = with_tree old tree rows in
      let holds = λ (in_file in_row issued : List Row). HoldIncoming s.incoming in_file in_row issued in
      record {
        about = at 0 others.0 ∙ t.about;
        incoming =
            subst (holds (new 1) (new 3)) (sym (at 9 others.1.1.1.1.1.0))
            (subst (λ in_row. holds (new 1) in_row (mid 9)) (sym (at 3 others.1.1.0)) (subst (λ in_file. holds in_file (mid 3) (mid 9)) (sym (at 1 others.1.0)) t.incoming));
        outgoing = subst (HoldOutgoing s.outgoing (new 5)) (sym (at 7 others.1.1.1.1.0)) (subst (λ out_file. HoldOutgoing s.outgoing out_file (mid 7)) (sym (at 5 others.1.1.1.0)) t.outgoing);
        received =
            subst (HoldReceived s.received (new 10)) (sym (at 12 others.1.1.1.1.1.1.1.0))
            (subst (λ received. HoldReceived s.received received (mid 12)) (sym (at 10 others.1.1.1.1.1.1.0)) t.received);
      }
