-- What an office over a database shows, and what a crash leaves of it.
use Rattle.std.specs.Prelude.{◌≡◌, ℕ, IsTrue}
use Rattle.std.proofs.Common.{◌∙◌, sym, ap, subst}
use Rattle.sqlite.specs.Tree.{Trees}
use Rattle.sqlite.specs.Effect.{Database}
use Rattle.sqlite.specs.State.{State, HasCleanDisk}
use Rattle.sqlite_catalog.specs.Listing.{IsSound as IsSoundStore}
use Rattle.oftp_vfile.specs.declared.limits.Limits.{Limits}
use Rattle.oftp_register.specs.Offices.{View}
use Rattle.oftp_tables.specs.Tables.{register_in}
use Rattle.oftp_tables.specs.Stands.{IsContentOf, Stands}

-- the view of an office over a connection, with these limits and this count of errors
abbrev pub view_of : Limits → ℕ → State → View
view_of limits faults s = record {
  register = register_in limits s.now.trees;
  told = faults;
  clean = HasCleanDisk s;
  is_open = IsTrue s.is_open;
  stands = Stands limits s;
  opens = λ h. h.is_open;
  Content = Trees;
  may_leave = s.may_leave;
  holds = IsContentOf;
}

-- the last commit is the content of the register
pub content_alone : (limits : Limits) (s : State) → Stands limits s → (db : Trees) → db ≡ s.committed.trees → IsContentOf db (register_in limits s.now.trees)
content_alone limits s stands db is =
    let same : db ≡ s.now.trees = is ∙ sym (ap (λ (d : Database). d.trees) stands.settled) in
    subst (λ t. IsContentOf t (register_in limits s.now.trees)) (sym same) (record {
      store = subst (λ schema. IsSoundStore schema s.now.trees) stands.holds.schema stands.holds.store;
      tables = stands.holds.tables;
      sound = stands.holds.sound;
    })
