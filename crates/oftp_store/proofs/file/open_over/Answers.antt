use Rattle.std.proofs.Common.{refl, sym, subst, inl, arith}
use Rattle.sqlite.specs.State.{HasCleanDisk}
use Rattle.sqlite.specs.Files.{file_state}
use Rattle.oftp_tables.specs.Opening.{IsAt, IsStoreOf}
use Rattle.oftp_store.specs.Opens.{to_open}
use Rattle.oftp_store.proofs.BlankLemmas.{no_table_is_read}
use Rattle.oftp_store.proofs.OpenLemmas.{asks_to_open, both_err, has_after, holds_taken, is_at, is_at_none, is_read, matched_ok, refuses_files, same_openable}
use Rattle.oftp_store.proofs.file.open_over.Goals as goal

pub returns-clause-limits : goal.returns-clause-limits
returns-clause-limits g c = matched_ok _ _ c.open.result _ c.open.ensures.opened (λ o opens. opens.0)

pub returns-clause-faults : goal.returns-clause-faults
returns-clause-faults g c = matched_ok _ _ c.open.result _ c.open.ensures.opened (λ o opens. opens.1)

pub returns-clause-found : goal.returns-clause-found
returns-clause-found g c = matched_ok _ _ c.open.result _ c.open.ensures.opened (λ o opens clean r db is sound holds stands.
    has_after _ _ _ _ _ _ r opens.2 clean is (λ early.
    let read = is_read _ _ (c.requires.opened early) (c.requires.reads early).holds in
    is_at _ _ read r (sound, subst (IsStoreOf r) (sym (read.holds db holds)) stands)))

pub returns-clause-fresh : goal.returns-clause-fresh
returns-clause-fresh g c = matched_ok _ _ c.open.result _ c.open.ensures.opened (λ o opens clean none.
    has_after _ _ _ _ _ _ _ opens.2 clean refl (λ early.
    let found = c.requires.reads early in
    let read = is_read _ _ (c.requires.opened early) found.holds in
    is_at_none _ _ read c.args.limits c.requires.files c.requires.octets (no_table_is_read _ _ read found.reads none)))

pub returns-clause-known : goal.returns-clause-known
returns-clause-known g c = matched_ok _ _ c.open.result _ c.open.ensures.opened (λ o opens clean.
    holds_taken _ _ _ _ _ _ _ same_openable opens.2 clean (λ early. is_read _ _ (c.requires.opened early) (c.requires.reads early).holds))

pub returns-clause-refused : goal.returns-clause-refused
returns-clause-refused g c = both_err _ _ c.open.result _ _ c.open.ensures.opened (λ other. c.open.ensures.foreign other.0 other.1) (λ e refuses foreign clean.
    let early : HasCleanDisk (file_state c.args.conn) = omega (arith, refuses.clean, clean) in
    let found = c.requires.reads early in
    let read = is_read _ _ (c.requires.opened early) found.holds in
    refuses_files to_open IsAt _ _ _ _ asks_to_open refuses clean read c.leaves_committed.ensures foreign
    (λ none is. (refuses.wrong clean is).0 (inl (no_table_is_read _ _ read found.reads none))) (is_at _ _ read))
