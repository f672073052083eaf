-- What is said of an office that was just opened goes on to whoever takes it over.
use Rattle.std.proofs.Common.{◌≡◌, ◌∙◌, ap, subst, sym, Result, Err}
use Rattle.std.specs.Result.{IfErr, IsErrAnd}
use Rattle.std.proofs.lemmas.Result.{err_from_is_err_and}
use Rattle.sqlite.specs.Files.{HoldsDatabase}
use Rattle.sqlite.specs.Recovery.{Image}
use Rattle.sqlite.specs.State.{HasCleanDisk}
use Rattle.sqlite_trees.specs.declared.store.Store.{Ghosts}
use Rattle.oftp_store.specs.Opens.{HoldsTaken}
use Rattle.oftp_store.specs.Shown.{database_of, limits_of}
use Rattle.oftp_store.specs.declared.office.SqlOffice.{SqlOffice}
use Rattle.oftp_listing.specs.Remembering.{IsBlank}
use Rattle.oftp_listing.specs.declared.remembering.RememberingOffice.{RememberingOffice}
use Rattle.oftp_life.specs.Lives.{LifeData, life_begun_with}
use Rattle.oftp_files.specs.declared.limits.TheConstants.{LIMITS}
use Rattle.oftp_database.specs.Attempts.{Takes}
use Rattle.oftp_database.specs.Openings.{IsGained, Shows}
use Rattle.oftp_database.specs.declared.opening.Opening.{Opening}

-- the office over a database that shows the files, with nothing remembered, is gained
pub gained : (how : Opening) {S : Type 0} (g : Ghosts S) (image : Image) (inside : SqlOffice S g) (office : RememberingOffice (SqlOffice S g)) → office.office ≡ inside
    → IsBlank office.counts → limits_of inside ≡ LIMITS → (HasCleanDisk (database_of g inside) → HoldsTaken (Takes how) (HoldsDatabase image))
    → (HasCleanDisk (database_of g inside) → Shows how image (database_of g inside)) → IsGained how g image office
gained how {S} g image inside office is blank limits taken shows =
    record {
      blank = blank;
      limits = ap (λ (o : SqlOffice S g). limits_of o) is ∙ limits;
      taken = subst (λ (o : SqlOffice S g). HasCleanDisk (database_of g o) → HoldsTaken (Takes how) (HoldsDatabase image)) (sym is) taken;
      shows = subst (λ (o : SqlOffice S g). HasCleanDisk (database_of g o) → Shows how image (database_of g o)) (sym is) shows;
    }

-- the office with which a life begins is the one that it was given
pub began_with : {O : Type 0} (Has' : O → Type 0) (l : LifeData O) (office : O) → l ≡ life_begun_with office → Has' office → Has' l.began
began_with {O} Has' l office is has = subst Has' (sym (ap (λ (x : LifeData O). x.began) is)) has

-- what is said of an error that `?` passes on
pub passed_on : {X E : Type 0} (Says : E → Type 0) (fault : E) (r : Result X E) → IsErrAnd r (λ x. x ≡ fault) → Says fault → IfErr r Says
passed_on {X} {E} Says fault r is says =
    let e = err_from_is_err_and r is in
    subst (λ (y : Result X E). IfErr y Says) (sym (e.1 ∙ ap (λ (x : E). Err x) e.2)) says
