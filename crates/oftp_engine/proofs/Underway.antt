-- A loop of the engine: what each iteration knows of what is out, of the session and of the office.
use Rattle.std.proofs.Common.{◌≡◌, ◌≢◌, ℕ, List, Option}
use Rattle.oftp_register.specs.Offices.{View}
use Rattle.oftp_session.specs.Calls.{Seen}
use Rattle.oftp_session.specs.Standings.{Broken}
use Rattle.oftp_io.specs.declared.port.Port.{Port}
use Rattle.oftp_io.specs.Ports.{Puts}

-- `Goes` is how far it went
pub record IsUnderway {W : Type 0} (contents : W → Option (List ℕ)) (old now : View) (front here : Port W) (seen : Seen) (Goes : Type 0) : Type 0 where
  pub out : Puts contents front here
  pub faults : here.faults ≡ front.faults
  pub unbroken : seen.standing ≢ Broken
  pub clean : now.clean → old.clean
  pub goes : Goes
