use Rattle.oftp_database.proofs.opening.gained.Goals as goal

pub returns : goal.returns
returns c = rw c.new.ensures.office (record { gained = c.in_ok-office.ensures.gained })
