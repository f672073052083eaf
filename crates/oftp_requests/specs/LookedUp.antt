-- What a look-up in the register returns.
use Rattle.std.specs.Prelude.{◌≡◌, IfOk, Result}
use Rattle.oftp_register.specs.Offices.{View}
use Rattle.oftp_register.specs.Register.{Register}

-- it is this value of the register, if the office was open and its store reads what was written
abbrev pub IsLookedUp : {T E : Type 0} → (Register → T) → (before after : View) → Result T E → Type 0
IsLookedUp value before after result = after.clean → before.stands → IfOk result (λ found. found ≡ value before.register)
