-- The value at a key of a table: missing, of the wrong type, not valid, or valid.
use Rattle.std.specs.Prelude.{◌≡◌, ◌⊎◌, ℕ, ℤ, pos, nat_abs, int_le, Bool, ◌&&◌, if◌then◌else◌, List, Option, Some, None, Result, Ok, Err, MatchResult, codes}
use Rattle.toml.specs.Data.{Data, Members, get_member, as_str, as_integer, as_bool, as_table}
use Rattle.std.specs.Str.{bytes_eq}
use Rattle.oftp_wire.specs.declared.command.Mode.{Mode}
use Rattle.oftp_wire.specs.declared.command.Mode.TheVariants.{Send, Receive, Both}
use Rattle.oftp_partners.specs.declared.fault.BookFault.{BookFault}
use Rattle.oftp_partners.specs.declared.fault.BookFault.TheVariants.{MissingKey, WrongKind, BadCode, BadNumber, Memory}
use Rattle.oftp_partners.specs.Fields.{is_name, is_code, is_address}

infixl 10 ◌>>=◌
-- the next step, after a step without a fault
abbrev pub ◌>>=◌ : {A B : Type 0} → Result A BookFault → (A → Result B BookFault) → Result B BookFault
(Ok x) >>= f = f x
(Err e) >>= f = Err e

-- the value, or a fault where there is none
abbrev pub else_fault : {A : Type 0} → BookFault → Option A → Result A BookFault
else_fault e (Some x) = Ok x
else_fault e None = Err e

-- a value if the test holds, or else the fault
abbrev pub if_so : {A : Type 0} → Bool → BookFault → A → Result A BookFault
if_so b e x = if b then Ok x else Err e

-- a result, if memory doesn't run out
abbrev pub Answers : {A : Type 0} → Result A BookFault → Result A BookFault → Type 0
Answers result expected = MatchResult result (λ x. expected ≡ Ok x) (λ e. (e ≡ Memory) ⊎ (expected ≡ Err e))

-- the text, if it is a code
unfoldable pub code_of : List ℕ → Result (List ℕ) BookFault
code_of text = if_so (is_code text) BadCode text

-- the text, if it is a password
unfoldable pub password_of : List ℕ → Result (List ℕ) BookFault
password_of text = if_so (is_name 8 text) BadCode text

-- the text, if it is an address
unfoldable pub address_of : List ℕ → Result (List ℕ) BookFault
address_of text = if_so (is_address text) BadCode text

-- the mode of a letter
unfoldable pub mode_of : List ℕ → Result Mode BookFault
mode_of text = if bytes_eq text (codes "S") then Ok Send else (if bytes_eq text (codes "R") then Ok Receive else (if bytes_eq text (codes "B") then Ok Both else Err BadCode))

-- the integer, if it is within two bounds
unfoldable pub number_within : ℕ → ℕ → ℤ → Result ℕ BookFault
number_within low high number = if_so (int_le (pos low) number && int_le number (pos high)) BadNumber (nat_abs number)

-- the integer, if it is a Data Exchange Buffer size
unfoldable pub buffer_size_of : ℤ → Result ℕ BookFault
buffer_size_of number = number_within 128 16384 number

-- the integer, if it is a Credit
unfoldable pub credit_of : ℤ → Result ℕ BookFault
credit_of number = number_within 1 99 number

-- the value at a key
unfoldable pub data_at : List ℕ → Members → Result Data BookFault
data_at key members = else_fault MissingKey (get_member key members)

-- the text at a key
unfoldable pub text_at : List ℕ → Members → Result (List ℕ) BookFault
text_at key members = data_at key members >>= λ value. else_fault WrongKind (as_str value)

-- the integer at a key
unfoldable pub integer_at : List ℕ → Members → Result ℤ BookFault
integer_at key members = data_at key members >>= λ value. else_fault WrongKind (as_integer value)

-- true or false at a key
unfoldable pub flag_at : List ℕ → Members → Result Bool BookFault
flag_at key members = data_at key members >>= λ value. else_fault WrongKind (as_bool value)

-- the table at a key
unfoldable pub table_at : List ℕ → Members → Result Members BookFault
table_at key members = data_at key members >>= λ value. else_fault WrongKind (as_table value)

-- the code at a key
unfoldable pub code_at : List ℕ → Members → Result (List ℕ) BookFault
code_at key members = text_at key members >>= λ text. code_of text

-- the password at a key
unfoldable pub password_at : List ℕ → Members → Result (List ℕ) BookFault
password_at key members = text_at key members >>= λ text. password_of text

-- the mode at a key
unfoldable pub mode_at : List ℕ → Members → Result Mode BookFault
mode_at key members = text_at key members >>= λ text. mode_of text

-- the address at a key
unfoldable pub address_at : List ℕ → Members → Result (List ℕ) BookFault
address_at key members = text_at key members >>= λ text. address_of text

-- the Data Exchange Buffer size at a key
unfoldable pub buffer_size_at : List ℕ → Members → Result ℕ BookFault
buffer_size_at key members = integer_at key members >>= λ number. buffer_size_of number

-- the Credit at a key
unfoldable pub credit_at : List ℕ → Members → Result ℕ BookFault
credit_at key members = integer_at key members >>= λ number. credit_of number
