-- The text of a partner book in a record: with X for each character of a password, or with digests in the place of the passwords.
use Rattle.std.specs.Prelude.{◌≡◌, ℕ, List, [], ◌∷◌, ◌++◌, Option, None, Some, fold, option_map, if◌then◌else◌}
use Rattle.std.specs.Int.{to_be_bytes, w64}
use Rattle.std.specs.List.{find, flat_map}
use Rattle.std.specs.Str.{bytes_eq}
use Rattle.hex.specs.Hex.{encode_lower}
use Rattle.sha2.specs.Sha256.{sha256}
use Rattle.oftp_contents.specs.Books.{Part, instead_in, is_string, parts_of, password_in, quote_of}
use Rattle.oftp_contents.specs.Escapes.{hidden_all, hidden_string}
use Rattle.oftp_contents.specs.declared.books.Quote.{Quote}
use Rattle.oftp_contents.specs.declared.books.Quote.TheVariants.{Double, Single}
use Rattle.oftp_contents.specs.declared.hiding.Shown.{Shown}
use Rattle.oftp_contents.specs.declared.hiding.Shown.TheVariants as shown

-- a string with X for the characters of the password, which may be spelled by their numbers in double quotes alone
abbrev pub crossed_out : Quote → List ℕ → List ℕ
crossed_out Double octets = hidden_string octets
crossed_out Single octets = hidden_all [] octets

abbrev pub crossed_out_part : Part → List ℕ
crossed_out_part part = if is_string part.place then crossed_out (quote_of part.place) part.octets else part.octets

-- the text of a book with X for each character of a password
unfoldable pub without_passwords : List ℕ → List ℕ
without_passwords book = flat_map crossed_out_part (parts_of book)

-- the digest of a password: the hexadecimal digits of the SHA-256 of a salt in eight octets and the password
unfoldable pub digest_text : ℕ → List ℕ → List ℕ
digest_text salt password = encode_lower (sha256 (to_be_bytes w64 salt ++ password))

abbrev pub hidden_part : ℕ → Part → List ℕ
hidden_part salt part = if is_string part.place then instead_in part (digest_text salt (password_in part)) else part.octets

-- the text of a book with digests in the place of its passwords
unfoldable pub hidden_book : ℕ → List ℕ → List ℕ
hidden_book salt book = flat_map (hidden_part salt) (parts_of book)

-- a password and its digest
pub record Known : Type 0 where
  pub password : List ℕ
  pub digest : List ℕ

abbrev pub known_password : ℕ → List ℕ → Known
known_password salt password = record { password = password; digest = digest_text salt password }

abbrev pub known_part : ℕ → Part → List Known
known_part salt part = if is_string part.place then known_password salt (password_in part) ∷ [] else []

-- the passwords of a book, and the empty one
unfoldable pub known_in : ℕ → List ℕ → List Known
known_in salt book = known_password salt [] ∷ flat_map (known_part salt) (parts_of book)

-- the first password with a digest
unfoldable pub found_in : List Known → List ℕ → Option (List ℕ)
found_in known digest = option_map (λ k. k.password) (find (λ k. bytes_eq k.digest digest) known)

-- a part with the password in the place of its digest, if it is known
abbrev pub shown_part : List Known → Part → Option (List ℕ)
shown_part known part = if is_string part.place then option_map (instead_in part) (found_in known (password_in part)) else Some part.octets

-- a text with another one behind it, if both are known
abbrev pub joined : Option (List ℕ) → Option (List ℕ) → Option (List ℕ)
joined None other = None
joined (Some text) other = option_map (λ rest. text ++ rest) other

abbrev pub shown_parts : List Known → List Part → Option (List ℕ)
shown_parts known parts = fold (λ text part. joined text (shown_part known part)) (Some []) parts

-- the text of a book by one in a record, with the passwords of another book
unfoldable pub shown_book : ℕ → List ℕ → List ℕ → Option (List ℕ)
shown_book salt other recorded = shown_parts (known_in salt other) (parts_of recorded)

-- what is said of a text that a part more makes: it is this one, or there is none
abbrev pub Gives : Shown → Option (List ℕ) → List ℕ → Type 0
Gives shown.Known text now = text ≡ Some now
Gives shown.Unknown text now = text ≡ None
