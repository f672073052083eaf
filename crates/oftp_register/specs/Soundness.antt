-- The invariant of a register, and which changes preserve it.
use Rattle.std.specs.Prelude.{◌≡◌, ℕ, zero, suc, ◌+◌, ◌≤◌, true, false, List, [], ◌∷◌, length, take, map, Option, None, Some, is_some, Ok, ⊤, All}
use Rattle.std.specs.List.{list_any}
use Rattle.oftp_vfile.specs.declared.format.Format.{Format}
use Rattle.oftp_vfile.specs.declared.format.Format.TheVariants.{Fixed, Variable, Unstructured, Text}
use Rattle.oftp_vfile.specs.VirtualFile.{AreRows, IsLongest}
use Rattle.oftp_register.specs.declared.entry.Identity.{Identity}
use Rattle.oftp_register.specs.declared.entry.ResponseKind.{ResponseKind}
use Rattle.oftp_register.specs.declared.entry.ResponseKind.TheVariants.{EndResponse, NegativeEndResponse}
use Rattle.oftp_register.specs.declared.entry.IncomingState.{IncomingState}
use Rattle.oftp_register.specs.declared.entry.IncomingState.TheVariants.{Open, Whole}
use Rattle.oftp_register.specs.declared.change.Change.{Change}
use Rattle.oftp_register.specs.declared.change.Change.TheVariants as change
use Rattle.oftp_register.specs.Register.{Register, Incoming, Outgoing, Issued, Received, is_response_to, same_identity}
use Rattle.oftp_register.specs.Changes.{apply}
use Rattle.oftp_vfile.specs.declared.format.TheConstants.{BLOCK, MOST_ROWS}
use Rattle.oftp_register.specs.declared.fit.TheConstants.{MOST_FILES, MOST_OCTETS}

-- the rows of a file that isn't complete; in U and T each is a full block (RFC 5024, section 1.5.4)
abbrev pub AreFullRows : Format → ℕ → List (List ℕ) → Type 0
AreFullRows Fixed longest rows = All (λ (r : List ℕ). length r ≡ longest) rows
AreFullRows Variable longest rows = All (λ (r : List ℕ). length r ≤ longest) rows
AreFullRows Unstructured longest rows = All (λ (r : List ℕ). length r ≡ BLOCK) rows
AreFullRows Text longest rows = All (λ (r : List ℕ). length r ≡ BLOCK) rows

-- the rows of an incoming file fit its format; more may follow while it is open
abbrev pub FitsState : IncomingState → Format → ℕ → List (List ℕ) → Type 0
FitsState Open format longest rows = AreFullRows format longest rows
FitsState Whole format longest rows = AreRows format longest rows

-- only a whole file has a response
abbrev pub IsAnsweredWhole : {A : Type 0} → IncomingState → Option A → Type 0
IsAnsweredWhole Open response = is_some response ≡ false
IsAnsweredWhole Whole response = ⊤

-- An End-to-End Response has no reason, no creator and no text; a Negative End Response may have each (RFC 5024, sections 5.3.13 and
-- 5.3.14).
abbrev pub IsResponse : ResponseKind → ℕ → List ℕ → List ℕ → Type 0
IsResponse EndResponse reason creator text = (reason ≡ 0) × (creator ≡ []) × (text ≡ [])
IsResponse NegativeEndResponse reason creator text = ⊤

-- The response to an incoming file, if one was issued. The station itself is its creator.
abbrev pub IsSoundAnswer : Option Issued → Type 0
IsSoundAnswer None = ⊤
IsSoundAnswer (Some response) = IsResponse response.kind response.reason [] response.text

-- the invariant of a received response
abbrev pub IsSoundReceived : Received → Type 0
IsSoundReceived response = IsResponse response.kind response.reason response.creator response.text

-- the invariant of an incoming file
pub record IsSoundIncoming (f : Incoming) : Type 0 where
  pub longest : IsLongest f.format f.longest
  pub few : length f.rows ≤ MOST_ROWS
  pub fits : FitsState f.state f.format f.longest f.rows
  pub answered : IsAnsweredWhole f.state f.response
  pub answer : IsSoundAnswer f.response

-- the invariant of an outgoing file
pub record IsSoundOutgoing (f : Outgoing) : Type 0 where
  pub longest : IsLongest f.format f.longest
  pub few : length f.rows ≤ MOST_ROWS
  pub fits : AreRows f.format f.longest f.rows
  pub marked : f.mark ≤ length f.rows

-- no two of these identify the same file
abbrev pub AreNamedOnce : List Identity → Type 0
AreNamedOnce [] = ⊤
AreNamedOnce (x ∷ xs) = (list_any (λ y. same_identity x y) xs ≡ false) × AreNamedOnce xs

-- no two of these have one kind and answer one file
abbrev pub AreFiledOnce : List Received → Type 0
AreFiledOnce [] = ⊤
AreFiledOnce (x ∷ xs) = (list_any (λ y. is_response_to y.kind y.identity x) xs ≡ false) × AreFiledOnce xs

-- the invariant of a register
pub record IsSound (r : Register) : Type 0 where
  pub few : r.limits.files ≤ MOST_FILES
  pub small : r.limits.octets ≤ MOST_OCTETS
  pub incoming : All IsSoundIncoming r.incoming
  pub outgoing : All IsSoundOutgoing r.outgoing
  pub received : All IsSoundReceived r.received
  pub incoming_once : AreNamedOnce (map (λ (f : Incoming). f.identity) r.incoming)
  pub outgoing_once : AreNamedOnce (map (λ (f : Outgoing). f.identity) r.outgoing)
  pub received_once : AreFiledOnce r.received

-- a fact of the entry with a number, if there is one
abbrev pub AtNumber : {A : Type 0} → (A → Type 0) → ℕ → List A → Type 0
AtNumber P zero entries = ⊤
AtNumber P (suc n) [] = ⊤
AtNumber P (suc zero) (x ∷ entries) = P x
AtNumber P (suc (suc n)) (x ∷ entries) = AtNumber P (suc n) entries

-- the rows of a whole file
pub record IsFile (format : Format) (size : ℕ) (rows : List (List ℕ)) : Type 0 where
  pub longest : IsLongest format size
  pub few : length rows ≤ MOST_ROWS
  pub fits : AreRows format size rows

-- a premise on an open file
abbrev pub IfOpen : IncomingState → Type 0 → Type 0
IfOpen Open Asked = Asked
IfOpen Whole Asked = ⊤

-- the first `count` rows of an open file fit this format
abbrev pub MayGoOn : Format → ℕ → ℕ → Incoming → Type 0
MayGoOn format size count file = IfOpen file.state (count ≤ length file.rows → AreFullRows format size (take count file.rows))

-- a file that is another one, or may go on like this
unfoldable pub MayStart : Identity → Format → ℕ → ℕ → Incoming → Type 0
MayStart identity format size count file = same_identity file.identity identity ≡ true → MayGoOn format size count file

-- rows that may be appended to an open file
pub record GoesOn (rows : List (List ℕ)) (file : Incoming) : Type 0 where
  pub few : length file.rows + length rows ≤ MOST_ROWS
  pub fits : AreFullRows file.format file.longest rows

-- the last rows of an open file
pub record Ends (rows : List (List ℕ)) (file : Incoming) : Type 0 where
  pub few : length file.rows + length rows ≤ MOST_ROWS
  pub fits : AreRows file.format file.longest rows

-- The premise of a change. Its longest record and its response are possible ones. The file that it leaves has at most 1,000,000 rows,
-- which fit its format and longest record.
unfoldable pub IsFit : Register → Change → Type 0
IsFit r (change.Submit identity format longest description rows) = IsFile format longest rows
IsFit r (change.Start identity format longest description count) =
    IsLongest format longest × All (MayStart identity format longest count) r.incoming
IsFit r (change.Keep n rows) = AtNumber (λ (f : Incoming). IfOpen f.state (GoesOn rows f)) n r.incoming
IsFit r (change.Close n rows) = AtNumber (λ (f : Incoming). IfOpen f.state (Ends rows f)) n r.incoming
IsFit r (change.GiveUp n) = ⊤
IsFit r (change.File kind identity reason creator text) = IsResponse kind reason creator text
IsFit r (change.Issue n kind reason text) = IsResponse kind reason [] text
IsFit r (change.Mark n rows) = ⊤
IsFit r (change.BeginClosing n) = ⊤
IsFit r (change.HandOver n) = ⊤
IsFit r (change.Refuse n reason) = ⊤
IsFit r (change.Reopen n) = ⊤
IsFit r (change.Send n) = ⊤

-- each change is fit when it is made
unfoldable pub AreFit : Register → List Change → Type 0
AreFit r [] = ⊤
AreFit r (k ∷ ks) = IsFit r k × ((s : Register) → apply r k ≡ Ok s → AreFit s ks)
