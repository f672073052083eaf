-- A stream of frames (RFC 5024, section 8): the frame at its beginning, and the stream as a whole.
use Rattle.std.specs.Prelude.{◌≡◌, ⊤, ℕ, ◌+◌, ◌-◌, ◌≤◌, nat_lt, ◌==◌, ◌||◌, if◌then◌else◌, List, [], ◌∷◌, ◌++◌, length, take, drop, map, Option, Some, None, option_copied, Result, Ok, Err}
use Rattle.std.specs.Borrow.{Bor}
use Rattle.std.specs.Global.{Vec}
use Rattle.std.specs.List.{flat_map, AllByRecursion}
use Rattle.oftp_codec.specs.declared.frame_fault.FrameFault.{FrameFault}
use Rattle.oftp_codec.specs.declared.frame_fault.FrameFault.TheVariants.{BadHeader, BadLength}
use Rattle.oftp_codec.specs.Header.{frame, length_in, IsCommand}

-- the beginning of octets: a whole frame of n octets, a part of one, or no frame
pub data Head : Type 0 where
  Whole : ℕ → Head
  Waits : Head
  Bad : FrameFault → Head

-- the beginning of the octet 10 (hexadecimal) with these octets
unfoldable pub sized : ℕ → List ℕ → Head
sized limit [] = Waits
sized limit (a ∷ []) = Waits
sized limit (a ∷ b ∷ []) = Waits
sized limit (a ∷ b ∷ c ∷ rest) =
    let n = length_in a b c in
    if nat_lt n 5 || nat_lt limit n then Bad BadLength else (if nat_lt (length rest + 4) n then Waits else Whole n)

-- the beginning of octets, where no frame has more than `limit` octets
unfoldable pub front : ℕ → List ℕ → Head
front limit [] = Waits
front limit (first ∷ rest) = if first == 16 then sized limit rest else Bad BadHeader

-- the length of the first frame
abbrev pub len_of : Head → Result (Option ℕ) FrameFault
len_of (Whole n) = Ok (Some n)
len_of Waits = Ok None
len_of (Bad fault) = Err fault

-- a whole frame has a header and a command, and is within the octets
abbrev pub IsWithin : ℕ → Head → Type 0
IsWithin count (Whole n) = (5 ≤ n) × (n ≤ count)
IsWithin count Waits = ⊤
IsWithin count (Bad fault) = ⊤

-- a stream that is being split
pub record Stream : Type 0 where
  pub limit : ℕ  -- the greatest length of a frame
  pub rest : List ℕ  -- the octets that were fed and not handed out
  pub told : Option FrameFault  -- the fault that was told
  pub room : ℕ  -- up to how many octets memory was taken beforehand
  pub capacity : ℕ  -- for how many octets there is memory

-- the stream after its next n octets
abbrev pub past : Stream → ℕ → Stream
past s n = record s { rest = drop n s.rest }

-- the stream after an error was returned
abbrev pub with_fault : Stream → FrameFault → Stream
with_fault s fault = record s { told = Some fault }

-- the command in a whole frame of n octets
abbrev pub command_in : ℕ → List ℕ → List ℕ
command_in n octets = take (n - 4) (drop 4 octets)

-- the result of `next`, by the beginning of the stream
abbrev pub next_at : Stream → Head → Result (Option (List ℕ)) FrameFault
next_at s (Whole n) = Ok (Some (command_in n s.rest))
next_at s Waits = Ok None
next_at s (Bad fault) = Err fault

-- the stream after `next`, by its beginning
abbrev pub left_at : Stream → Head → Stream
left_at s (Whole n) = past s n
left_at s Waits = s
left_at s (Bad fault) = with_fault s fault

-- the result of `next`, where this error was returned before
abbrev pub next_of : Stream → Option FrameFault → Result (Option (List ℕ)) FrameFault
next_of s None = next_at s (front s.limit s.rest)
next_of s (Some fault) = Err fault

-- the stream after `next`, where this error was returned before
abbrev pub left_of : Stream → Option FrameFault → Stream
left_of s None = left_at s (front s.limit s.rest)
left_of s (Some fault) = s

-- what a caller of `next` sees
abbrev pub shown : Result (Option (Bor (List ℕ))) FrameFault → Result (Option (List ℕ)) FrameFault
shown (Ok found) = Ok (option_copied found)
shown (Err fault) = Err fault

-- the octets don't begin with a whole frame
abbrev pub NoFrame : ℕ → List ℕ → Type 0
NoFrame limit s = (m more : List ℕ) → IsCommand limit m → s ≡ frame m ++ more → ⊥

-- the error of the length in the octet 10 (hexadecimal) with these octets
abbrev pub length_fault : ℕ → List ℕ → Option FrameFault
length_fault limit [] = None
length_fault limit (a ∷ []) = None
length_fault limit (a ∷ b ∷ []) = None
length_fault limit (a ∷ b ∷ c ∷ rest) =
    let n = length_in a b c in
    if nat_lt n 5 || nat_lt limit n then Some BadLength else None

-- the error of octets that don't begin with a whole frame
abbrev pub rest_fault : ℕ → List ℕ → Option FrameFault
rest_fault limit [] = None
rest_fault limit (first ∷ rest) = if first == 16 then length_fault limit rest else Some BadHeader

-- the octets begin with a whole frame, and m is its command
abbrev pub BeginsWith : ℕ → List ℕ → List ℕ → Type 0
BeginsWith limit s m = IsCommand limit m × (s ≡ frame m ++ drop (length m + 4) s)

-- the octets don't begin with a whole frame, and have this error, or none
abbrev pub IsRest : ℕ → List ℕ → Option FrameFault → Type 0
IsRest limit s fault = NoFrame limit s × (rest_fault limit s ≡ fault)

-- the stream is the frames of these commands, and then a rest that doesn't begin with a whole frame
pub record Front (limit : ℕ) (stream : List ℕ) (commands : List (List ℕ)) (rest : List ℕ) : Type 0 where
  pub whole : stream ≡ flat_map frame commands ++ rest
  pub each : AllByRecursion (IsCommand limit) commands
  pub last : NoFrame limit rest

-- what is found at the beginning of octets, in the words of `Front`
abbrev pub Finds : ℕ → List ℕ → Result (Option ℕ) FrameFault → Type 0
Finds limit s (Ok (Some n)) = (5 ≤ n) × (n ≤ length s) × IsCommand limit (command_in n s) × (s ≡ frame (command_in n s) ++ drop n s)
Finds limit s (Ok None) = IsRest limit s None
Finds limit s (Err fault) = IsRest limit s (Some fault)

-- the beginning of a rest with this error
abbrev pub head_of : Option FrameFault → Head
head_of None = Waits
head_of (Some fault) = Bad fault

-- the octets of commands that were copied
abbrev pub copied : List (Vec ℕ) → List (List ℕ)
copied commands = map (λ c. c.items) commands

-- the whole stream in these pieces
abbrev pub joined : List (Bor (List ℕ)) → List ℕ
joined pieces = flat_map (λ p. p.now) pieces

-- what was read of a stream: it is the frames of these commands, and then a rest with this error, or with none
pub record Reads (limit : ℕ) (stream : List ℕ) (commands : List (List ℕ)) (fault : Option FrameFault) : Type 0 where
  pub rest : List ℕ
  pub front : Front limit stream commands rest
  pub fault_is : rest_fault limit rest ≡ fault
