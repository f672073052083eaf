-- What a port does to the reader or the writer in it.
use Rattle.std.specs.Prelude.{◌≡◌, ℕ, ◌+◌, ◌-◌, ◌<◌, ◌≤◌, ◌%◌, ◌^◌, ◌⊎◌, Bool, true, false, List, length, take, Option, None, Some}
use Rattle.std.specs.Io.KnownBytes.{Appends, Keeps, Consumes, IsAtEnd}
use Rattle.oftp_io.specs.declared.port.Port.{Port}

module _ {X : Type 0} where
  -- the end of the input: the reader has no octet left, or the port has given as many as its limit allows
  pub record IsDone (remaining : X → Option (List ℕ)) (port : Port X) : Type 0 where
    pub ended : port.ended ≡ true
    pub cause : (port.most ≤ port.moved) ⊎ IsAtEnd (remaining port.inner)

  -- a read that gave n octets, at the beginning of the slice; n is 0 only at the end
  pub record Gives (remaining : X → Option (List ℕ)) (old new : Port X) (piece : List ℕ) (n : ℕ) : Type 0 where
    pub fits : n ≤ length piece
    pub bytes : Consumes (remaining old.inner) (remaining new.inner) (take n piece)
    pub moved : new.moved ≡ old.moved + n
    pub within : n ≤ old.most - old.moved
    pub end : n ≡ 0 → IsDone remaining new
    pub on : 0 < n → new.ended ≡ old.ended
    pub faults : new.faults ≡ old.faults
    pub most : new.most ≡ old.most

  -- a read at which the reader returned an error
  pub record GivesNothing (remaining : X → Option (List ℕ)) (old new : Port X) : Type 0 where
    pub bytes : Keeps (remaining old.inner) (remaining new.inner)
    pub moved : new.moved ≡ old.moved
    pub faults : new.faults ≡ (old.faults + 1) % 2 ^ 64
    pub most : new.most ≡ old.most
    pub on : new.ended ≡ old.ended

  abbrev pub Reads : (X → Option (List ℕ)) → Port X → Port X → List ℕ → Option ℕ → Type 0
  Reads remaining old new piece None = GivesNothing remaining old new
  Reads remaining old new piece (Some n) = Gives remaining old new piece n

  -- no write changes the limit of a port, nor whether the end was read
  pub record IsSamePort (old new : Port X) : Type 0 where
    pub most : new.most ≡ old.most
    pub on : new.ended ≡ old.ended

  -- a write that took n octets of the slice
  pub record Takes (contents : X → Option (List ℕ)) (old new : Port X) (piece : List ℕ) (n : ℕ) : Type 0 where
    pub some : 0 < n
    pub fits : n ≤ length piece
    pub bytes : Appends (contents old.inner) (contents new.inner) (take n piece)
    pub moved : new.moved ≡ (old.moved + n) % 2 ^ 64
    pub faults : new.faults ≡ old.faults
    pub same : IsSamePort old new

  -- a write at which the writer returned an error
  pub record TakesNothing (contents : X → Option (List ℕ)) (old new : Port X) : Type 0 where
    pub bytes : Keeps (contents old.inner) (contents new.inner)
    pub moved : new.moved ≡ old.moved
    pub faults : new.faults ≡ (old.faults + 1) % 2 ^ 64
    pub same : IsSamePort old new

  abbrev pub Writes : (X → Option (List ℕ)) → Port X → Port X → List ℕ → Option ℕ → Type 0
  Writes contents old new piece None = TakesNothing contents old new
  Writes contents old new piece (Some n) = Takes contents old new piece n

  -- the writer took these octets
  pub record Wrote (contents' : X → Option (List ℕ)) (old new : Port X) (octets : List ℕ) : Type 0 where
    pub contents : Appends (contents' old.inner) (contents' new.inner) octets
    pub moved : new.moved % 2 ^ 64 ≡ (old.moved + length octets) % 2 ^ 64

  pub record SentAll (contents : X → Option (List ℕ)) (old new : Port X) (octets : List ℕ) : Type 0 where
    pub wrote : Wrote contents old new octets
    pub faults : new.faults ≡ old.faults
    pub same : IsSamePort old new

  pub record SentPart (contents : X → Option (List ℕ)) (old new : Port X) (octets : List ℕ) : Type 0 where
    pub count : ℕ
    pub short : count < length octets
    pub wrote : Wrote contents old new (take count octets)
    pub faults : new.faults ≡ (old.faults + 1) % 2 ^ 64
    pub same : IsSamePort old new

  -- all octets are out, or the writer returned an error
  abbrev pub Sent : (X → Option (List ℕ)) → Port X → Port X → List ℕ → Bool → Type 0
  Sent contents old new octets true = SentAll contents old new octets
  Sent contents old new octets false = SentPart contents old new octets

  -- the writer took some octets
  pub record Puts (contents : X → Option (List ℕ)) (old new : Port X) : Type 0 where
    pub octets : List ℕ
    pub wrote : Wrote contents old new octets
    pub same : IsSamePort old new
