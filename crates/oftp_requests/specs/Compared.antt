-- What a comparison knows of an expected content and the octets that were written.
use Rattle.std.specs.Prelude.{◌≡◌, ◌≢◌, ℕ, List, ◌++◌, MatchOption}
use Rattle.oftp_requests.specs.declared.comparing.Comparison.{Comparison}

-- after these octets were written, the rest of the content is still expected, or else the content doesn't begin with them
abbrev pub Compares : List ℕ → List ℕ → Comparison → Type 0
Compares content written c = MatchOption c.rest ((more : List ℕ) → content ≢ written ++ more) (λ rest. content ≡ written ++ rest.now)
