-- A record that is read from octets that come in pieces.
use Rattle.std.specs.Prelude.{◌≡◌, ◌≤◌, ℕ, List, drop, length}
use Rattle.oftp_record.specs.Next.{ArePassed, IsNext, Next, Whole, Ends, Cut, Changed, passed_noted}
use Rattle.oftp_record.specs.declared.eight_read.PassedEntry.{PassedEntry}
use Rattle.oftp_record.specs.declared.stream.Look.{Look}
use Rattle.oftp_record.specs.declared.stream.Look.TheVariants as looks

-- the digest of the entry that was told last, its content, and the octets behind it
pub record Streamed : Type 0 where
  pub digest : List ℕ
  pub content : List ℕ
  pub rest : List ℕ

-- how a stream holds them: the content stands at a place of its octets, what wasn't told is behind another, and that is what was read ahead of
pub record IsStreamed (octets : List ℕ) (begin end at : ℕ) (digest : List ℕ) (ahead : List PassedEntry) : Type 0 where
  pub begins : begin ≤ end
  pub ends : end ≤ length octets
  pub within : at ≤ length octets
  pub passed : ArePassed digest (drop at octets) ahead

-- what is told of octets by a look at them
abbrev pub shown_look : List ℕ → Look → Next
shown_look octets (looks.Entry passed) = Whole (passed_noted octets passed) passed.length passed.digest.0
shown_look octets looks.End = Ends
shown_look octets (looks.Cut lacking) = Cut lacking
shown_look octets (looks.Changed sign) = Changed sign

-- how a stream stands behind a look: behind the entry that it told, or as before
abbrev pub LooksOn : Streamed → Streamed → Look → Type 0
LooksOn old new (looks.Entry passed) = new ≡ record { digest = passed.digest.0; content = (passed_noted old.rest passed).content; rest = drop passed.length old.rest }
LooksOn old new looks.End = new ≡ old
LooksOn old new (looks.Cut lacking) = new ≡ old
LooksOn old new (looks.Changed sign) = new ≡ old
