-- The length of a canonical encoding.
use Rattle.std.proofs.Common.{◌≡◌, ℕ, ◌≤◌, false, List, ◌∷◌, length, ap, append-nil, arith}
use Rattle.oftp_wire.specs.declared.command.Command.{Command}
use Rattle.oftp_wire.specs.declared.command.Command.TheVariants as commands
use Rattle.oftp_codec.specs.Spelling.{IsFit, Canon, is_data}
use Rattle.oftp_codec.proofs.SpellingLaws.{canon_spells}

-- SFID with 999 octets of description is the longest command without a payload
pub canon_short : (c : Command) → IsFit c → is_data c ≡ false → length (Canon c) ≤ 1164
canon_short commands.Ssrm h e = omega (arith, (canon_spells commands.Ssrm h).whole)
canon_short (commands.Ssid s) h e = omega (arith, (canon_spells (commands.Ssid s) h).whole)
canon_short (commands.Sfid s) h e =
    let (_, (_, (_, (_, (_, (_, (_, (_, (_, (_, (_, (_, (_, (_, (_, (_, (_, (_, (count, _))))))))))))))))))) = h in
    omega (arith, (canon_spells (commands.Sfid s) h).whole, count)
canon_short (commands.Sfpa s) h e = omega (arith, (canon_spells (commands.Sfpa s) h).whole)
canon_short (commands.Sfna s) h e = omega (arith, (canon_spells (commands.Sfna s) h).whole, h.1.1.1.0)
canon_short (commands.Data s) h e = absurd cc
canon_short commands.Cdt h e = omega (arith, (canon_spells commands.Cdt h).whole)
canon_short (commands.Efid s) h e = omega (arith, (canon_spells (commands.Efid s) h).whole)
canon_short (commands.Efpa s) h e = omega (arith, (canon_spells (commands.Efpa s) h).whole)
canon_short (commands.Efna s) h e = omega (arith, (canon_spells (commands.Efna s) h).whole, h.1.1.0)
canon_short (commands.Esid s) h e = omega (arith, (canon_spells (commands.Esid s) h).whole, h.1.1.0)
canon_short commands.Cd h e = omega (arith, (canon_spells commands.Cd h).whole)
canon_short (commands.Eerp s) h e = omega (arith, (canon_spells (commands.Eerp s) h).whole)
canon_short (commands.Nerp s) h e = omega (arith, (canon_spells (commands.Nerp s) h).whole, h.1.1.1.1.1.1.1.1.1.0)
canon_short commands.Rtr h e = omega (arith, (canon_spells commands.Rtr h).whole)

-- an encoding begins with its kind's letter
pub canon_some : (c : Command) → 1 ≤ length (Canon c)
canon_some commands.Ssrm = omega arith
canon_some (commands.Ssid s) = omega arith
canon_some (commands.Sfid s) = omega arith
canon_some (commands.Sfpa s) = omega arith
canon_some (commands.Sfna s) = omega arith
canon_some (commands.Data s) = omega arith
canon_some commands.Cdt = omega arith
canon_some (commands.Efid s) = omega arith
canon_some (commands.Efpa s) = omega arith
canon_some (commands.Efna s) = omega arith
canon_some (commands.Esid s) = omega arith
canon_some commands.Cd = omega arith
canon_some (commands.Eerp s) = omega arith
canon_some (commands.Nerp s) = omega arith
canon_some commands.Rtr = omega arith

-- DATA is its letter and the payload
pub canon-data : (octets : List ℕ) → Canon (commands.Data octets) ≡ 68 ∷ octets
canon-data octets = ap (λ (x : List ℕ). 68 ∷ x) (append-nil octets)
