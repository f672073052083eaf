-- The files that received responses answer.
use Rattle.std.proofs.Common.{◌≡◌, ◌+◌, ℕ, List, [], ◌∷◌, map, Option, Some, None, refl, ap, ◌∙◌}
use Rattle.std.specs.Option.{option_map, unwrap_or}
use Rattle.oftp_register.specs.declared.entries.OutgoingEntry.{OutgoingEntry}
use Rattle.oftp_register.specs.declared.entries.ReceivedEntry.{ReceivedEntry}
use Rattle.oftp_register.specs.LookUps.{answered_entry, look_out, numbered, received_entry}
use Rattle.oftp_register.specs.Register.{Received, Register}
use Rattle.oftp_listing.specs.InsideResource.{file_answered}
use Rattle.oftp_listing.specs.Texts.{no_of}

no_answered : (found : Option OutgoingEntry) → unwrap_or (option_map (λ (e : OutgoingEntry). e.no) found) 0 ≡ no_of found
no_answered None = refl
no_answered (Some e) = refl

-- all are told in one look-up as one by one
pub numbers_answered : (r : Register) (n : ℕ) (xs : List Received)
    → map file_answered (numbered (answered_entry r) n xs) ≡ map (λ (e : ReceivedEntry). no_of (look_out r e.response.identity)) (numbered received_entry n xs)
numbers_answered r n [] = refl
numbers_answered r n (x ∷ xs) =
    ap (λ (k : ℕ). k ∷ map file_answered (numbered (answered_entry r) (n + 1) xs)) (no_answered (look_out r x.identity))
    ∙ ap (λ (ks : List ℕ). no_of (look_out r x.identity) ∷ ks) (numbers_answered r (n + 1) xs)
