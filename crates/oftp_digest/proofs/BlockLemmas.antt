-- The blocks of a message that is a part of octets.
use Rattle.std.proofs.Common.{◌≡◌, ℕ, ◌+◌, ◌-◌, ◌*◌, ◌/◌, ◌%◌, ◌^◌, ◌≤◌, List, ◌∷◌, ◌++◌, length, take, drop, replicate, refl, sym, ap, ◌∙◌, arith, length-append}
use Rattle.std.proofs.lemmas.List.{drop-drop, drop-take, drop_at, take-take, take_all}
use Rattle.std.specs.Int.{w64, to_be_bytes}
use Rattle.sha2.specs.Sha256.{compress, final_hash, hash_after, initial_hash_256, padding}
use Rattle.sha2.proofs.Absorbing256.{hash_after-append, hash_after_next}
use Rattle.oftp_digest.specs.Lanes.{part}

-- a block of a part
pub block-part : (octets : List ℕ) (at count block : ℕ) → block * 64 + 64 ≤ count → take 64 (drop (block * 64) (part octets at count)) ≡ part octets (at + 64 * block) 64
block-part octets at count block h =
    let from = block * 64 in
    let split : from + (count - from) ≡ count = omega arith in
    let place : at + from ≡ at + 64 * block = omega arith in
    ap (λ n. take 64 (drop from (take n (drop at octets)))) (sym split)
    ∙ ap (take 64) (drop-take from (count - from) (drop at octets))
    ∙ take-take 64 (count - from) (drop from (drop at octets)) (omega arith)
    ∙ ap (take 64) (drop-drop from at octets) ∙ ap (λ n. take 64 (drop n octets)) place

-- what stands behind a message of whole blocks
abbrev pub last_block : ℕ → List ℕ
last_block count = 0x80 ∷ (replicate 55 0 ++ to_be_bytes w64 (count * 8 % 2 ^ 64))

-- the hash value of a message of whole blocks
pub final_hash-blocks : (message : List ℕ) (blocks : ℕ) → length message ≡ blocks * 64
    → final_hash initial_hash_256 message ≡ compress (hash_after initial_hash_256 message blocks) (last_block (length message))
final_hash-blocks message blocks long =
    let start = initial_hash_256 in
    let last = last_block (length message) in
    let zeros : (119 - length message % 64) % 64 ≡ 55 = omega arith in
    let padded : padding (length message) ≡ last = rw zeros refl in
    let whole : length (message ++ last) ≡ blocks * 64 + 64 = length-append message last ∙ omega arith in
    let count : length (message ++ last) / 64 ≡ blocks + 1 = omega arith in
    let block : take 64 (drop (blocks * 64) (message ++ last)) ≡ last = ap (take 64) (drop_at message last (blocks * 64) long) ∙ take_all 64 last (omega arith) in
    ap (λ p. hash_after start (message ++ p) (length (message ++ p) / 64)) padded
    ∙ ap (hash_after start (message ++ last)) count
    ∙ hash_after_next start (message ++ last) blocks
    ∙ rw (block, hash_after-append start message last blocks (omega arith)) refl
