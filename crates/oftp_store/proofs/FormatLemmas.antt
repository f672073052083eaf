-- The header of a file has its format. The octets are counted from the format and the last row.
use Rattle.std.proofs.Common.{◌≡◌, ◌+◌, ◌-◌, ◌*◌, ◌≤◌, ◌⊎◌, ℕ, List, length, take, drop, Option, Some, None, inl, inr, sym, ap, ◌∙◌, arith, take_all}
use Rattle.std.specs.Option.{option_map}
use Rattle.std.proofs.lemmas.List.{length-drop}
use Rattle.oftp_vfile.specs.declared.format.Format.{Format}
use Rattle.oftp_vfile.specs.declared.format.Format.TheVariants.{Text, Unstructured}
use Rattle.oftp_vfile.specs.declared.format.TheConstants.{BLOCK}
use Rattle.oftp_vfile.specs.VirtualFile.{units_in}
use Rattle.oftp_register.specs.declared.entries.Side.TheVariants as side
use Rattle.oftp_register.specs.Register.{Register, Incoming, Outgoing}
use Rattle.oftp_register.specs.Units.{file_format, units_in_blocks, units_told}
use Rattle.oftp_store.specs.Reads.{IsToldOf, incoming_header_of, outgoing_header_of}
use Rattle.oftp_store.specs.declared.queries.header.IncomingHeader.{IncomingHeader}
use Rattle.oftp_store.specs.declared.queries.header.OutgoingHeader.{OutgoingHeader}
use Rattle.oftp_store.proofs.NumberLemmas.{entry_placed}

pub incoming_format : (r : Register) (n : ℕ) (found : Option IncomingHeader) → IsToldOf incoming_header_of r.incoming n found
    → option_map (λ (h : IncomingHeader). (h.file.format, h.file.longest)) found ≡ file_format r side.Incoming n
incoming_format r n None none = sym (ap (option_map (λ (f : Incoming). (f.format, f.longest))) none)
incoming_format r n (Some h) (before, f, after, placed, is) =
    ap (λ (h : IncomingHeader). Some (h.file.format, h.file.longest)) is ∙ sym (ap (option_map (λ (f : Incoming). (f.format, f.longest))) (entry_placed n r.incoming before f after placed))

pub outgoing_format : (r : Register) (n : ℕ) (found : Option OutgoingHeader) → IsToldOf outgoing_header_of r.outgoing n found
    → option_map (λ (h : OutgoingHeader). (h.file.format, h.file.longest)) found ≡ file_format r side.Outgoing n
outgoing_format r n None none = sym (ap (option_map (λ (f : Outgoing). (f.format, f.longest))) none)
outgoing_format r n (Some h) (before, f, after, placed, is) =
    ap (λ (h : OutgoingHeader). Some (h.file.format, h.file.longest)) is ∙ sym (ap (option_map (λ (f : Outgoing). (f.format, f.longest))) (entry_placed n r.outgoing before f after placed))

-- the last row alone is measured
pub last_measured : (rows : List (List ℕ)) (full : ℕ) → full ≡ length rows - 1 → full * BLOCK + units_in (take 1 (drop full rows)) ≡ units_in_blocks rows
last_measured rows full is =
    let one : length (drop full rows) ≤ 1 = omega (arith, is, length-drop full rows) in
    ap (λ last. full * BLOCK + units_in last) (take_all 1 (drop full rows) one) ∙ ap (λ k. k * BLOCK + units_in (drop k rows)) is

-- the octets before it are counted
pub blocks_read : (rows last : List (List ℕ)) (count full from : ℕ) → count ≡ length rows → full ≡ count - 1 → from ≡ full → last ≡ take 1 (drop full rows)
    → from * BLOCK + units_in last ≡ units_in_blocks rows
blocks_read rows last count full from counted less same read =
    ap (λ n. n * BLOCK + units_in last) same ∙ ap (λ part. full * BLOCK + units_in part) read ∙ last_measured rows full (less ∙ ap (λ n. n - 1) counted)

-- in U and in T
pub blocks_told : (format : Format) (longest : ℕ) (rows : List (List ℕ)) → (format ≡ Unstructured) ⊎ (format ≡ Text) → units_told format longest rows ≡ units_in_blocks rows
blocks_told format longest rows (inl is) = ap (λ f. units_told f longest rows) is
blocks_told format longest rows (inr is) = ap (λ f. units_told f longest rows) is
