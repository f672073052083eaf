-- The result of reading is the command that is encoded, or the first error.
use Rattle.std.proofs.Common.{◌≡◌, ℕ, Bool, true, false, cond, eqb, List, [], ◌∷◌, Result, Ok, Err, Option, Some, None, refl, sym, subst, arith, MatchResult}
use Rattle.std.specs.Prelude.{IfOk, IfErr, IsSome}
use Rattle.std.proofs.lemmas.Bool.{eqb-true}
use Rattle.oftp_wire.specs.declared.fault.WireFault.{WireFault}
use Rattle.oftp_wire.specs.declared.command.Command.{Command}
use Rattle.oftp_wire.specs.declared.command.Command.TheVariants as commands
use Rattle.oftp_wire.specs.Octets.{part}
use Rattle.oftp_codec.specs.Form.{OneOf}
use Rattle.oftp_codec.specs.Reading.{◌>>=◌}
use Rattle.oftp_codec.specs.Kinds.{by_letter, command_of, ssrm_of, ssid_of, sfid_of, sfpa_of, sfna_of, data_of, cdt_of, efid_of, efpa_of, efna_of, esid_of, eerp_of, nerp_of, single_of}
use Rattle.oftp_codec.specs.Spelling.{Spells, Fault, fault_by}
use Rattle.std.proofs.lemmas.Slice.Eq.{bytes_eq-Decides}
use Rattle.oftp_codec.proofs.Forms.{fine_from}
use Rattle.oftp_wire.specs.Reasons.{reason_of}
use Rattle.oftp_codec.proofs.Exact.{Exact, named}
use Rattle.oftp_codec.proofs.EachKind.{IsKind, ssrm_exact, ssid_exact, sfid_exact, sfpa_exact, sfna_exact, data_exact, cdt_exact, efid_exact, efpa_exact, efna_exact, esid_exact, eerp_exact, nerp_exact, single_exact}
use Rattle.oftp_codec.proofs.Again.{ssrm_again, ssid_again, sfid_again, sfpa_again, sfna_again, data_again, cdt_again, efid_again, efpa_again, efna_again, esid_again, eerp_again, nerp_again, single_again}

-- the first octet decides on the kind
kind_is : (c k : ℕ) (cs : List ℕ) → c ≡ k → IsKind (k ∷ []) (c ∷ cs)
kind_is c k cs e = record { fine = fine_from (OneOf 1 ((k ∷ []) ∷ [])) 0 (c ∷ cs) (omega arith) (rw (e, (bytes_eq-Decides (k ∷ []) (k ∷ [])).1 refl) refl) }

-- one letter, or the next
letter_by : {B : Type 0} (b : Bool) (x y : Result B WireFault) (f g : Option WireFault) (P : B → Type 0)
    → (b ≡ true → Exact x f P) → (b ≡ false → Exact y g P) → Exact (cond b x y) (cond b f g) P
letter_by true x y f g P here other = here refl
letter_by false x y f g P here other = other refl

-- one letter, or the next, of exact readers
letter : {B : Type 0} (c k : ℕ) (x y : Result B WireFault) (f g : Option WireFault) (P : B → Type 0)
    → (c ≡ k → Exact x f P) → Exact y g P → Exact (cond (eqb c k) x y) (cond (eqb c k) f g) P
letter c k x y f g P here other = letter_by (eqb c k) x y f g P (λ e. here (eqb-true c k e)) (λ e. other)

-- each kind's reader is exact
letter_exact : (c : ℕ) (cs : List ℕ) → Exact (by_letter c (c ∷ cs)) (fault_by c (c ∷ cs)) (λ x. Spells x (c ∷ cs))
unfolding by_letter fault_by
letter_exact c cs =
    letter c 73 _ _ _ _ _ (λ e. named _ (ssrm_exact (c ∷ cs) (kind_is c 73 cs e)) (λ x h. h)) (
    letter c 88 _ _ _ _ _ (λ e. named _ (ssid_exact (c ∷ cs) (kind_is c 88 cs e)) (λ x h. h)) (
    letter c 72 _ _ _ _ _ (λ e. named _ (sfid_exact (c ∷ cs) (kind_is c 72 cs e)) (λ x h. h)) (
    letter c 50 _ _ _ _ _ (λ e. named _ (sfpa_exact (c ∷ cs) (kind_is c 50 cs e)) (λ x h. h)) (
    letter c 51 _ _ _ _ _ (λ e. named _ (sfna_exact (c ∷ cs) (kind_is c 51 cs e)) (λ x h. h)) (
    letter c 68 _ _ _ _ _ (λ e. named _ (data_exact (c ∷ cs) (kind_is c 68 cs e)) (λ x h. h)) (
    letter c 67 _ _ _ _ _ (λ e. named _ (cdt_exact (c ∷ cs) (kind_is c 67 cs e)) (λ x h. h)) (
    letter c 84 _ _ _ _ _ (λ e. named _ (efid_exact (c ∷ cs) (kind_is c 84 cs e)) (λ x h. h)) (
    letter c 52 _ _ _ _ _ (λ e. named _ (efpa_exact (c ∷ cs) (kind_is c 52 cs e)) (λ x h. h)) (
    letter c 53 _ _ _ _ _ (λ e. named _ (efna_exact (c ∷ cs) (kind_is c 53 cs e)) (λ x h. h)) (
    letter c 70 _ _ _ _ _ (λ e. named _ (esid_exact (c ∷ cs) (kind_is c 70 cs e)) (λ x h. h)) (
    letter c 82 _ _ _ _ _ (λ e. named _ (single_exact 82 (c ∷ cs) (kind_is c 82 cs e)) (λ x h. h)) (
    letter c 69 _ _ _ _ _ (λ e. named _ (eerp_exact (c ∷ cs) (kind_is c 69 cs e)) (λ x h. h)) (
    letter c 78 _ _ _ _ _ (λ e. named _ (nerp_exact (c ∷ cs) (kind_is c 78 cs e)) (λ x h. h)) (
    letter c 80 _ _ _ _ _ (λ e. named _ (single_exact 80 (c ∷ cs) (kind_is c 80 cs e)) (λ x h. h)) (
    record { met = (refl, refl) })))))))))))))))

-- the reader of commands is exact
pub command_exact : (o : List ℕ) → Exact (command_of o) (Fault o) (λ x. Spells x o)
unfolding command_of Fault
command_exact [] = record { met = (refl, refl) }
command_exact (c ∷ cs) = letter_exact c cs

-- the letter with which an encoding begins
pub begins : (k : ℕ) (c : ℕ) (cs : List ℕ) → part 0 1 (c ∷ cs) ≡ k ∷ [] → c ≡ k
begins k c cs e = cc

-- an encoding of a command of the kind with this letter is read as it
reads_as : {S : Type 0} {P : List ℕ → Type 0} (k : ℕ) (read : List ℕ → Result S WireFault) (make : S → Command) (s : S)
    → ((cs : List ℕ) → by_letter k (k ∷ cs) ≡ (read (k ∷ cs) >>= λ x. Ok (make x)))
    → ((o : List ℕ) → IsKind (k ∷ []) o → P o → read o ≡ Ok s)
    → (o : List ℕ) → P o → ((q : List ℕ) → P q → part 0 1 q ≡ k ∷ []) → command_of o ≡ Ok (make s)
unfolding command_of
reads_as k read make s by again [] h first = let e : ◌≡◌ {A = List ℕ} [] (k ∷ []) = first [] h in absurd (let n : ⊥ = cc in n)
reads_as {S} {P} k read make s by again (c ∷ cs) h first =
    let e : c ≡ k = begins k c cs (first (c ∷ cs) h) in
    let g : P (k ∷ cs) = subst (λ (d : ℕ). P (d ∷ cs)) e h in
    rw (e, by cs, again (k ∷ cs) (kind_is k k cs refl) g) refl

-- an encoding of a command is read as it
pub command_again : (x : Command) (o : List ℕ) → Spells x o → command_of o ≡ Ok x
unfolding by_letter
command_again commands.Ssrm o h = reads_as 73 ssrm_of (λ s. commands.Ssrm) tt (λ cs. refl) (λ q kind. ssrm_again q kind tt) o h (λ q g. g.fields.0.1)
command_again (commands.Ssid s) o h = reads_as 88 ssid_of commands.Ssid s (λ cs. refl) (λ q kind. ssid_again q kind s) o h (λ q g. g.fields.0.1)
command_again (commands.Sfid s) o h = reads_as 72 sfid_of commands.Sfid s (λ cs. refl) (λ q kind. sfid_again q kind s) o h (λ q g. g.fields.0.1)
command_again (commands.Sfpa s) o h = reads_as 50 sfpa_of commands.Sfpa s (λ cs. refl) (λ q kind. sfpa_again q kind s) o h (λ q g. g.fields.0.1)
command_again (commands.Sfna s) o h = reads_as 51 sfna_of commands.Sfna s (λ cs. refl) (λ q kind. sfna_again q kind s) o h (λ q g. g.fields.0.1)
command_again (commands.Data s) o h = reads_as 68 data_of commands.Data s (λ cs. refl) (λ q kind. data_again q kind s) o h (λ q g. g.fields.0.1)
command_again commands.Cdt o h = reads_as 67 cdt_of (λ s. commands.Cdt) tt (λ cs. refl) (λ q kind. cdt_again q kind tt) o h (λ q g. g.fields.0.1)
command_again (commands.Efid s) o h = reads_as 84 efid_of commands.Efid s (λ cs. refl) (λ q kind. efid_again q kind s) o h (λ q g. g.fields.0.1)
command_again (commands.Efpa s) o h = reads_as 52 efpa_of commands.Efpa s (λ cs. refl) (λ q kind. efpa_again q kind s) o h (λ q g. g.fields.0.1)
command_again (commands.Efna s) o h = reads_as 53 efna_of commands.Efna s (λ cs. refl) (λ q kind. efna_again q kind s) o h (λ q g. g.fields.0.1)
command_again (commands.Esid s) o h = reads_as 70 esid_of commands.Esid s (λ cs. refl) (λ q kind. esid_again q kind s) o h (λ q g. g.fields.0.1)
command_again commands.Cd o h = reads_as 82 single_of (λ s. commands.Cd) tt (λ cs. refl) (λ q kind. single_again 82 q kind tt) o h (λ q g. g.fields.0.1)
command_again (commands.Eerp s) o h = reads_as 69 eerp_of commands.Eerp s (λ cs. refl) (λ q kind. eerp_again q kind s) o h (λ q g. g.fields.0.1)
command_again (commands.Nerp s) o h = reads_as 78 nerp_of commands.Nerp s (λ cs. refl) (λ q kind. nerp_again q kind s) o h (λ q g. g.fields.0.1)
command_again commands.Rtr o h = reads_as 80 single_of (λ s. commands.Rtr) tt (λ cs. refl) (λ q kind. single_again 80 q kind tt) o h (λ q g. g.fields.0.1)

-- what is exact says of each result
pub exact_at : (r : Result Command WireFault) (o : List ℕ) → command_of o ≡ r
    → MatchResult r (λ x. (Fault o ≡ None) × Spells x o) (λ e. (Fault o ≡ Some e) × IsSome (reason_of e))
exact_at r o h =
    subst (λ (q : Result Command WireFault). MatchResult q (λ x. (Fault o ≡ None) × Spells x o) (λ e. (Fault o ≡ Some e) × IsSome (reason_of e)))
    h (command_exact o).met

-- the octets encode what was read
found_by : (r : Result Command WireFault) (o : List ℕ)
    → MatchResult r (λ x. (Fault o ≡ None) × Spells x o) (λ e. (Fault o ≡ Some e) × IsSome (reason_of e)) → IfOk r (λ x. Spells x o)
found_by (Ok x) o h = h.1
found_by (Err e) o h = tt

-- the error is the first one from the left, which an ESID can answer
refused_by : (r : Result Command WireFault) (o : List ℕ)
    → MatchResult r (λ x. (Fault o ≡ None) × Spells x o) (λ e. (Fault o ≡ Some e) × IsSome (reason_of e))
    → IfErr r (λ e. Fault o ≡ Some e) × IfErr r (λ e. IsSome (reason_of e))
refused_by (Ok x) o h = (tt, tt)
refused_by (Err e) o h = h

-- the octets encode what is read
pub found_is : (r : Result Command WireFault) (o : List ℕ) → r ≡ command_of o → IfOk r (λ x. Spells x o)
found_is r o e = found_by r o (exact_at r o (sym e))

-- the reader's error is the first from the left, and one that an ESID can answer
pub fault_is : (r : Result Command WireFault) (o : List ℕ) → r ≡ command_of o
    → IfErr r (λ f. Fault o ≡ Some f) × IfErr r (λ f. IsSome (reason_of f))
fault_is r o e = refused_by r o (exact_at r o (sym e))
