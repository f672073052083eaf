-- SFID: an accepted file starts, or goes on.
use Rattle.std.proofs.Common.{◌≡◌, ℕ, zero, suc, List, [], ◌∷◌, take, Ok, refl, ap, sym, arith}
use Rattle.std.proofs.lemmas.List.{length-take-le}
use Rattle.oftp_wire.specs.declared.command.Sfid.{Sfid}
use Rattle.oftp_vfile.specs.VirtualFile.{units_in}
use Rattle.oftp_vfile.proofs.CarriesLemmas.{took_new}
use Rattle.oftp_register.specs.declared.entries.Side.TheVariants as side
use Rattle.oftp_register.specs.declared.verdicts.StartVerdict.TheVariants as start
use Rattle.oftp_register.specs.Register.{Register}
use Rattle.oftp_register.specs.Changes.{apply, started_in}
use Rattle.oftp_register.specs.ByIdentity.{IsStarted}
use Rattle.oftp_register.specs.Verdicts.{format_of, longest_of, offered_identity}
use Rattle.oftp_register.specs.LookUps.{file_rows}
use Rattle.oftp_register.specs.Soundness.{IsSound}
use Rattle.oftp_register.proofs.FileRowLemmas.{few_rows}
use Rattle.oftp_register.proofs.StartLemmas.{accepted_starts, starts_are_found}
use Rattle.oftp_session.specs.declared.state.Contact.{Contact}
use Rattle.oftp_session.specs.Settings.{Setting}
use Rattle.oftp_session.specs.Listener.{offered_file, receipt_of, start_of, terms_within, verdict_on}
use Rattle.oftp_session.specs.Steps.{IsReceived}
use Rattle.oftp_session.specs.InsideListener.{MayBegin}
use Rattle.oftp_session.proofs.Receipts.{files_limits}

-- a start doesn't change the limits
start_limits : (r s : Register) (sfid : Sfid) (count : ℕ) → apply r (start_of sfid count) ≡ Ok s → r.limits ≡ s.limits
unfolding apply
start_limits r s sfid count made = files_limits r s (started_in r (offered_file sfid) count r.incoming) made

take_again : (n : ℕ) (xs : List (List ℕ)) → take n (take n xs) ≡ take n xs
take_again zero xs = refl
take_again (suc n) [] = refl
take_again (suc n) (x ∷ xs) = ap (λ ys. x ∷ ys) (take_again n xs)

-- the file that is started is received, and no payload of it was received
started_received : (r s : Register) (sfid : Sfid) (count : ℕ) → IsSound r → r.limits ≡ s.limits → IsStarted r s (offered_file sfid) count → IsReceived s (receipt_of r sfid count)
started_received r s sfid count sound same started =
    let f = receipt_of r sfid count in
    let rows = file_rows r side.Incoming f.number in
    let within = started.kept in
    let few = few_rows r side.Incoming f.number sound in
    record {
      limit = ap (λ limits. limits.octets) same;
      entry = started.entry;
      opened = refl;
      kept = omega (arith, length-take-le count rows within);
      most = omega (arith, length-take-le count rows within);
      units = ap units_in (sym (take_again count rows));
      took = took_new (format_of sfid.layout) (longest_of sfid.layout) count f.units r.limits.octets (omega (arith, within, few));
    }

-- each accepted file may start
pub accepted_begins : (setting : Setting) (contact : Contact) (r : Register) (sfid : Sfid) (count : ℕ) → IsSound r
    → verdict_on setting contact r sfid ≡ start.Accept count → MayBegin r sfid count
accepted_begins setting contact r sfid count sound h =
    let identity = offered_identity sfid in
    let starts = accepted_starts r sfid identity (terms_within setting contact r.limits) count sound h in
    let s = starts.1.0 in
    let found = starts_are_found r s identity (format_of sfid.layout) (longest_of sfid.layout) sfid.description count sound starts.1.1 in
    record {
      fit = starts.0;
      after = s;
      made = starts.1.1;
      received = started_received r s sfid count sound (start_limits r s sfid count starts.1.1) found;
      found = found.look;
    }
