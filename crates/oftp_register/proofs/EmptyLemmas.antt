-- The register with no file and no response.
use Rattle.std.proofs.Common.{◌≤◌}
use Rattle.std.proofs.lemmas.List.Elements.{All-nil}
use Rattle.oftp_vfile.specs.declared.limits.Limits.{Limits}
use Rattle.oftp_register.specs.Register.{empty}
use Rattle.oftp_register.specs.declared.fit.TheConstants.{MOST_FILES, MOST_OCTETS}
use Rattle.oftp_register.specs.Soundness.{IsSound, IsSoundIncoming, IsSoundOutgoing, IsSoundReceived}

pub sound_empty : (limits : Limits) → limits.files ≤ MOST_FILES → limits.octets ≤ MOST_OCTETS → IsSound (empty limits)
sound_empty limits files octets = record {
  few = files;
  small = octets;
  incoming = All-nil IsSoundIncoming;
  outgoing = All-nil IsSoundOutgoing;
  received = All-nil IsSoundReceived;
  incoming_once = tt;
  outgoing_once = tt;
  received_once = tt;
}
