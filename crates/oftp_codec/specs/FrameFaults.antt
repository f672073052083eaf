-- The texts of the errors of a stream.
use Rattle.std.specs.Prelude.{ℕ, List, codes}
use Rattle.oftp_codec.specs.declared.frame_fault.FrameFault.{FrameFault}
use Rattle.oftp_codec.specs.declared.frame_fault.FrameFault.TheVariants.{BadHeader, BadLength, Memory}

-- the text of an error of a stream
abbrev pub frame_fault_text : FrameFault → List ℕ
frame_fault_text BadHeader = codes "no stream header begins so"
frame_fault_text BadLength = codes "a stream header has a length out of range"
frame_fault_text Memory = codes "out of memory"
