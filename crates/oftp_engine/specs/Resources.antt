-- ESID 08, resources not available, reports an error of the office: no run has it.
use Rattle.std.specs.Prelude.{◌≢◌, ℕ, All, List, Option, Err}
use Rattle.oftp_vfile.specs.declared.fault.TakeFault.TheVariants.{Memory}
use Rattle.oftp_vfile.specs.Reading.{taken}
use Rattle.oftp_vfile.specs.Taking.{Taking}
use Rattle.oftp_register.specs.Register.{Register}
use Rattle.oftp_session.specs.Settings.{Setting}
use Rattle.oftp_engine.specs.Runs.{Output, run, started}
use Rattle.oftp_engine.specs.Serving.{last_frame}

-- No output of a run is the frame of ESID 08, whether or not the writer returned an error. That is so whatever the book, the partner,
-- the octets and the register.
abbrev pub RunsNeverLackResources : Type 0
RunsNeverLackResources = (limit : Option ℕ) (setting : Setting) (given : List ℕ) (r : Register)
    → All (λ (o : Output). o.octets ≢ last_frame) (run limit given (started setting r)).outputs

-- no payload is refused for lack of memory
abbrev pub PayloadsNeverLackMemory : Type 0
PayloadsNeverLackMemory = (t : Taking) (payload : List ℕ) → taken t payload ≢ Err Memory
