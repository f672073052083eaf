-- What is done with a file that is taken from a folder, and with one that is collected to it. Also what is done about a folder's lock, and what an
-- error concerns.
use Rattle.oftp_folders.specs.declared.judging.Collecting.{Collecting}
use Rattle.oftp_folders.specs.declared.judging.Collecting.TheVariants.{Write, Leave, Refuse}
use Rattle.oftp_folders.specs.declared.judging.Concern.{Concern}
use Rattle.oftp_folders.specs.declared.judging.Concern.TheVariants as concern
use Rattle.oftp_folders.specs.declared.judging.Content.TheVariants.{Same, Other}
use Rattle.oftp_folders.specs.declared.judging.FileName.{FileName}
use Rattle.oftp_folders.specs.declared.judging.FileName.TheVariants as file
use Rattle.oftp_folders.specs.declared.judging.Held.{Held}
use Rattle.oftp_folders.specs.declared.judging.Held.TheVariants as held
use Rattle.oftp_folders.specs.declared.judging.LockSeen.{LockSeen}
use Rattle.oftp_folders.specs.declared.judging.LockSeen.TheVariants as seen
use Rattle.oftp_folders.specs.declared.judging.Locking.{Locking}
use Rattle.oftp_folders.specs.declared.judging.Locking.TheVariants as locking
use Rattle.oftp_folders.specs.declared.judging.Named.{Named}
use Rattle.oftp_folders.specs.declared.judging.Named.TheVariants as named
use Rattle.oftp_folders.specs.declared.judging.Naming.{Naming}
use Rattle.oftp_folders.specs.declared.judging.Naming.TheVariants as naming
use Rattle.oftp_folders.specs.declared.judging.Offering.{Offering}
use Rattle.oftp_folders.specs.declared.judging.Offering.TheVariants as offering
use Rattle.oftp_folders.specs.declared.judging.Step.{Step}
use Rattle.oftp_folders.specs.declared.judging.Step.TheVariants.{HandIn, HandedIn, TakeNextStamp}
use Rattle.oftp_folders.specs.declared.judging.TakenBy.{TakenBy}
use Rattle.oftp_folders.specs.declared.judging.TakenBy.TheVariants.{ThisCall, EarlierCall}
use Rattle.oftp_outcomes.specs.declared.outcome.Fault.{Fault}
use Rattle.oftp_outcomes.specs.declared.outcome.Fault.TheVariants as faults

-- what is done with a regular file of an offered folder, by its name, and by where its dataset name comes from
abbrev pub offered : FileName → Naming → Offering
offered file.Hidden naming.Own = offering.Pass
offered file.Hidden naming.Given = offering.Pass
offered file.Dataset naming.Own = offering.Take
offered file.Dataset naming.Given = offering.Take
offered file.Other naming.Own = offering.Tell
offered file.Other naming.Given = offering.Take

-- what is done with a file that a call took, by what the register has under its name, date, time and partner
abbrev pub handed : TakenBy → Held → Step
handed ThisCall held.Nothing = HandIn
handed EarlierCall held.Nothing = HandIn
handed EarlierCall (held.File number Same) = HandedIn number
handed EarlierCall (held.File number Other) = TakeNextStamp
handed ThisCall (held.File number content) = TakeNextStamp

-- what is done with a file that is to be collected, by what is at its name
abbrev pub collected : Named → Collecting
collected named.Nothing = Write
collected (named.File Same) = Leave
collected (named.File Other) = Refuse
collected named.Else = Refuse

-- what is done about a folder's lock, by what was seen at its name
abbrev pub lock_tried : LockSeen → Locking
lock_tried seen.Nothing = locking.TryAgain
lock_tried seen.Exchanged = locking.TryAgain
lock_tried seen.Else = locking.Refuse
lock_tried seen.Lock = locking.Lock

-- what an error in the work on one file concerns
abbrev pub concerned : Fault → Concern
concerned faults.File = concern.File
concerned fault = concern.Command fault
