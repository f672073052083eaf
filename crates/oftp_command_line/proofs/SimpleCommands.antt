-- The commands are simple.
use Rattle.std.proofs.Common.{◌≡◌, refl, true}
use Rattle.clap.specs.Words.{is_simple_and_free}
use Rattle.clap.proofs.OnLiterals.{clap_on_literals}
use Rattle.oftp_command_line.specs.Line.{app_named}
use Rattle.oftp_command_line.specs.Told.{each_app}
use Rattle.oftp_command_line.specs.declared.line.commands.Name.{Name}
use Rattle.oftp_command_line.specs.declared.line.commands.Name.TheVariants.{Audit, Backup, Call, Check, Collect, Evidence, Explain, Feed, Fetch, Health, History, Http, Init, Listen, Migrate}
use Rattle.oftp_command_line.specs.declared.line.commands.Name.TheVariants.{Offer, Refuse, Release, Reload, Replay, Report, Resend, Run, Settled, Show, Status, Stop, Submit}

pub is_simple_named : (name : Name) → is_simple_and_free (app_named name) ≡ true
unfolding clap_on_literals each_app
is_simple_named Init = refl
is_simple_named Migrate = refl
is_simple_named Check = refl
is_simple_named Submit = refl
is_simple_named Offer = refl
is_simple_named Resend = refl
is_simple_named Release = refl
is_simple_named Refuse = refl
is_simple_named Fetch = refl
is_simple_named Collect = refl
is_simple_named Report = refl
is_simple_named Status = refl
is_simple_named Health = refl
is_simple_named Settled = refl
is_simple_named Backup = refl
is_simple_named Stop = refl
is_simple_named Reload = refl
is_simple_named Show = refl
is_simple_named Explain = refl
is_simple_named Feed = refl
is_simple_named Audit = refl
is_simple_named History = refl
is_simple_named Evidence = refl
is_simple_named Run = refl
is_simple_named Replay = refl
is_simple_named Listen = refl
is_simple_named Call = refl
is_simple_named Http = refl
