use Rattle.oftp_engine.proofs.Resources.{payloads_never_lack_memory, runs_never_lack_resources}
use Rattle.oftp_engine.proofs.laws.runs_never_lack_resources.Goals as goal

pub returns-clause-runs : goal.returns-clause-runs
returns-clause-runs c = runs_never_lack_resources

pub returns-clause-payloads : goal.returns-clause-payloads
returns-clause-payloads c = payloads_never_lack_memory
