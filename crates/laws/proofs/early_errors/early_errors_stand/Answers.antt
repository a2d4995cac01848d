use Rattle.laws.proofs.EarlyRuns.{early_errors_law}
use Rattle.laws.proofs.early_errors.early_errors_stand.Goals as goal

pub returns : goal.returns
returns c = early_errors_law
