use Rattle.laws.proofs.ScriptsComputed.{eleven_scripts}
use Rattle.laws.proofs.scripts.eleven_scripts_stand.Goals as goal

pub returns : goal.returns
returns c = eleven_scripts
