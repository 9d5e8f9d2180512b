use Rattle.std.proofs.Common.{arith}
use Rattle.std.proofs.lemmas.Grind.{common_steps}
use Rattle.account.proofs.Checked.{checked-account}
use Rattle.depot.proofs.depot.Depot.create.Goals as goal

pub returns : goal.returns
returns g c = let known = checked-account c.in_ok-account.account in grind (arith, common_steps, known)
