use Rattle.account.proofs.Statements.{accepted_lawful}
use Rattle.account.proofs.laws.accepted_is_lawful.Goals as goal

pub returns : goal.returns
returns c = accepted_lawful
