use Rattle.journal.proofs.Statements as law
use Rattle.journal.proofs.laws.started_is_empty.Goals as goal

pub returns : goal.returns
returns c = law.started_is_empty_lem
