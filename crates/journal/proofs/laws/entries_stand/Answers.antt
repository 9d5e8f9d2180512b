use Rattle.journal.proofs.Statements.{entries_stand_lem, entries_read_back}
use Rattle.journal.proofs.laws.entries_stand.Goals as goal

pub returns : goal.returns
returns c = record { stand = entries_stand_lem; back = entries_read_back }
