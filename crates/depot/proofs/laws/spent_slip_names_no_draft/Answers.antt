use Rattle.depot.proofs.Spent.{opened_is_given, spent_names_none}
use Rattle.depot.proofs.laws.spent_slip_names_no_draft.Goals as goal

pub returns : goal.returns
returns c = record { given = opened_is_given; spent = spent_names_none }
