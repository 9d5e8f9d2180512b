use Rattle.account.proofs.Statements.{join_commutes, join_associates, join_with_itself, join_holds_both, join_is_least}
use Rattle.account.proofs.laws.join_is_least_bound.Goals as goal

pub returns : goal.returns
returns c = record { commutes = join_commutes; associates = join_associates; itself = join_with_itself; bound = join_holds_both; least = join_is_least }
