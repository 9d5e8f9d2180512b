use Rattle.items.proofs.Lengths.{account-most}
use Rattle.items.proofs.laws.account_items_are_short.Goals as goal

pub returns : goal.returns
returns c = account-most
