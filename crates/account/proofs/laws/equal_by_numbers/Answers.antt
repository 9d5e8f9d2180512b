use Rattle.account.specs.EqualitySound.{row_decides, tally_decides}
use Rattle.account.proofs.Same.{account_decides}
use Rattle.account.proofs.Statements.{equal_by_numbers_lem}
use Rattle.account.proofs.laws.equal_by_numbers.Goals as goal

pub returns : goal.returns
returns c = record { numbers = equal_by_numbers_lem; rows = row_decides; tallies = tally_decides; accounts = account_decides }
