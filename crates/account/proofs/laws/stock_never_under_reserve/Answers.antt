use Rattle.account.proofs.Statements.{free_never_negative, free_stocks_add_up, stock_never_under}
use Rattle.account.proofs.laws.stock_never_under_reserve.Goals as goal

pub returns : goal.returns
returns c = record { free = free_never_negative; sum = free_stocks_add_up; stock = stock_never_under }
