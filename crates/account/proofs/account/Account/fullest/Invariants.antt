use Rattle.std.proofs.Common.{◌≡◌}
use Rattle.account.specs.Advice.{best_of, number_if}
use Rattle.account.proofs.account.Account.fullest.Given as goal

abbrev pub invariant-loop-depot : goal.invariant-loop-depot
invariant-loop-depot l = number_if l.best ≡ best_of l.self l.asking.number l.amount l.depot-index
