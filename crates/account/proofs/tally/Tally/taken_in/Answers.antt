use Rattle.std.proofs.Common.{ap, ◌∙◌}
use Rattle.account.specs.Counter.{total}
use Rattle.account.specs.Tallies.{count}
use Rattle.account.specs.declared.tally.Row.{Row}
use Rattle.account.proofs.Tabled.{total-row}
use Rattle.account.proofs.tally.Tally.taken_in.Goals as goal

pub returns-clause-sum : goal.returns-clause-sum
returns-clause-sum c = c.total.ensures.sum ∙ ap (λ (r : Row). total 8 (count r)) c.diagonal.ensures ∙ total-row _
