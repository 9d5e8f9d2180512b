use Rattle.std.proofs.Common.{ap, ◌∙◌, arith}
use Rattle.account.specs.Counter.{total}
use Rattle.account.specs.Tallies.{count}
use Rattle.account.specs.declared.tally.Row.{Row}
use Rattle.account.proofs.Rises.{row-rises}
use Rattle.account.proofs.Tabled.{total-row}
use Rattle.account.proofs.tally.Row.risen.Goals as goal

pub overflow_cast-result : goal.overflow_cast-result
overflow_cast-result c =
    let sum = c.total.ensures.sum ∙ ap (λ (r : Row). total 8 (count r)) c.rises.ensures ∙ total-row _ in
    omega (arith, sum, row-rises (count c.args.self) (count c.args.after))

pub returns : goal.returns
returns c = c.total.ensures.sum ∙ ap (λ (r : Row). total 8 (count r)) c.rises.ensures ∙ total-row _
