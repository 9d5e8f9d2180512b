use Rattle.std.proofs.Common.{ap, ◌∙◌, arith}
use Rattle.account.specs.Counter.{total}
use Rattle.account.specs.Tallies.{count, handed}
use Rattle.account.specs.declared.tally.Row.{Row}
use Rattle.account.proofs.Totals.{others_all}
use Rattle.account.proofs.tally.Tally.gave.Goals as goal

pub overflow_sub-others : goal.overflow_sub-others
overflow_sub-others c =
    let d = c.args.depot in
    let sum = c.total.ensures.sum ∙ ap (λ (r : Row). total 8 (count r)) c.row.ensures in
    omega (arith, others_all d.number (handed c.args.self.now d.number) d.least d.most, sum, c.handed.ensures, c.from.ensures)

pub returns : goal.returns
returns c =
    let d = c.args.depot in
    let sum = c.total.ensures.sum ∙ ap (λ (r : Row). total 8 (count r)) c.row.ensures in
    omega (arith, others_all d.number (handed c.args.self.now d.number) d.least d.most, sum)
