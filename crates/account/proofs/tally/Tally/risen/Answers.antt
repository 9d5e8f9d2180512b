use Rattle.std.proofs.Common.{ap, ◌∙◌, arith}
use Rattle.account.specs.Counter.{total}
use Rattle.account.specs.Tallies.{count, issued_by}
use Rattle.account.specs.declared.tally.Row.{Row}
use Rattle.account.proofs.Rises.{row-rises, tally-rises}
use Rattle.account.proofs.Tabled.{total-row}
use Rattle.account.proofs.tally.Tally.risen.Goals as goal

pub overflow_cast-result : goal.overflow_cast-result
overflow_cast-result c =
    let sum = c.total.ensures.sum ∙ ap (λ (r : Row). total 8 (count r)) c.rises.ensures ∙ total-row _ in
    omega (arith, sum, tally-rises c.args.self.now c.args.after.now)

pub overflow_add-result : goal.overflow_add-result
overflow_add-result c =
    let sum = c.total.ensures.sum ∙ ap (λ (r : Row). total 8 (count r)) c.rises.ensures ∙ total-row _ in
    let t = c.args.self.now in
    let u = c.args.after.now in
    omega (arith, sum, tally-rises t u, c.risen.ensures, row-rises (issued_by t) (issued_by u))

pub returns : goal.returns
returns c =
    let sum = c.total.ensures.sum ∙ ap (λ (r : Row). total 8 (count r)) c.rises.ensures ∙ total-row _ in
    omega (arith, sum, c.risen.ensures)
