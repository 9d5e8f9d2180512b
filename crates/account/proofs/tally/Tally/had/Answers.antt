use Rattle.std.proofs.Common.{ℕ, ap, ◌∙◌, arith}
use Rattle.account.specs.Counter.{total}
use Rattle.account.specs.Tallies.{count, handed}
use Rattle.account.specs.declared.tally.Row.{Row}
use Rattle.account.proofs.Tabled.{total-row}
use Rattle.account.proofs.Totals.{others_all}
use Rattle.account.proofs.tally.Tally.had.Goals as goal

pub returns : goal.returns
returns c =
    let d = c.args.depot in
    let column : ℕ → ℕ = λ k. handed c.args.self.now k d.number in
    let sum = c.total.ensures.sum ∙ ap (λ (r : Row). total 8 (count r)) c.column.ensures ∙ total-row column in
    omega (arith, sum, others_all d.number column d.least d.most)
