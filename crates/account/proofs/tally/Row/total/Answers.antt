use Rattle.std.proofs.Common.{◌≡◌, length, sum_by, ◌∙◌, arith, rules}
use Rattle.std.proofs.iter.runs.Sources.{sums}
use Rattle.account.specs.Tallies.{count}
use Rattle.account.proofs.Totals.{sum-listed, total_most}
use Rattle.account.proofs.tally.Row.total.Goals as goal

pub sum-requires-clause-fits : goal.sum-requires-clause-fits
sum-requires-clause-fits c = search (rules, sums)

pub returns-clause-sum : goal.returns-clause-sum
returns-clause-sum c =
    let counts = c.args.self.counts in
    let sum : c.sum.result ≡ sum_by (λ n. n) counts = search rules in
    let long : length counts ≡ 8 = search rules in
    sum ∙ sum-listed (λ n. n) 0 counts 8 long

pub returns-clause-bound : goal.returns-clause-bound
returns-clause-bound c =
    let counts = c.args.self.counts in
    let sum : c.sum.result ≡ sum_by (λ n. n) counts = search rules in
    let long : length counts ≡ 8 = search rules in
    omega (arith, sum, sum-listed (λ n. n) 0 counts 8 long, total_most 8 4294967295 (count c.args.self) (λ k a b. search rules))
