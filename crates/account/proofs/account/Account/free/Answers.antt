use Rattle.std.proofs.Common.{arith}
use Rattle.account.specs.Tallies.{counter_of}
use Rattle.account.proofs.Balance.{law_covered, less}
use Rattle.account.proofs.Limits.{covered-here}
use Rattle.account.proofs.account.Account.free.Goals as goal

pub overflow_sub-result : goal.overflow_sub-result
overflow_sub-result c =
    let a = c.args.self.now in
    let d = c.args.depot in
    omega (arith, covered-here (counter_of a.tally) (law_covered a.tally a.law) d.number d.least d.most, c.had.ensures, c.gave.ensures)

pub returns : goal.returns
returns c =
    let a = c.args.self.now in
    let d = c.args.depot in
    less _ _ _ _ c.had.ensures c.gave.ensures (covered-here (counter_of a.tally) (law_covered a.tally a.law) d.number d.least d.most)
