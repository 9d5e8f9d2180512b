use Rattle.std.proofs.Common.{◌≡◌, ◌+◌, arith}
use Rattle.account.specs.Counter.{added}
use Rattle.account.specs.Tallies.{counter_of}
use Rattle.account.proofs.Balance.{law_covered, used-within, less}
use Rattle.account.proofs.account.Account.stock.Goals as goal

pub overflow_sub-result : goal.overflow_sub-result
overflow_sub-result c =
    let a = c.args.self.now in
    omega (arith, used-within (counter_of a.tally) (law_covered a.tally a.law), c.taken_in.ensures.sum, c.total-issued.ensures.sum)

pub returns : goal.returns
returns c =
    let a = c.args.self.now in
    let k = counter_of a.tally in
    let sum : c.from.result + c.taken_in.result ≡ a.tally.reserve + added k = omega (arith, c.from.ensures, c.taken_in.ensures.sum) in
    less _ _ _ _ sum c.total-issued.ensures.sum (omega (arith, used-within k (law_covered a.tally a.law)))
