use Rattle.std.proofs.Common.{get_or, ap, rules}
use Rattle.account.specs.Counter.{total}
use Rattle.account.specs.Joins.{rose}
use Rattle.account.specs.Tallies.{no_row, count}
use Rattle.account.proofs.Depots.{made_is}
use Rattle.account.proofs.tally.Tally.rises.Goals as goal

pub returns : goal.returns
unfolding total
returns c =
    let t = c.args.self.now in
    let u = c.args.after.now in
    ap (λ cs. record { counts = cs }) (made_is _ _ (λ i. total 8 (λ j. rose (count (get_or t.rows i no_row) j) (count (get_or u.rows i no_row) j))) (λ i y q k. search rules) _ 0 c.from_fn.ensures.items)
