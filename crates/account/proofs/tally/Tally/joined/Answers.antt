use Rattle.std.proofs.Common.{max, get_or, rules}
use Rattle.account.specs.Tallies.{no_row, count, eight, row_of}
use Rattle.account.proofs.Depots.{made_is}
use Rattle.account.proofs.tally.Tally.joined.Goals as goal

pub returns : goal.returns
unfolding eight
returns c =
    let t = c.args.self.now in
    let u = c.args.other.now in
    let rows = made_is _ _ (λ i. row_of (λ j. max (count (get_or t.rows i no_row) j) (count (get_or u.rows i no_row) j))) (λ i y q k. search rules) _ no_row c.from_fn.ensures.items in
    λ i. record { reserve = t.reserve; rows = rows i; issued = c.greater.ensures i }
