use Rattle.std.proofs.Common.{max, ap, rules}
use Rattle.account.specs.Tallies.{count}
use Rattle.account.proofs.Depots.{mapped_is}
use Rattle.account.proofs.tally.Row.greater.Goals as goal

pub returns : goal.returns
returns c =
    ap (λ cs. record { counts = cs }) (mapped_is _ c.all.ensures _ _ _ (λ j. max (count c.args.self j) (count c.args.other j)) 0 c.map.ensures.items (λ d y q k. search rules))
