use Rattle.std.proofs.Common.{ap, rules}
use Rattle.account.specs.Tallies.{handed}
use Rattle.account.proofs.Depots.{mapped_is}
use Rattle.account.proofs.tally.Tally.diagonal.Goals as goal

pub returns : goal.returns
returns c = ap (λ cs. record { counts = cs }) (mapped_is _ c.all.ensures _ _ _ (λ i. handed c.args.self.now i i) 0 c.map.ensures.items (λ d y q k. search rules))
