use Rattle.std.proofs.Common.{rules}
use Rattle.account.specs.Accounts.{free_of}
use Rattle.account.proofs.Depots.{mapped_is}
use Rattle.parcel.proofs.figures.free_stocks.Goals as goal

pub returns : goal.returns
returns c = mapped_is _ c.all.ensures _ _ _ (free_of c.args.account.now) 0 c.map.ensures.items (λ d y q k. search rules)
