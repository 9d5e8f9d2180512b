use Rattle.std.proofs.Common.{◌≡◌, true, sym, subst}
use Rattle.account.specs.Lawful.{lawful}
use Rattle.account.specs.declared.tally.Tally.{Tally}
use Rattle.account.proofs.Fresh.{fresh-lawful}
use Rattle.account.proofs.account.Account.fresh.Goals as goal

pub invariant_of-result : goal.invariant_of-result
invariant_of-result c =
    record { law = subst (λ (v : Tally). lawful v ≡ true) (sym c.zeros-tally.ensures) (fresh-lawful c.args.reserve c.if-reserve-gt-LIMIT.false) }
