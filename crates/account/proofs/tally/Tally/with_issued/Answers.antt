use Rattle.std.proofs.Common.{ap, ◌∙◌}
use Rattle.account.specs.declared.tally.Row.{Row}
use Rattle.account.proofs.Tabled.{shape, issued-raised}
use Rattle.account.proofs.tally.Tally.with_issued.Goals as goal

pub returns : goal.returns
returns c =
    let t = c.args.self.now in
    let d = c.args.depot in
    ap (λ (r : Row). record { reserve = t.reserve; rows = t.rows; issued = r }) c.raised.ensures ∙ issued-raised t (shape t c.requires.shape) d.number c.args.amount d.least d.most
