use Rattle.std.proofs.Common.{◌≤◌, arith, rules}
use Rattle.account.specs.Tallies.{limit, counter_of}
use Rattle.account.proofs.Balance.{law_shaped, law_ranged, law_covered}
use Rattle.account.proofs.Moves.{kept_by}
use Rattle.account.proofs.account.Account.handed.Goals as goal

pub overflow_add-handed : goal.overflow_add-handed
overflow_add-handed c =
    let a = c.args.self.now in
    let p = c.args.from in
    let q = c.args.to in
    let k = kept_by (counter_of a.tally) (law_ranged a.tally a.law) (law_covered a.tally a.law) in
    let small : c.handed.result ≤ limit = omega (arith, c.handed.ensures, k.counts p.number q.number p.least p.most q.least q.most) in
    search rules

pub with_handed-requires : goal.with_handed-requires
with_handed-requires c =
    let a = c.args.self.now in
    record { room = omega (arith, c.handed.ensures); shape = law_shaped a.tally a.law }
