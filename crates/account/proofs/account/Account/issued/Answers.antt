use Rattle.std.proofs.Common.{◌≤◌, arith, rules}
use Rattle.account.specs.Tallies.{limit, counter_of}
use Rattle.account.proofs.Balance.{law_shaped, law_ranged, law_covered}
use Rattle.account.proofs.Moves.{kept_by}
use Rattle.account.proofs.account.Account.issued.Goals as goal

pub overflow_add-issued_by : goal.overflow_add-issued_by
overflow_add-issued_by c =
    let a = c.args.self.now in
    let d = c.args.depot in
    let k = kept_by (counter_of a.tally) (law_ranged a.tally a.law) (law_covered a.tally a.law) in
    let small : c.issued_by.result ≤ limit = omega (arith, c.issued_by.ensures, k.issues d.number d.least d.most) in
    search rules

pub with_issued-requires : goal.with_issued-requires
with_issued-requires c =
    let a = c.args.self.now in
    record { room = omega (arith, c.issued_by.ensures); shape = law_shaped a.tally a.law }
