use Rattle.std.proofs.Common.{◌≡◌, true, false, leb, length, rules}
use borrow.Author.Tests.{tests}
use Rattle.std.proofs.lemmas.Iterator.{cases_from_all, YieldsList-from_slice}
use Rattle.account.specs.Lawful.{within}
use Rattle.account.specs.Tallies.{limit}
use Rattle.account.proofs.Each.{each_by}
use Rattle.account.proofs.tally.Row.ranged.Goals as goal

pub returns-clause-tells : goal.returns-clause-tells
unfolding within
returns-clause-tells c =
    let counts = c.args.self.counts in
    let long : length counts ≡ 8 = search rules in
    each_by (λ n. leb n limit) 0 counts 8 long _ (cases_from_all _ _ _ (λ n. leb n limit ≡ true) (λ n. leb n limit ≡ false) c.all.ensures.ran (YieldsList-from_slice counts cc) (λ x q k. search (rules, tests)) (λ x q k. search (rules, tests)))
