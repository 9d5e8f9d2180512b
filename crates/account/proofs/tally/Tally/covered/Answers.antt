use Rattle.std.proofs.Common.{◌≡◌, ℕ, ◌-◌, true, false, get_or, leb, sym, ap, ◌∙◌, arith, rules}
use borrow.Author.Tests.{tests}
use Rattle.std.proofs.lemmas.Iterator.{cases_from_all, YieldsList-from_slice}
use Rattle.account.specs.Counter.{had, gave}
use Rattle.account.specs.Lawful.{covered}
use Rattle.account.specs.Numbers.{numbers}
use Rattle.account.specs.Tallies.{counter_of}
use Rattle.account.specs.declared.depot_number.DepotNumber.{DepotNumber}
use Rattle.account.proofs.Depots.{first, eight_long, number_at}
use Rattle.account.proofs.Each.{each_by, each_same}
use Rattle.account.proofs.Limits.{covers_at}
use Rattle.account.proofs.tally.Tally.covered.Goals as goal

pub returns : goal.returns
unfolding covered
returns c =
    let k = counter_of c.args.self.now in
    let ds = c.iter.result.rest.now in
    let all = ap numbers c.iter.ensures.rest ∙ c.all.ensures in
    let test = λ (d : DepotNumber). leb (gave k d.number) (had k d.number) in
    let tested = each_by test first ds 8 (eight_long ds all) _ (cases_from_all _ _ _ (λ d. test d ≡ true) (λ d. test d ≡ false) c.all-2.ensures.ran (YieldsList-from_slice ds cc) (λ x q k. search (rules, tests)) (λ x q k. search (rules, tests))) in
    tested ∙ each_same 8 _ _ (λ j a b. let n : (get_or ds (j - 1) first).number ≡ j = omega (arith, number_at ds all (j - 1) first (omega arith)) in ap (λ (m : ℕ). leb (gave k m) (had k m)) n ∙ sym (covers_at k j))
