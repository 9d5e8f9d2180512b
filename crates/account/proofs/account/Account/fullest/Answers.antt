use Rattle.std.proofs.Common.{◌≡◌, ℕ, refl, ap, ◌∙◌, arith, rules}
use Rattle.account.specs.Advice.{best_of}
use Rattle.account.proofs.Depots.{number_at}
use Rattle.account.proofs.Advising.{best_more, advice_names_the_fullest}
use Rattle.account.proofs.account.Account.fullest.Goals as goal

pub loop-depot-init : goal.loop-depot-init
unfolding best_of
loop-depot-init c = refl

pub loop-depot-preserved : goal.loop-depot-preserved
loop-depot-preserved c =
    let more = best_more c.args.self.now c.args.asking.number c.args.amount c.loop-depot.depot-index in
    let is = c.depot-item.is in
    let here = number_at _ c.all-depot-items.ensures c.loop-depot.depot-index c.depot-item.result c.loop-depot-test.true in
    search rules

pub returns : goal.returns
returns c =
    let all : c.loop-depot.depot-index ≡ 8 = omega arith in
    record { choice = c.loop-depot.invariant ∙ ap (λ (k : ℕ). best_of c.args.self.now c.args.asking.number c.args.amount k) all; law = advice_names_the_fullest }
