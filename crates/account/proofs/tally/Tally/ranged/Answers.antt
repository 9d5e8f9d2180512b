use Rattle.std.proofs.Common.{◌≡◌, Bool, true, false, ◌&&◌, length, sym, ap, ◌∙◌, arith, rules}
use borrow.Author.Tests.{tests}
use Rattle.std.proofs.lemmas.Bool.{and_right}
use Rattle.std.proofs.lemmas.Iterator.{cases_from_all, YieldsList-from_slice}
use Rattle.account.specs.Lawful.{shaped, within, ranged}
use Rattle.account.specs.Tallies.{no_row, count, counter_of}
use Rattle.account.proofs.Limits.{RowsPassed, row_not, reserve_not, shape_passed, range_passed}
use Rattle.account.proofs.tally.Tally.ranged.Goals as goal

pub returns-then-self-gt-LIMIT : goal.returns-then-self-gt-LIMIT
returns-then-self-gt-LIMIT c =
    let t = c.args.self.now in
    sym (and_right (shaped t) (ranged (counter_of t)) (reserve_not t c.if-self-gt-LIMIT.true))

pub returns-then-all : goal.returns-then-all
returns-then-all c =
    let t = c.args.self.now in
    let long : length t.rows ≡ 8 = search rules in
    let cases = cases_from_all _ _ _ (λ r. (within (count r) ≡ true) × (length r.counts ≡ 8)) (λ r. within (count r) ≡ false) c.all.ensures.ran (YieldsList-from_slice t.rows cc) (λ x q k. search (rules, tests)) (λ x q k. search (rules, tests)) in
    let passed = rw c.if-all.true at cases in
    let rows : RowsPassed t = λ k h. let row = passed k no_row (omega arith) (omega (arith, long)) in (long, row.1, row.0) in
    c.ranged.ensures.tells ∙ sym (range_passed t rows (omega arith)) ∙ ap (λ (b : Bool). b && ranged (counter_of t)) (sym (shape_passed t rows c.ranged.ensures.long))

pub returns-else-all : goal.returns-else-all
returns-else-all c =
    let t = c.args.self.now in
    let long : length t.rows ≡ 8 = search rules in
    let cases = cases_from_all _ _ _ (λ r. (within (count r) ≡ true) × (length r.counts ≡ 8)) (λ r. within (count r) ≡ false) c.all.ensures.ran (YieldsList-from_slice t.rows cc) (λ x q k. search (rules, tests)) (λ x q k. search (rules, tests)) in
    let failed = rw c.if-all.false at cases in
    c.if-all.false ∙ sym (and_right (shaped t) (ranged (counter_of t)) (row_not t failed.0 (omega (arith, long, failed.1)) (failed.2 no_row)))
