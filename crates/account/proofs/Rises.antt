-- How many counts rise at most.
use Rattle.std.proofs.Common.{ℕ, ◌≤◌, arith}
use Rattle.std.proofs.lemmas.Bool.Decides.{nat_tests}
use Rattle.account.specs.Counter.{total}
use Rattle.account.specs.Joins.{rose}
use Rattle.account.specs.Tallies.{handed}
use Rattle.account.specs.declared.tally.Tally.{Tally}
use Rattle.account.proofs.Totals.{total_most}

-- a count rises once at most
rose_most : (m n : ℕ) → rose m n ≤ 1
rose_most m n = grind (arith, nat_tests)

pub row-rises : (f g : ℕ → ℕ) → total 8 (λ j. rose (f j) (g j)) ≤ 8
row-rises f g = total_most 8 1 (λ j. rose (f j) (g j)) (λ k a b. rose_most (f k) (g k))

pub tally-rises : (t u : Tally) → total 8 (λ i. total 8 (λ j. rose (handed t i j) (handed u i j))) ≤ 64
tally-rises t u = total_most 8 8 (λ i. total 8 (λ j. rose (handed t i j) (handed u i j))) (λ k a b. row-rises (handed t k) (handed u k))
