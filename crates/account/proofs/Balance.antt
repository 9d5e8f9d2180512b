-- All rights together are what was added less what was used up.
use Rattle.std.proofs.Common.{◌≡◌, ℕ, ◌+◌, ◌-◌, ◌≤◌, true, ◌&&◌, pos, ◌-ℤ◌, arith}
use Rattle.std.proofs.lemmas.Int.{ints}
use Rattle.std.proofs.lemmas.Bool.{and_parts}
use Rattle.account.specs.Counter.{Counter, total, added, used, had, gave}
use Rattle.account.specs.Lawful.{shaped, ranged, covered, lawful}
use Rattle.account.specs.Tallies.{counter_of}
use Rattle.account.specs.declared.tally.Tally.{Tally}
use Rattle.account.proofs.Limits.{covered-here}
use Rattle.account.proofs.Totals.{total_add, total-same, total_swap, total_le, others_all}

-- what the law says of a tally
module _ (t : Tally) (law : lawful t ≡ true) where
  two : ((shaped t && ranged (counter_of t)) ≡ true) × (covered (counter_of t) ≡ true)
  unfolding lawful
  two = and_parts (shaped t && ranged (counter_of t)) (covered (counter_of t)) law

  pub law_shaped : shaped t ≡ true
  law_shaped = (and_parts (shaped t) (ranged (counter_of t)) two.0).0

  pub law_ranged : ranged (counter_of t) ≡ true
  law_ranged = (and_parts (shaped t) (ranged (counter_of t)) two.0).1

  pub law_covered : covered (counter_of t) ≡ true
  law_covered = two.1

module _ (c : Counter) where
  -- a column with its own count, and a row
  column : (j : ℕ) → 1 ≤ j → j ≤ 8 → had c j ≡ total 8 (λ i. c.R i j)
  column j a b = omega (arith, others_all j (λ i. c.R i j) a b)

  line : (j : ℕ) → 1 ≤ j → j ≤ 8 → gave c j + c.R j j ≡ total 8 (c.R j) + c.U j
  line j a b = omega (arith, others_all j (c.R j) a b)

  pub balance : total 8 (had c) + used c ≡ total 8 (gave c) + added c
  balance =
      omega
      (arith, total-same 8 (λ j. total 8 (λ i. c.R i j)) (had c) column, total-same 8 (λ j. total 8 (c.R j) + c.U j) (λ j. gave c j + c.R j j) line, total_add 8 (gave c) (λ j. c.R j j), total_add 8 (λ j. total 8 (c.R j)) c.U, total_swap 8 8 c.R)

  pub used-within : covered c ≡ true → used c ≤ added c
  used-within h = omega (arith, balance, total_le 8 (gave c) (had c) (covered-here c h))

-- figures as they are worked out
pub less : (a b x y : ℕ) → x ≡ a → y ≡ b → b ≤ a → pos (x - y) ≡ pos a -ℤ pos b
less a b x y p q h = omega (arith, ints)
