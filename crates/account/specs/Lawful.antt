-- The rules that a tally keeps to be an account.
use Rattle.std.specs.Prelude.{ℕ, zero, suc, Bool, true, ◌&&◌, leb, length, pos, ◌==◌, int_le, nat_eq, nat_le}
use Rattle.account.specs.Counter.{Counter, rights}
use Rattle.account.specs.Tallies.{limit, row, counter_of}
use Rattle.account.specs.declared.tally.Tally.{Tally}

-- f 1, f 2, .. and f n
unfoldable pub each : ℕ → (ℕ → Bool) → Bool
each zero f = true
each (suc n) f = each n f && f (suc n)

-- eight rows of eight counts, and eight counts of goods issued
unfoldable pub shaped : Tally → Bool
shaped t = length t.rows == 8 && each 8 (λ i. nat_eq (length (row t i).counts) 8) && length t.issued.counts == 8

-- no count of f is above the limit
unfoldable pub within : (ℕ → ℕ) → Bool
within f = each 8 (λ k. leb (f k) limit)

-- no number is above the limit
unfoldable pub ranged : Counter → Bool
ranged c = nat_le c.minimum limit && each 8 (λ i. within (c.R i)) && within c.U

-- no free stock is below 0
unfoldable pub covered : Counter → Bool
covered c = each 8 (λ j. int_le (pos 0) (rights c j))

unfoldable pub lawful : Tally → Bool
lawful t = shaped t && ranged (counter_of t) && covered (counter_of t)
