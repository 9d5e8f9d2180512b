-- Depot i + 1 has the count at place i.
use Rattle.std.proofs.Common.{◌≡◌, ℕ, ◌+◌, ◌-◌, get_or, ap, arith}
use Rattle.account.specs.Tallies.{no_row, count, row}
use Rattle.account.specs.declared.tally.Row.{Row}
use Rattle.account.specs.declared.tally.Tally.{Tally}

back : (i : ℕ) → i + 1 - 1 ≡ i
back i = omega arith

pub count_at : (r : Row) (i : ℕ) → count r (i + 1) ≡ get_or r.counts i 0
count_at r i = ap (λ (k : ℕ). get_or r.counts k 0) (back i)

pub row_at : (t : Tally) (i : ℕ) → row t (i + 1) ≡ get_or t.rows i no_row
row_at t i = ap (λ (k : ℕ). get_or t.rows k no_row) (back i)
