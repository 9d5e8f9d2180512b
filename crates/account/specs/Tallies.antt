-- A tally as a bounded counter: the reserve is the minimum, depots are the replicas, numbered 1 to 8.
use Rattle.std.specs.Prelude.{ℕ, ◌+◌, ◌-◌, List, [], map, ℤ, slice_index, slice_index_or, slice_set}
use Rattle.std.specs.List.{range_with_len}
use Rattle.account.specs.Counter.{Counter, value, rights}
use Rattle.account.specs.declared.tally.Row.{Row}
use Rattle.account.specs.declared.tally.Tally.{Tally}

-- the greatest count, amount and reserve
abbrev pub limit : ℕ
limit = 1000000000

abbrev pub no_row : Row
no_row = record { counts = [] }

-- the count for depot j
abbrev pub count : Row → ℕ → ℕ
count r j = slice_index r.counts (j - 1)

abbrev pub row : Tally → ℕ → Row
row t i = slice_index_or t.rows (i - 1) no_row

-- R(i, j): what depot i took in, where j is i, and else what it handed over to j
abbrev pub handed : Tally → ℕ → ℕ → ℕ
handed t i j = count (row t i) j

-- U(i): what depot i issued
abbrev pub issued_by : Tally → ℕ → ℕ
issued_by t i = count t.issued i

abbrev pub counter_of : Tally → Counter
counter_of t = record { R = handed t; U = issued_by t; minimum = t.reserve }

-- f 1 to f 8
unfoldable pub eight : {X : Type 0} → (ℕ → X) → List X
eight f = map f (range_with_len 1 8)

abbrev pub row_of : (ℕ → ℕ) → Row
row_of f = record { counts = eight f }

-- the tally with the counts of a counter
abbrev pub tally_of : Counter → Tally
tally_of c = record { reserve = c.minimum; rows = eight (λ i. row_of (c.R i)); issued = row_of c.U }

-- the free stock of depot j; it is below 0 in some tallies, and in no account
abbrev pub free : Tally → ℕ → ℤ
free t j = rights (counter_of t) j

abbrev pub stock : Tally → ℤ
stock t = value (counter_of t)

-- the row with depot j's count n more
abbrev pub row_raised : Row → ℕ → ℕ → Row
row_raised r j n = record { counts = slice_set r.counts (j - 1) (count r j + n) }
