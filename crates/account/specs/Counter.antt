-- The bounded counter of eight replicas, by itself. Replicas are numbered from 1.
use Rattle.std.specs.Prelude.{ℕ, zero, suc, ◌+◌, max, cond, ◌&&◌, ℤ, pos, ◌-ℤ◌, ◌==◌}

-- R i i is what replica i added, R i j what it passed on to j, U i what it used up; the value stays at or above the minimum
pub record Counter : Type 0 where
  pub R : ℕ → ℕ → ℕ
  pub U : ℕ → ℕ
  pub minimum : ℕ

-- f 1 + f 2 + .. + f n
unfoldable pub total : ℕ → (ℕ → ℕ) → ℕ
total zero f = 0
total (suc n) f = total n f + f (suc n)

-- the same over all replicas but i
abbrev pub others : ℕ → (ℕ → ℕ) → ℕ
others i f = total 8 (λ k. cond (k == i) 0 (f k))

-- what all added, and what all used up
abbrev pub added : Counter → ℕ
added c = total 8 (λ i. c.R i i)

abbrev pub used : Counter → ℕ
used c = total 8 c.U

abbrev pub value : Counter → ℤ
value c = pos (c.minimum + added c) -ℤ pos (used c)

-- what replica i has had, and what it has given
abbrev pub had : Counter → ℕ → ℕ
had c i = c.R i i + others i (λ k. c.R k i)

abbrev pub gave : Counter → ℕ → ℕ
gave c i = others i (λ k. c.R i k) + c.U i

-- the local rights: what replica i may use up or pass on without asking another
abbrev pub rights : Counter → ℕ → ℤ
rights c i = pos (had c i) -ℤ pos (gave c i)

abbrev pub empty : ℕ → Counter
empty m = record { R = λ i j. 0; U = λ i. 0; minimum = m }

-- R i j is n more
abbrev pub raised : (ℕ → ℕ → ℕ) → ℕ → ℕ → ℕ → ℕ → ℕ → ℕ
raised R i j n k l = cond (k == i && l == j) (R k l + n) (R k l)

abbrev pub increment : Counter → ℕ → ℕ → Counter
increment c i n = record { R = raised c.R i i n; U = c.U; minimum = c.minimum }

abbrev pub decrement : Counter → ℕ → ℕ → Counter
decrement c i n = record { R = c.R; U = λ k. cond (k == i) (c.U k + n) (c.U k); minimum = c.minimum }

abbrev pub transfer : Counter → ℕ → ℕ → ℕ → Counter
transfer c i j n = record { R = raised c.R i j n; U = c.U; minimum = c.minimum }

-- the greater of each pair
abbrev pub merge : Counter → Counter → Counter
merge c d = record { R = λ i j. max (c.R i j) (d.R i j); U = λ i. max (c.U i) (d.U i); minimum = c.minimum }
