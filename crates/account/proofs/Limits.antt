-- What the rules say of the numbers, and the loops that test them.
use Rattle.std.proofs.Common.{◌≡◌, ℕ, ◌+◌, ◌-◌, ◌<◌, ◌≤◌, Bool, true, false, ◌&&◌, eqb, leb, length, get_or, pos, ◌-ℤ◌, sym, refl, ap, ◌∙◌, arith}
use lib.Signed.{le_z}
use Rattle.std.proofs.lemmas.Int.{ints}
use Rattle.std.proofs.lemmas.Bool.{and_from, and_left, and_right, eq-eqb, le-leb, lt-leb, leb-true}
use Rattle.std.proofs.lemmas.Bool.Decides.{nat_tests}
use Rattle.account.specs.Counter.{Counter, rights, had, gave}
use Rattle.account.specs.Tallies.{limit, no_row, count, row, handed, issued_by, counter_of}
use Rattle.account.specs.Lawful.{each, shaped, within, ranged, covered}
use Rattle.account.specs.declared.tally.Row.{Row}
use Rattle.account.specs.declared.tally.Tally.{Tally}
use Rattle.account.proofs.Places.{row_at}
use Rattle.account.proofs.Each.{each-here, each_from, each_not}

-- a count is within the limit
pub within-here : (f : ℕ → ℕ) → within f ≡ true → (k : ℕ) → 1 ≤ k → k ≤ 8 → f k ≤ limit
unfolding within
within-here f h k a b = leb-true (f k) limit (each-here 8 (λ i. leb (f i) limit) h k a b)

pub within-from : (f : ℕ → ℕ) → ((k : ℕ) → 1 ≤ k → k ≤ 8 → f k ≤ limit) → within f ≡ true
unfolding within
within-from f h = each_from 8 (λ i. leb (f i) limit) (λ k a b. le-leb (f k) limit (h k a b))

-- rights of n or more
at_least : (n h g : ℕ) → le_z (pos n) (pos h -ℤ pos g) ≡ leb (g + n) h
at_least n h g = grind (arith, ints, nat_tests)

pub enough : (c : Counter) (n j : ℕ) → le_z (pos n) (rights c j) ≡ leb (gave c j + n) (had c j)
enough c n j = at_least n (had c j) (gave c j)

pub covered-here : (c : Counter) → covered c ≡ true → (j : ℕ) → 1 ≤ j → j ≤ 8 → gave c j ≤ had c j
unfolding covered
covered-here c h j a b =
    let one = leb-true (gave c j + 0) (had c j) (sym (enough c 0 j) ∙ each-here 8 (λ k. le_z (pos 0) (rights c k)) h j a b) in
    omega arith

-- the test of depot j
pub covers_at : (c : Counter) (j : ℕ) → le_z (pos 0) (rights c j) ≡ leb (gave c j) (had c j)
covers_at c j = enough c 0 j ∙ ap (λ (n : ℕ). leb n (had c j)) (omega arith)

pub covered-from : (c : Counter) → ((j : ℕ) → 1 ≤ j → j ≤ 8 → gave c j ≤ had c j) → covered c ≡ true
unfolding covered
covered-from c h =
    each_from 8 (λ k. le_z (pos 0) (rights c k)) (λ j a b. enough c 0 j ∙ le-leb (gave c j + 0) (had c j) (omega (arith, h j a b)))

-- a row above the limit, and a reserve above it
pub row_not : (t : Tally) (i : ℕ) → i < 8 → within (count (get_or t.rows i no_row)) ≡ false → ranged (counter_of t) ≡ false
unfolding ranged
row_not t i h e =
    let here : within (handed t (i + 1)) ≡ false = ap (λ (r : Row). within (count r)) (row_at t i) ∙ e in
    and_left (leb t.reserve limit && each 8 (λ k. within (handed t k))) (within (issued_by t)) (and_right (leb t.reserve limit) (each 8 (λ k. within (handed t k))) (each_not 8 (λ k. within (handed t k)) (i + 1) (omega arith) (omega arith) here))

pub reserve_not : (t : Tally) → limit < t.reserve → ranged (counter_of t) ≡ false
unfolding ranged
reserve_not t h =
    and_left (leb t.reserve limit && each 8 (λ k. within (handed t k))) (within (issued_by t)) (and_left (leb t.reserve limit) (each 8 (λ k. within (handed t k))) (lt-leb t.reserve limit h))

-- the eight rows passed: the goods issued decide
abbrev pub RowsPassed : Tally → Type 0
RowsPassed t = (k : ℕ) → k < 8 → (length t.rows ≡ 8) × (length (get_or t.rows k no_row).counts ≡ 8) × (within (count (get_or t.rows k no_row)) ≡ true)

pub shape_passed : (t : Tally) → RowsPassed t → length t.issued.counts ≡ 8 → shaped t ≡ true
unfolding shaped
shape_passed t h l =
    and_from (eqb (length t.rows) 8 && each 8 (λ i. eqb (length (row t i).counts) 8)) (eqb (length t.issued.counts) 8) (and_from (eqb (length t.rows) 8) (each 8 (λ i. eqb (length (row t i).counts) 8)) (eq-eqb _ 8 (h 0 (omega arith)).0) (each_from 8 _ (λ k a b. eq-eqb _ 8 (h (k - 1) (omega arith)).1))) (eq-eqb _ 8 l)

both_pass : (a b c : Bool) → a ≡ true → b ≡ true → (a && b && c) ≡ c
both_pass a b c p q = rw (p, q) refl

pub range_passed : (t : Tally) → RowsPassed t → t.reserve ≤ limit → ranged (counter_of t) ≡ within (count t.issued)
unfolding ranged
range_passed t h l =
    both_pass (leb t.reserve limit) (each 8 (λ k. within (handed t k))) (within (issued_by t)) (le-leb t.reserve limit l) (each_from 8 _ (λ k a b. (h (k - 1) (omega arith)).2))
