-- Laws of sums over depots.
use Rattle.std.proofs.Common.{◌≡◌, ℕ, zero, suc, ◌+◌, ◌-◌, ◌*◌, ◌≤◌, List, length, take, get_or, sum_by, cond, eqb, ◌≢◌, sym, refl, ap, ◌∙◌, ⊎_elim, add-mul, arith}
use Rattle.std.proofs.lemmas.List.{take_all}
use Rattle.std.proofs.lemmas.List.Sums.{sum_by_more}
use Rattle.std.proofs.lemmas.Bool.{cases_eq}
use Rattle.std.proofs.lemmas.Bool.Decides.{nat_tests}
use Rattle.account.specs.Counter.{total, others}

pub total-same : (n : ℕ) (f g : ℕ → ℕ) → ((k : ℕ) → 1 ≤ k → k ≤ n → g k ≡ f k) → total n g ≡ total n f
unfolding total
total-same zero f g h = refl
total-same (suc n) f g h = omega (arith, h (suc n) (omega arith) (omega arith), total-same n f g (λ k a b. h k a (omega arith)))

-- one of the terms is d more
pub total-one : (n : ℕ) (f g : ℕ → ℕ) (i d : ℕ) → 1 ≤ i → i ≤ n → g i ≡ f i + d → ((k : ℕ) → k ≢ i → g k ≡ f k) → total n g ≡ total n f + d
unfolding total
total-one zero f g i d l m here there = omega arith
total-one (suc n) f g i d l m here there =
    ⊎_elim
    (λ (e : suc n ≡ i).
    let last : g (suc n) ≡ f (suc n) + d = rw e here in
    omega (arith, last, total-same n f g (λ k a b. there k (omega arith))))
    (λ (ne : suc n ≢ i). omega (arith, there (suc n) ne, total-one n f g i d l (omega arith) here there))
    (cases_eq (suc n) i)

pub total_add : (n : ℕ) (f g : ℕ → ℕ) → total n (λ k. f k + g k) ≡ total n f + total n g
unfolding total
total_add zero f g = refl
total_add (suc n) f g = omega (arith, total_add n f g)

total_zero : (n : ℕ) → total n (λ k. 0) ≡ 0
unfolding total
total_zero zero = refl
total_zero (suc n) = omega (arith, total_zero n)

-- rows first or columns first
pub total_swap : (m n : ℕ) (f : ℕ → ℕ → ℕ) → total m (λ i. total n (λ j. f i j)) ≡ total n (λ j. total m (λ i. f i j))
unfolding total
total_swap zero n f = sym (total_zero n)
total_swap (suc m) n f = omega (arith, total_swap m n f, total_add n (λ j. total m (λ i. f i j)) (f (suc m)))

pub total_le : (n : ℕ) (f g : ℕ → ℕ) → ((k : ℕ) → 1 ≤ k → k ≤ n → f k ≤ g k) → total n f ≤ total n g
unfolding total
total_le zero f g h = omega arith
total_le (suc n) f g h = omega (arith, h (suc n) (omega arith) (omega arith), total_le n f g (λ k a b. h k a (omega arith)))

skip_here : (j x : ℕ) → x ≡ cond (eqb j j) 0 x + x
skip_here j x = grind (arith, nat_tests)

skip_there : (k j x : ℕ) → k ≢ j → x ≡ cond (eqb k j) 0 x
skip_there k j x ne = grind (arith, nat_tests)

-- the others and j itself are all
pub others_all : (j : ℕ) (f : ℕ → ℕ) → 1 ≤ j → j ≤ 8 → total 8 f ≡ others j f + f j
others_all j f l m = total-one 8 (λ k. cond (eqb k j) 0 (f k)) f j (f j) l m (skip_here j (f j)) (λ k ne. skip_there k j (f k) ne)

left_out : (k j x y : ℕ) → (k ≢ j → y ≡ x) → cond (eqb k j) 0 y ≡ cond (eqb k j) 0 x
left_out k j x y h = ⊎_elim (λ (e : k ≡ j). grind (arith, nat_tests)) (λ (ne : k ≢ j). ap (cond (eqb k j) 0) (h ne)) (cases_eq k j)

pub others_same : (j : ℕ) (f g : ℕ → ℕ) → ((k : ℕ) → 1 ≤ k → k ≤ 8 → k ≢ j → g k ≡ f k) → others j g ≡ others j f
others_same j f g h = total-same 8 _ _ (λ k a b. left_out k j (f k) (g k) (h k a b))

out_le : (k j x y : ℕ) → x ≤ y → cond (eqb k j) 0 x ≤ cond (eqb k j) 0 y
out_le k j x y h = grind (arith, nat_tests)

pub others_le : (j : ℕ) (f g : ℕ → ℕ) → ((k : ℕ) → f k ≤ g k) → others j f ≤ others j g
others_le j f g h = total_le 8 _ _ (λ k a b. out_le k j (f k) (g k) (h k))

more_there : (k j x y d : ℕ) → k ≢ j → y ≡ x + d → cond (eqb k j) 0 y ≡ cond (eqb k j) 0 x + d
more_there k j x y d ne e = grind (arith, nat_tests)

-- one of the others is d more
pub others-one : (j : ℕ) (f g : ℕ → ℕ) (i d : ℕ) → 1 ≤ i → i ≤ 8 → i ≢ j → g i ≡ f i + d → ((k : ℕ) → k ≢ i → g k ≡ f k) → others j g ≡ others j f + d
others-one j f g i d l m ne here there =
    total-one 8 (λ k. cond (eqb k j) 0 (f k)) (λ k. cond (eqb k j) 0 (g k)) i d l m (more_there i j (f i) (g i) d ne here) (λ k apart. left_out k j (f k) (g k) (λ _. there k apart))

-- a sum over the first n items of a list
listed : {X : Type 0} (g : X → ℕ) (d : X) (xs : List X) (n : ℕ) → n ≤ length xs → sum_by g (take n xs) ≡ total n (λ k. g (get_or xs (k - 1) d))
unfolding total
listed g d xs zero h = refl
listed g d xs (suc n) h =
    let one : suc n ≡ n + 1 = omega arith in
    let back : suc n - 1 ≡ n = omega arith in
    let step = ap (λ (m : ℕ). sum_by g (take m xs)) one ∙ sum_by_more g xs n d (omega arith) in
    omega (arith, step, listed g d xs n (omega arith), ap (λ (k : ℕ). g (get_or xs k d)) back)

pub sum-listed : {X : Type 0} (g : X → ℕ) (d : X) (xs : List X) (n : ℕ) → length xs ≡ n → sum_by g xs ≡ total n (λ k. g (get_or xs (k - 1) d))
sum-listed g d xs n l = ap (sum_by g) (sym (take_all n xs (omega (arith, l)))) ∙ listed g d xs n (omega (arith, l))

pub total_most : (n b : ℕ) (f : ℕ → ℕ) → ((k : ℕ) → 1 ≤ k → k ≤ n → f k ≤ b) → total n f ≤ n * b
unfolding total
total_most zero b f h = omega arith
total_most (suc n) b f h = omega (arith, h (suc n) (omega arith) (omega arith), total_most n b f (λ k a c. h k a (omega arith)), add-mul n 1 b)
