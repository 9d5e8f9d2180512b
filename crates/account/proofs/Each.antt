-- What a test of each depot tells.
use Rattle.std.proofs.Common.{◌≡◌, ℕ, zero, suc, ◌+◌, ◌-◌, ◌<◌, ◌≤◌, Bool, true, false, ◌≢◌, List, length, get_or, sym, refl, ap, ◌∙◌, ⊎_elim, arith}
use Rattle.std.specs.Bool.{MatchBool}
use Rattle.std.specs.List.{AllWithin, HoldsAt}
use Rattle.std.proofs.lemmas.Bool.{cases_eq, and_parts, and_from, and_left, and_right}
use Rattle.account.specs.Lawful.{each}

pub each-here : (n : ℕ) (f : ℕ → Bool) → each n f ≡ true → (k : ℕ) → 1 ≤ k → k ≤ n → f k ≡ true
unfolding each
each-here zero f h k a b = absurd (omega arith)
each-here (suc n) f h k a b =
    let both = and_parts (each n f) (f (suc n)) h in
    ⊎_elim (λ (e : k ≡ suc n). ap f e ∙ both.1) (λ (ne : k ≢ suc n). each-here n f both.0 k a (omega arith)) (cases_eq k (suc n))

pub each_from : (n : ℕ) (f : ℕ → Bool) → ((k : ℕ) → 1 ≤ k → k ≤ n → f k ≡ true) → each n f ≡ true
unfolding each
each_from zero f h = refl
each_from (suc n) f h = and_from (each n f) (f (suc n)) (each_from n f (λ k a b. h k a (omega arith))) (h (suc n) (omega arith) (omega arith))

-- one that fails
pub each_not : (n : ℕ) (f : ℕ → Bool) (k : ℕ) → 1 ≤ k → k ≤ n → f k ≡ false → each n f ≡ false
unfolding each
each_not zero f k a b h = absurd (omega arith)
each_not (suc n) f k a b h =
    ⊎_elim (λ (e : k ≡ suc n). and_right (each n f) (f (suc n)) (ap f (sym e) ∙ h)) (λ (ne : k ≢ suc n). and_left (each n f) (f (suc n)) (each_not n f k a (omega arith) h)) (cases_eq k (suc n))

pub each_same : (n : ℕ) (f g : ℕ → Bool) → ((k : ℕ) → 1 ≤ k → k ≤ n → g k ≡ f k) → each n g ≡ each n f
unfolding each
each_same zero f g h = refl
each_same (suc n) f g h = let here = h (suc n) (omega arith) (omega arith) in let rest = each_same n f g (λ k a b. h k a (omega arith)) in cc

-- what a test of all items of a list answers
pub each_by : {X : Type 0} (p : X → Bool) (d : X) (xs : List X) (n : ℕ) → length xs ≡ n → (b : Bool)
    → MatchBool b (AllWithin (λ x. p x ≡ true) xs 0 (length xs)) ((k : ℕ) × (k < length xs) × HoldsAt (λ x. p x ≡ false) xs k)
    → b ≡ each n (λ k. p (get_or xs (k - 1) d))
each_by p d xs n l true h = sym (each_from n _ (λ k a b. h (k - 1) d (omega arith) (omega (arith, l))))
each_by p d xs n l false h =
    let back : h.0 + 1 - 1 ≡ h.0 = omega arith in
    sym (each_not n _ (h.0 + 1) (omega arith) (omega (arith, l, h.1)) (ap (λ (k : ℕ). p (get_or xs k d)) back ∙ h.2 d))
