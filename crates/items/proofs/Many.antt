-- The loop that reads so many values, one after another.
use Rattle.std.proofs.Common.{◌≡◌, ℕ, zero, suc, ◌+◌, ◌<◌, ◌≤◌, List, [], ◌∷◌, ◌++◌, length, take, set, Ok, Err, Result, sym, refl, ap, ◌∙◌, arith}
use Rattle.std.proofs.lemmas.List.{append_assoc, append-nil, length-set, take_all, take_more_set}
use Rattle.account.specs.declared.refusal.Refusal.{Refusal}
use Rattle.numbers.specs.Reading.{Reading, and_then, many}

module _ {X : Type 0} (read : Reading X) where
  -- values read, after those read before
  abbrev onto : List X → Result (List X × ℕ) Refusal → Result (List X × ℕ) Refusal
  onto xs r = and_then r (λ g. Ok (xs ++ g.0, g.1))

  onto-none : (r : Result (List X × ℕ) Refusal) → onto [] r ≡ r
  onto-none (Ok g) = refl
  onto-none (Err e) = refl

  onto_more : (xs : List X) (x : X) (r : Result (List X × ℕ) Refusal) → onto xs (and_then r (λ g. Ok (x ∷ g.0, g.1))) ≡ onto (xs ++ x ∷ []) r
  onto_more xs x (Ok g) = ap (λ (l : List X). Ok (l, g.1)) (sym (append_assoc xs (x ∷ []) g.0))
  onto_more xs x (Err e) = refl

  -- i of the values are read into xs, which has room for them all, and the next stands at q
  abbrev pub Counted : ℕ → List ℕ → ℕ → List X → ℕ → ℕ → Type 0
  Counted all bs p xs i q =
      (k : ℕ) × (k + i ≡ all) × (length xs ≡ all) × (many read all bs p ≡ onto (take i xs) (many read k bs q))

  pub counted_none : (all : ℕ) (bs : List ℕ) (p : ℕ) (xs : List X) → length xs ≡ all → Counted all bs p xs 0 p
  counted_none all bs p xs h = (all, omega arith, h, sym (onto-none (many read all bs p)))

  module _ (all : ℕ) (bs : List ℕ) (p : ℕ) (xs : List X) (i q : ℕ) (within : i < all) where
    step : (k : ℕ) → k + i ≡ all → (j : ℕ) × (k ≡ suc j)
    step zero e = absurd (let z : zero + i ≡ all = e in omega arith)
    step (suc j) e = (j, refl)

    at_more : (k j : ℕ) (x : X) (next : ℕ) → k ≡ suc j → read bs q ≡ Ok (x, next) → onto (take i xs) (many read k bs q) ≡ onto (take i xs ++ x ∷ []) (many read j bs next)
    unfolding many
    at_more k j x next e r = rw (e, r) (onto_more (take i xs) x (many read j bs next))

    at_err : (k j : ℕ) (f : Refusal) → k ≡ suc j → read bs q ≡ Err f → onto (take i xs) (many read k bs q) ≡ Err f
    unfolding many
    at_err k j f e r = rw (e, r)

    pub counted_more : (x : X) (next : ℕ) → read bs q ≡ Ok (x, next) → Counted all bs p xs i q → Counted all bs p (set xs i x) (i + 1) next
    counted_more x next r c =
        let s = step c.0 c.1 in
        let within' : i < length xs = omega (arith, c.2) in (
          s.0,
          omega (arith, c.1, s.1),
          length-set xs i x ∙ c.2,
          c.3 ∙ at_more c.0 s.0 x next s.1 r ∙ ap (λ (l : List X). onto l (many read s.0 bs next)) (sym (take_more_set xs i x within')),
        )

    pub counted_err : (f : Refusal) → read bs q ≡ Err f → Counted all bs p xs i q → many read all bs p ≡ Err f
    counted_err f r c = let s = step c.0 c.1 in c.3 ∙ at_err c.0 s.0 f s.1 r

  onto-end : (k : ℕ) (bs : List ℕ) (xs : List X) (q : ℕ) → k ≡ 0 → onto xs (many read k bs q) ≡ Ok (xs, q)
  unfolding many
  onto-end zero bs xs q e = ap (λ (l : List X). Ok (l, q)) (append-nil xs)
  onto-end (suc k) bs xs q e = absurd (let z : suc k ≡ 0 = e in omega arith)

  pub counted_all : (all : ℕ) (bs : List ℕ) (p : ℕ) (xs : List X) (i q : ℕ) → all ≤ i → Counted all bs p xs i q → many read all bs p ≡ Ok (xs, q)
  counted_all all bs p xs i q h c =
      c.3 ∙ onto-end c.0 bs (take i xs) q (omega (arith, c.1)) ∙ ap (λ (l : List X). Ok (l, q)) (take_all i xs (omega (arith, c.2)))
