-- The front of some bytes, and what is written there.
use Rattle.std.proofs.Common.{◌≡◌, ℕ, ◌+◌, ◌<◌, ◌≤◌, List, [], ◌∷◌, ◌++◌, length, take, drop, set, sym, ap, ◌∙◌, inl, inr, add-one, arith}
use Rattle.std.proofs.lemmas.List.{append_assoc, length-take, length-take-le, take_all, take_at, take-append-drop, take-append-le, drop-append-le, set_split}
use Rattle.std.proofs.lemmas.Bool.{cases_lt}
use Rattle.items.specs.Writing.{put}
use Rattle.items.proofs.Puts.{length-put}

pub set_put : (xs : List ℕ) (p b : ℕ) → p < length xs → set xs p b ≡ put xs p (b ∷ [])
set_put xs p b h = set_split xs p b h ∙ ap (λ (n : ℕ). take p xs ++ b ∷ drop n xs) (sym (add-one p))

-- what is written within a front leaves the rest
put-before : (xs rest : List ℕ) (p : ℕ) (ys : List ℕ) → p + length ys ≤ length xs → put (xs ++ rest) p ys ≡ put xs p ys ++ rest
put-before xs rest p ys h =
    let n = p + length ys in
    ap (λ (z : List ℕ). z ++ (ys ++ drop n (xs ++ rest))) (take-append-le p xs rest (omega arith))
    ∙ ap (λ (z : List ℕ). take p xs ++ (ys ++ z)) (drop-append-le n xs rest h)
    ∙ ap (λ (z : List ℕ). take p xs ++ z) (sym (append_assoc ys (drop n xs) rest))
    ∙ sym (append_assoc (take p xs) (ys ++ drop n xs) rest)

pub put_front : (xs : List ℕ) (n p : ℕ) (ys : List ℕ) → p + length ys ≤ length (take n xs) → take n (put xs p ys) ≡ put (take n xs) p ys
put_front xs n p ys h =
    let len = length-take n xs in
    elim (cases_lt (length xs) n) [
      | inl l ↦
          take_all n (put xs p ys) (omega (arith, length-put xs p ys (omega arith)))
          ∙ ap (λ (z : List ℕ). put z p ys) (sym (take_all n xs (omega arith)))
      | inr l ↦
          ap (λ (z : List ℕ). take n (put z p ys)) (sym (take-append-drop n xs))
          ∙ ap (take n) (put-before (take n xs) (drop n xs) p ys h)
          ∙ take_at (put (take n xs) p ys) (drop n xs) n (length-put (take n xs) p ys h ∙ length-take-le n xs l)
    ]
