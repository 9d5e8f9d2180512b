-- Emptying slots from the front, and what emptied slots mean.
use Rattle.std.proofs.Common.{◌≡◌, ℕ, zero, suc, ◌<◌, min, Bool, true, false, cond, not, eqb, List, ◌++◌, length, take, drop, replicate, is_some, None, Option, refl, ap, ◌∙◌, inl, inr, append-nil, arith}
use Rattle.std.proofs.lemmas.List.{length-replicate, length-take, drop_all, take_all, take_at, take_min, drop_min}
use Rattle.std.proofs.lemmas.Bool.{cases_lt, or_left}
use Rattle.std.specs.Option.{option_map, option_or}
use Rattle.table.specs.declared.slot.Slot.{Slot}
use Rattle.table.specs.Tables.{account_of, unused, held, at, any_unused, front_of, table_meaning, empty, emptied}

pub empty_all : (ss front : List Slot) (n : ℕ) → n ≡ min (length ss) 64 → front ≡ replicate (length (take n ss)) empty → front ++ drop n ss ≡ emptied ss
empty_all ss front n e f =
    let least : n ≡ min 64 (length ss) = omega arith in
    let used : take n ss ≡ front_of ss = ap (λ k. take k ss) least ∙ take_min 64 ss in
    let rest : drop n ss ≡ drop 64 ss = ap (λ k. drop k ss) least ∙ drop_min 64 ss in
    ap (λ l. l ++ drop n ss) (f ∙ ap (λ l. replicate (length l) empty) used) ∙ ap (λ l. replicate (length (front_of ss)) empty ++ l) rest

-- the slots that a table uses are then all empty
pub front-emptied : (ss : List Slot) → front_of (emptied ss) ≡ replicate (length (front_of ss)) empty
front-emptied ss =
    let n = length (front_of ss) in
    let long : length (replicate n empty) ≡ n = length-replicate n empty in
    let most : n ≡ min 64 (length ss) = length-take 64 ss in
    elim (cases_lt (length ss) 64) [
      | inl h ↦
          ap (λ l. take 64 (replicate n empty ++ l)) (drop_all 64 ss (omega arith))
          ∙ ap (take 64) (append-nil (replicate n empty))
          ∙ take_all 64 (replicate n empty) (omega arith)
      | inr h ↦ take_at (replicate n empty) (drop 64 ss) 64 (omega arith)
    ]

empty-unused : account_of empty ≡ None
unfolding account_of
empty-unused = refl

copies_none : (n p : ℕ) → at (replicate n empty) p ≡ None
copies_none zero p = refl
copies_none (suc n) p =
    let none : held p empty ≡ None = ap (λ o. cond (eqb 0 p) o None) empty-unused ∙ cond_same (eqb 0 p) in
    ap (λ o. option_or (option_map (λ x. record { version = 0; account = x }) o) (at (replicate n empty) p)) none ∙ copies_none n p
  where
    cond_same : {X : Type 0} (b : Bool) → cond {A = Option X} b None None ≡ None
    cond_same true = refl
    cond_same false = refl

copies_unused : (n : ℕ) → 0 < n → any_unused (replicate n empty) ≡ true
copies_unused zero h = absurd (omega arith)
copies_unused (suc n) h = or_left (unused empty) (any_unused (replicate n empty)) (ap (λ o. not (is_some o)) empty-unused)

-- an empty table has no records, and takes new parts if it has a slot
pub emptied-none : (ss : List Slot) (p : ℕ) → (table_meaning (emptied ss)).records p ≡ None
emptied-none ss p = ap (λ l. at l p) (front-emptied ss) ∙ copies_none (length (front_of ss)) p

pub emptied-takes : (ss : List Slot) → 0 < length ss → (table_meaning (emptied ss)).takes_new ≡ true
emptied-takes ss h = ap any_unused (front-emptied ss) ∙ copies_unused (length (front_of ss)) (omega (arith, length-take 64 ss))
