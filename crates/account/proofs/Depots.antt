-- All depots in turn, and a figure of each.
use Rattle.std.proofs.Common.{◌≡◌, ℕ, zero, suc, ◌+◌, ◌-◌, ◌<◌, ◌≤◌, ◌≢◌, List, length, get_or, sym, ap, ◌∙◌, subst, ⊎_elim, arith}
use denote.Param.Members.{Mut}
use Rattle.std.specs.Array.{IsFromFnResultFrom, IsFromFnResult, MapsFrom, IsMapOf}
use Rattle.std.specs.Fn.{Called}
use Rattle.std.specs.List.{range_with_len}
use Rattle.std.proofs.lemmas.Bool.{cases_eq}
use Rattle.std.proofs.lemmas.List.{get_or-map, length-map}
use Rattle.std.proofs.lemmas.List.FromFn.{get_or-range_with_len, length-range_with_len}
use Rattle.account.specs.Numbers.{numbers}
use Rattle.account.specs.Tallies.{eight}
use Rattle.account.specs.declared.depot_number.DepotNumber.{DepotNumber}
use Rattle.account.proofs.Tabled.{eight_is}

pub first : DepotNumber
first = record { number = 1; least = omega arith; most = omega arith }

-- what a closure that does not change gives of each item
module _ {F A B : Type 0} (g : Mut F (A × Unit {0}) B) (f : F) (h : A → B) (said : (x : A) (y : B) (q : F) → Called g f (x, tt) y q → (y ≡ h x) × (q ≡ f)) where
  mapped-at : (xs : List A) (ys : List B) (n i k : ℕ) (d : A) (e : B) → MapsFrom g f xs ys i n → i ≤ k → k < i + n → get_or ys k e ≡ h (get_or xs k d)
  mapped-at xs ys zero i k d e m a b = absurd (omega arith)
  mapped-at xs ys (suc n) i k d e m a b =
      let call = said m.1 m.2 m.0 m.5 in
      ⊎_elim
      (λ (is : k ≡ i). subst (λ (j : ℕ). get_or ys j e ≡ h (get_or xs j d)) (sym is) (m.4.1 e ∙ call.0 ∙ ap h (sym (m.3.1 d))))
      (λ (ne : k ≢ i). mapped-at xs ys n (i + 1) k d e (subst (λ (q : F). MapsFrom g q xs ys (i + 1) n) call.1 m.6) (omega arith) (omega arith))
      (cases_eq k i)

module _ (ds : List DepotNumber) (all : numbers ds ≡ range_with_len 1 8) where
  pub eight_long : length ds ≡ 8
  eight_long = sym (length-map ds (λ (d : DepotNumber). d.number)) ∙ ap length all ∙ length-range_with_len 1 8

  pub number_at : (k : ℕ) (d : DepotNumber) → k < 8 → (get_or ds k d).number ≡ k + 1
  number_at k d b =
      let here = sym (get_or-map (λ (e : DepotNumber). e.number) ds k d 0 (omega (arith, eight_long))) ∙ ap (λ (ns : List ℕ). get_or ns k 0) all in
      omega (arith, here, get_or-range_with_len 1 8 k 0 b)

  -- a figure of each depot in turn
  pub mapped_is : {F B : Type 0} (g : Mut F (DepotNumber × Unit {0}) B) (f : F) (ys : List B) (h : ℕ → B) (e : B) → IsMapOf g f ds ys 8 → ((d : DepotNumber) (y : B) (q : F) → Called g f (d, tt) y q → (y ≡ h d.number) × (q ≡ f)) → ys ≡ eight h
  mapped_is g f ys h e m said =
      eight_is ys e h m.long (λ j a b. let n : (get_or ds (j - 1) first).number ≡ j = omega (arith, number_at (j - 1) first (omega arith)) in mapped-at g f (λ d. h d.number) said ds ys 8 0 (j - 1) first e m.each (omega arith) (omega arith) ∙ ap h n)

-- a figure of each place in turn
module _ {F B : Type 0} (g : Mut F (ℕ × Unit {0}) B) (f : F) (h : ℕ → B) (said : (i : ℕ) (y : B) (q : F) → Called g f (i, tt) y q → (y ≡ h i) × (q ≡ f)) where
  made-at : (ys : List B) (n i k : ℕ) (e : B) → IsFromFnResultFrom g f ys i n → i ≤ k → k < i + n → get_or ys k e ≡ h k
  made-at ys zero i k e m a b = absurd (omega arith)
  made-at ys (suc n) i k e m a b =
      let call = said i m.1 m.0 m.3 in
      ⊎_elim
      (λ (is : k ≡ i). subst (λ (j : ℕ). get_or ys j e ≡ h j) (sym is) (m.2.1 e ∙ call.0))
      (λ (ne : k ≢ i). made-at ys n (i + 1) k e (subst (λ (q : F). IsFromFnResultFrom g q ys (i + 1) n) call.1 m.4) (omega arith) (omega arith))
      (cases_eq k i)

  pub made_is : (ys : List B) (e : B) → IsFromFnResult g f ys 8 → ys ≡ eight (λ j. h (j - 1))
  made_is ys e m =
      eight_is ys e (λ j. h (j - 1)) m.long (λ j a b. made-at ys 8 0 (j - 1) e m.each (omega arith) (omega arith))
