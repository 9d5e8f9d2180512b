-- The slot that a put finds, and what a write there comes to.
use Rattle.std.proofs.Common.{◌≡◌, ℕ, zero, suc, ◌+◌, ◌<◌, Bool, true, false, cond, eqb, List, [], ◌∷◌, length, set, is_some, Some, None, Option, sym, refl, ap, ◌∙◌, subst, arith}
use Rattle.std.proofs.lemmas.Bool.{both_ways, cond-true, cond_both, or_from, or_left, or_right, eqb-true}
use Rattle.std.proofs.lemmas.Bool.Decides.{nat_tests}
use Rattle.std.proofs.lemmas.Iterator.Adapters.{position_from-zero}
use Rattle.std.specs.List.{position, position_from}
use Rattle.std.specs.Option.{option_map, option_or}
use Rattle.account.specs.declared.account.Account.{Account}
use Rattle.store.specs.Meaning.{Record, with_record}
use Rattle.table.specs.declared.slot.Slot.{Slot}
use Rattle.table.specs.Tables.{unused, held, holds, record_of, at, any_unused, spot_of}

-- no slot passes; slot k is the first that passes
abbrev Without : (Slot → Bool) → List Slot → Type 0
Without t [] = Unit {0}
Without t (s ∷ ss) = (t s ≡ false) × Without t ss

abbrev First : (Slot → Bool) → List Slot → ℕ → Type 0
First t [] k = ⊥
First t (s ∷ ss) zero = t s ≡ true
First t (s ∷ ss) (suc k) = (t s ≡ false) × First t ss k

-- what a search that began at place n found
abbrev Found : (Slot → Bool) → ℕ → List Slot → Option ℕ → Type 0
Found t n ss None = Without t ss
Found t n ss (Some k) = (j : ℕ) × (k ≡ n + j) × First t ss j

later : (t : Slot → Bool) (n : ℕ) (s : Slot) (ss : List Slot) → t s ≡ false → (o : Option ℕ) → Found t (n + 1) ss o → Found t n (s ∷ ss) o
later t n s ss e None f = (e, f)
later t n s ss e (Some k) f = (suc f.0, omega arith, (e, f.2))

found_from : (t : Slot → Bool) (n : ℕ) (ss : List Slot) → Found t n ss (position_from t n ss)
found_from t n [] = tt
found_from t n (s ∷ ss) =
    let rest = position_from t (n + 1) ss in
    cond_both (t s) (Some n) rest (λ o. Found t n (s ∷ ss) o) (λ e. (0, omega arith, e)) (λ e. later t n s ss e rest (found_from t (n + 1) ss))

found : (t : Slot → Bool) (ss : List Slot) → Found t 0 ss (position t ss)
found t ss = subst (Found t 0 ss) (sym (position_from-zero t ss)) (found_from t 0 ss)

-- slot k may become part p's: no slot before it holds p, and it holds no other part
abbrev pub Spot : ℕ → List Slot → ℕ → Type 0
Spot p [] k = ⊥
Spot p (s ∷ ss) zero = (q : ℕ) → eqb q p ≡ false → holds q s ≡ false
Spot p (s ∷ ss) (suc k) = (holds p s ≡ false) × Spot p ss k

pub spot_within : (p : ℕ) (ss : List Slot) (k : ℕ) → Spot p ss k → k < length ss
spot_within p [] k f = absurd f
spot_within p (s ∷ ss) zero f = omega arith
spot_within p (s ∷ ss) (suc k) f = let h = spot_within p ss k f.1 in omega arith

-- of the slot before the others
some_or : {X Y : Type 0} (f : X → Y) (o : Option X) (r : Option Y) → is_some (option_or (option_map f o) r) ≡ cond (is_some o) true (is_some r)
some_or f None r = refl
some_or f (Some x) r = refl

none_or : {X Y : Type 0} (f : X → Y) (o : Option X) (r : Option Y) → is_some o ≡ false → option_or (option_map f o) r ≡ r
none_or f None r e = refl
none_or f (Some x) r e = absurd (both_ways true e refl)

holds-one : (p q : ℕ) (s : Slot) → holds p s ≡ true → eqb q p ≡ false → holds q s ≡ false
holds-one p q s h e = grind (arith, nat_tests)

holds-none : (q : ℕ) (s : Slot) → unused s ≡ true → holds q s ≡ false
holds-none q s h = grind (arith, nat_tests)

module _ (p : ℕ) where
  at_none : (ss : List Slot) → Without (holds p) ss → at ss p ≡ None
  at_none [] f = refl
  at_none (s ∷ ss) f = none_or _ (held p s) (at ss p) f.0 ∙ at_none ss f.1

  old_spot : (ss : List Slot) (k : ℕ) → First (holds p) ss k → Spot p ss k × (is_some (at ss p) ≡ true)
  old_spot [] k f = absurd f
  old_spot (s ∷ ss) zero f = (λ q e. holds-one p q s f e, some_or _ (held p s) (at ss p) ∙ cond-true (holds p s) true (is_some (at ss p)) f)
  old_spot (s ∷ ss) (suc k) f =
      let more = old_spot ss k f.1 in
      ((f.0, more.0), ap is_some (none_or _ (held p s) (at ss p) f.0) ∙ more.1)

  new_spot : (ss : List Slot) (k : ℕ) → Without (holds p) ss → First unused ss k → Spot p ss k × (any_unused ss ≡ true)
  new_spot [] k w f = absurd f
  new_spot (s ∷ ss) zero w f = (λ q _. holds-none q s f, or_left (unused s) (any_unused ss) f)
  new_spot (s ∷ ss) (suc k) w f =
      let more = new_spot ss k w.1 f.1 in
      ((w.0, more.0), or_right (unused s) (any_unused ss) more.1)

  full : (ss : List Slot) → Without unused ss → any_unused ss ≡ false
  full [] f = refl
  full (s ∷ ss) f = or_from (unused s) (any_unused ss) f.0 (full ss f.1)

  -- what the search of a put tells
  abbrev pub Aimed : List Slot → Option ℕ → Type 0
  Aimed ss None = (at ss p ≡ None) × (any_unused ss ≡ false)
  Aimed ss (Some k) = Spot p ss k × (cond (is_some (at ss p)) true (any_unused ss) ≡ true)

  allowed : (b f : Bool) → f ≡ true → cond b true f ≡ true
  allowed true f e = refl
  allowed false f e = e

  aimed_by : (ss : List Slot) (a b : Option ℕ) → Found (holds p) 0 ss a → Found unused 0 ss b → Aimed ss (option_or a b)
  aimed_by ss None None fa fb = (at_none ss fa, full ss fb)
  aimed_by ss None (Some k) fa fb =
      let same : fb.0 ≡ k = omega arith in
      let new = new_spot ss k fa (subst (First unused ss) same fb.2) in
      (new.0, allowed (is_some (at ss p)) (any_unused ss) new.1)
  aimed_by ss (Some k) b fa fb =
      let same : fa.0 ≡ k = omega arith in
      let old = old_spot ss k (subst (First (holds p) ss) same fa.2) in
      (old.0, cond-true (is_some (at ss p)) true (any_unused ss) old.1)

  pub aimed : (ss : List Slot) → Aimed ss (spot_of ss p)
  aimed ss = aimed_by ss (position (holds p) ss) (position unused ss) (found (holds p) ss) (found unused ss)

-- a write there makes it p's record, and leaves the others
module _ (p v : ℕ) (x : Account) (new : Slot) (is-new : (q : ℕ) → record_of q new ≡ with_record (λ _. None) p v x q) (q : ℕ) where
  abbrev this : Option Record
  this = Some (record { version = v; account = x })

  put-here : (b : Bool) (f : Account → Record) (o : Option Account) (r : Option Record) → (b ≡ false → is_some o ≡ false)
      → option_or (cond b this None) r ≡ cond b this (option_or (option_map f o) r)
  put-here true f o r e = refl
  put-here false f o r e = sym (none_or f o r (e refl))

  put-later : (b : Bool) (f : Account → Record) (o : Option Account) (r : Option Record) → (b ≡ true → is_some o ≡ false)
      → option_or (option_map f o) (cond b this r) ≡ cond b this (option_or (option_map f o) r)
  put-later true f o r e = none_or f o this (e refl)
  put-later false f o r e = refl

  pub at_set : (ss : List Slot) (k : ℕ) → Spot p ss k → at (set ss k new) q ≡ with_record (at ss) p v x q
  at_set [] k f = absurd f
  at_set (s ∷ ss) zero f = ap (λ o. option_or o (at ss q)) (is-new q) ∙ put-here (eqb q p) _ (held q s) (at ss q) (f q)
  at_set (s ∷ ss) (suc k) f =
      ap (option_or (record_of q s)) (at_set ss k f.1)
      ∙ put-later (eqb q p) _ (held q s) (at ss q) (λ e. ap (λ z. holds z s) (eqb-true q p e) ∙ f.0)
