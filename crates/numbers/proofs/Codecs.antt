-- Reading and writing fit each other: numbers, and so many values one after another.
use Rattle.std.proofs.Common.{◌≡◌, ℕ, zero, suc, ◌+◌, ◌*◌, ◌≤◌, List, [], ◌∷◌, ◌++◌, length, drop, Ok, Err, sym, refl, ap, ◌∙◌, subst, mul-suc, arith}
use Rattle.std.specs.List.{flat_map, AllByRecursion}
use Rattle.std.proofs.ByRecursion.{All-drop}
use Rattle.std.proofs.lemmas.List.{append_assoc, length-append, drop-drop, take-append-drop, length-take-le}
use Rattle.numbers.specs.Numbers.{NumberFits, Got, front_number, number_bytes, number_at, placed}
use Rattle.numbers.specs.Reading.{Reading, many, ReadsBack, ReadsOnly, Stand}
use Rattle.numbers.proofs.Numbers.{front_back, front_only, number-used}
use Rattle.numbers.proofs.Stands.{behind, stand_join, then_ok, then_inv, ok_same, never}

-- NUMBERS

pub number_back : ReadsBack number_at number_bytes NumberFits
number_back bs rest p n fits stands = ap (placed p) (ap front_number stands ∙ front_back n rest fits)

pub placed_inv : (p : ℕ) (r : Got) (n q : ℕ) → placed p r ≡ Ok (n, q) → (u : ℕ) × (r ≡ Ok (n, u)) × (q ≡ p + u)
placed_inv p (Ok g) n q h =
    let pair = ok_same _ _ h in
    (g.1, ap (λ (y : ℕ × ℕ). Ok (y.0, g.1)) pair, sym (ap (λ (y : ℕ × ℕ). y.1) pair))
placed_inv p (Err e) n q h = absurd (never (n, q) _ h)

pub number_only : ReadsOnly number_at number_bytes NumberFits
number_only bs p q n all h =
    let r = placed_inv p (front_number (drop p bs)) n q h in
    let used = r.0 in
    let only = front_only (drop p bs) n used (All-drop _ p bs all) r.1 in
    let within : used ≤ length (drop p bs) = (number-used (drop p bs) (n, used) r.1).1 in
    let len : length (number_bytes n) ≡ used = ap length (sym only.1) ∙ length-take-le used (drop p bs) within in
    let back : drop used (drop p bs) ≡ drop q bs = drop-drop used p bs ∙ ap (λ (x : ℕ). drop x bs) (sym r.2) in (
      only.0,
      record {
        here = sym (take-append-drop used (drop p bs)) ∙ ap (λ (x : List ℕ). x ++ drop used (drop p bs)) only.1 ∙ ap (λ (x : List ℕ). number_bytes n ++ x) back;
        after = omega (arith, r.2);
      },
    )

-- SO MANY VALUES

module _ {X : Type 0} (read : Reading X) (bytes : X → List ℕ) (Fits : X → Type 0) where
  abbrev pub ManyFit : ℕ → List X → Type 0
  ManyFit k xs = (length xs ≡ k) × AllByRecursion Fits xs

  module _ (back : ReadsBack read bytes Fits) (bs rest : List ℕ) where
    all_back : (xs : List X) (p : ℕ) → AllByRecursion Fits xs → drop p bs ≡ flat_map bytes xs ++ rest → many read (length xs) bs p ≡ Ok (xs, p + length (flat_map bytes xs))
    unfolding many
    all_back [] p a stands = ap (λ (q : ℕ). Ok ([], q)) (omega arith)
    all_back (x ∷ xs) p a stands =
        let here : drop p bs ≡ bytes x ++ (flat_map bytes xs ++ rest) = stands ∙ append_assoc (bytes x) (flat_map bytes xs) rest in
        let next = p + length (bytes x) in
        let later = all_back xs next a.1 (behind bs (bytes x) (flat_map bytes xs ++ rest) p here) in
        let end : next + length (flat_map bytes xs) ≡ p + length (bytes x ++ flat_map bytes xs) = omega (arith, length-append (bytes x) (flat_map bytes xs)) in
        then_ok _ (back bs (flat_map bytes xs ++ rest) p x a.0 here) (then_ok _ later (ap (λ (q : ℕ). Ok (x ∷ xs, q)) end))

  pub many_back : ReadsBack read bytes Fits → (k : ℕ) → ReadsBack (many read k) (flat_map bytes) (ManyFit k)
  many_back back k bs rest p xs fits stands =
      let P : ℕ → Type 0 = λ n. many read n bs p ≡ Ok (xs, p + length (flat_map bytes xs)) in
      subst P fits.0 (all_back back bs rest xs p fits.1 stands)

  pub many_only : ReadsOnly read bytes Fits → (k : ℕ) → ReadsOnly (many read k) (flat_map bytes) (ManyFit k)
  unfolding many
  many_only only zero bs p q xs all h =
      let P : List X × ℕ → Type 0 = λ y. ManyFit 0 y.0 × Stand bs p (flat_map bytes y.0) y.1 in
      subst P (ok_same _ _ h) ((refl, tt), record { here = refl; after = omega arith })
  many_only only (suc k) bs p q xs all h =
      let one = then_inv (read bs p) _ (xs, q) h in
      let more = then_inv (many read k bs one.0.1) _ (xs, q) one.2 in
      let x = one.0.0 in
      let rest = more.0 in
      let pair = ok_same _ _ more.2 in
      let here = only bs p one.0.1 x all one.1 in
      let later = many_only only k bs one.0.1 rest.1 rest.0 all more.1 in
      let P : List X × ℕ → Type 0 = λ y. ManyFit (suc k) y.0 × Stand bs p (flat_map bytes y.0) y.1 in
      subst P pair ((ap suc later.0.0, (here.0, later.0.1)), stand_join bs p one.0.1 rest.1 (bytes x) (flat_map bytes rest.0) here.1 later.1)

  -- so many values take no more than so many times the most that one takes
  pub many-most : (m : ℕ) → ((x : X) → Fits x → length (bytes x) ≤ m) → (xs : List X) → AllByRecursion Fits xs → length (flat_map bytes xs) ≤ m * length xs
  many-most m most [] a = omega arith
  many-most m most (x ∷ xs) a =
      let l = length-append (bytes x) (flat_map bytes xs) in
      let t = mul-suc m (length xs) in
      omega (arith, most x a.0, many-most m most xs a.1)
