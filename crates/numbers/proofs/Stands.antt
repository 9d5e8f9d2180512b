-- Bytes that stand at a place, and steps of reading one after another.
use Rattle.std.proofs.Common.{◌≡◌, ℕ, ◌+◌, Bool, true, false, cond, List, ◌++◌, length, drop, Ok, Err, Result, sym, refl, ap, ◌∙◌, arith}
use Rattle.std.proofs.lemmas.List.{append_assoc, length-append, drop_at, drop-drop}
use Rattle.account.specs.declared.refusal.Refusal.{Refusal}
use Rattle.numbers.specs.Reading.{and_then, Stand}

-- what stands behind some bytes
pub behind : (bs part rest : List ℕ) (p : ℕ) → drop p bs ≡ part ++ rest → drop (p + length part) bs ≡ rest
behind bs part rest p stands = sym (drop-drop (length part) p bs) ∙ ap (drop (length part)) stands ∙ drop_at part rest _ refl

pub stand_join : (bs : List ℕ) (p q r : ℕ) (x y : List ℕ) → Stand bs p x q → Stand bs q y r → Stand bs p (x ++ y) r
stand_join bs p q r x y h k = record {
  here = h.here ∙ ap (λ (z : List ℕ). x ++ z) k.here ∙ sym (append_assoc x y (drop r bs));
  after = omega (arith, length-append x y, h.after, k.after);
}

-- a step that is accepted, and the next
pub then_ok : {A B : Type 0} (f : A → Result B Refusal) {r : Result A Refusal} {x : A} {y : Result B Refusal} → r ≡ Ok x → f x ≡ y → and_then r f ≡ y
then_ok {A} f e h = ap (λ (z : Result A Refusal). and_then z f) e ∙ h

pub never : {A B : Type 0} (x : B) (e : A) → ◌≡◌ {A = Result B A} (Err e) (Ok x) → ⊥
never x e h = cc

-- what an accepted chain of steps tells of its first
pub then_inv : {A B : Type 0} (r : Result A Refusal) (f : A → Result B Refusal) (y : B) → and_then r f ≡ Ok y → (x : A) × (r ≡ Ok x) × (f x ≡ Ok y)
then_inv (Ok x) f y h = (x, refl, h)
then_inv (Err e) f y h = absurd (never y e h)

pub ok_same : {A B : Type 0} (x y : B) → ◌≡◌ {A = Result B A} (Ok x) (Ok y) → x ≡ y
ok_same x y h = cc

-- a test that was passed
pub passed : {A B : Type 0} (t : Bool) (x y : B) (e : A) → ◌≡◌ {A = Result B A} (cond t (Ok x) (Err e)) (Ok y) → (t ≡ true) × (x ≡ y)
passed true x y e h = (refl, cc)
passed false x y e h = absurd (never y e h)
