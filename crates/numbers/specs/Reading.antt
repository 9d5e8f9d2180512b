-- Reading at a place of some bytes, and what it has to do with writing.
use Rattle.std.specs.Prelude.{◌≡◌, ℕ, zero, suc, ◌+◌, ◌<◌, List, [], ◌∷◌, ◌++◌, length, drop, Ok, Err, Result}
use Rattle.std.specs.List.{AllByRecursion}
use Rattle.account.specs.declared.refusal.Refusal.{Refusal}

-- a reading answers a value and the place after it, or why there is none
abbrev pub Reading : Type 0 → Type 0
Reading X = List ℕ → ℕ → Result (X × ℕ) Refusal

-- the first refusal that is met, or the last answer
abbrev pub and_then : {A B : Type 0} → Result A Refusal → (A → Result B Refusal) → Result B Refusal
and_then (Ok x) f = f x
and_then (Err e) f = Err e

-- so many values, one after another
unfoldable pub many : {X : Type 0} → Reading X → ℕ → Reading (List X)
many read zero bs p = Ok ([], p)
many read (suc k) bs p = and_then (read bs p) (λ g. and_then (many read k bs g.1) (λ r. Ok (g.0 ∷ r.0, r.1)))

-- THE TWO LAWS

-- what is written reads back, wherever it stands and whatever follows; reading ends where the writing ended
abbrev pub ReadsBack : {X : Type 0} → Reading X → (X → List ℕ) → (X → Type 0) → Type 0
ReadsBack {X} read bytes Fits = (bs rest : List ℕ) (p : ℕ) (x : X) → Fits x → drop p bs ≡ bytes x ++ rest → read bs p ≡ Ok (x, p + length (bytes x))

abbrev pub Bytes : List ℕ → Type 0
Bytes bs = AllByRecursion (λ b. b < 256) bs

-- some bytes stand from p up to q
pub record Stand (bs : List ℕ) (p : ℕ) (part : List ℕ) (q : ℕ) : Type 0 where
  pub here : drop p bs ≡ part ++ drop q bs
  pub after : q ≡ p + length part

-- only bytes that writing gives are read
abbrev pub ReadsOnly : {X : Type 0} → Reading X → (X → List ℕ) → (X → Type 0) → Type 0
ReadsOnly {X} read bytes Fits = (bs : List ℕ) (p q : ℕ) (x : X) → Bytes bs → read bs p ≡ Ok (x, q) → Fits x × Stand bs p (bytes x) q
