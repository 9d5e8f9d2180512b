-- Laws of the groups, and the steps of the loop that reads them.
use Rattle.std.proofs.Common.{◌≡◌, ℕ, zero, suc, ◌+◌, ◌-◌, ◌*◌, ◌/◌, ◌%◌, ◌^◌, ◌<◌, ◌≤◌, false, cond, ◌&&◌, eqb, ltb, leb, ◌⊎◌, List, [], ◌∷◌, ◌++◌, length, get_or, take, drop, set, Ok, Err, sym, refl, ap, ◌∙◌, subst, inl, inr, mul-le-mul_right, mul_assoc, mul_comm, add-mul, pow-suc, add-one, drop-cons, arith}
use native.Mathlib.Nat.{pow-le-pow_right}
use Rattle.std.proofs.lemmas.Bool.{lt-ltb, le-ltb, eqb-false, eq-eqb, ne_eqb, le-leb, lt-leb, leb-true, cases_lt, cases_Bool}
use Rattle.std.proofs.Math.Bool.{and-false}
use Rattle.std.specs.List.{AllByRecursion}
use Rattle.std.proofs.lemmas.List.{at_drop_more, at_drop_all, append_assoc, set-append_right, take_all, take_more_set, take_at}
use Rattle.numbers.specs.declared.number.Fault.TheVariants.{Short, Wrong}
use Rattle.numbers.specs.Numbers.{groups, number_bytes, Got, above, grouped, in_range, front_number}

-- a read of the groups from the i-th on, of weight w, above those whose value is a
abbrev pub joins : ℕ → ℕ → ℕ → Got → Got
joins w a i (Ok p) = cond (ltb 0 i && eqb p.0 0) (Err Wrong) (Ok (a + p.0 * w, i + p.1))
joins w a i (Err e) = Err e

above-value : (a w low h : ℕ) → a + (low + 128 * h) * w ≡ a + low * w + h * (w * 128)
above-value a w low h =
    rw (add-mul, mul_assoc 128 h w, mul_comm 128 (h * w), mul_assoc h w 128) (omega arith)

pub joins-above : (w a i low : ℕ) (g : Got) → joins w a i (above low g) ≡ joins (w * 128) (a + low * w) (i + 1) g
joins-above w a i low (Ok p) =
    elim (cases_Bool (eqb p.0 0)) [
      | inl e ↦ rw (e, lt-ltb 0 (i + 1) (omega arith))
      | inr e ↦
          let z : eqb (low + 128 * p.0) 0 ≡ false = ne_eqb _ _ (λ q. eqb-false p.0 0 e (omega arith)) in
          let v : a + (low + 128 * p.0) * w ≡ a + low * w + p.0 * (w * 128) = above-value a w low p.0 in
          let u : i + suc p.1 ≡ i + 1 + p.1 = omega arith in
          rw (e, z, v, u, and-false (ltb 0 i), and-false (ltb 0 (i + 1)))
    ]
joins-above w a i low (Err e) = refl

joins-none : (g : Got) → joins 1 0 0 g ≡ g
joins-none (Ok p) =
    let v : 0 + p.0 * 1 ≡ p.0 = omega arith in
    let u : 0 + p.1 ≡ p.1 = omega arith in
    rw (v, u)
joins-none (Err e) = refl

grouped_last : (k b : ℕ) (bs : List ℕ) → b < 128 → grouped k (b ∷ bs) ≡ Ok (b, 1)
grouped_last zero b bs h = rw (lt-ltb b 128 h)
grouped_last (suc k) b bs h = rw (lt-ltb b 128 h)

grouped_more : (k b : ℕ) (bs : List ℕ) → 0 < k → 128 ≤ b → grouped k (b ∷ bs) ≡ above (b % 128) (grouped (k - 1) bs)
grouped_more zero b bs l h = absurd (let z : 0 < 0 = l in omega arith)
grouped_more (suc k) b bs l h = let e : suc k - 1 ≡ k = omega arith in rw (le-ltb b 128 h, e)

grouped_full : (k b : ℕ) (bs : List ℕ) → k ≡ 0 → 128 ≤ b → grouped k (b ∷ bs) ≡ Err Wrong
grouped_full zero b bs e h = rw (le-ltb b 128 h)
grouped_full (suc k) b bs e h = absurd (let z : suc k ≡ 0 = e in omega arith)

-- the reading loop: i groups are read, of value a, and the next has the weight w
abbrev pub Reads : List ℕ → ℕ → ℕ → ℕ → Type 0
Reads bs i w a =
    (k : ℕ) × (k + i ≡ 4) × (w ≡ 128 ^ i) × (a < w) × (joins w a i (grouped k (drop i bs)) ≡ grouped 4 bs)

pub reads_none : (bs : List ℕ) → Reads bs 0 1 0
reads_none bs = (4, refl, refl, omega arith, joins-none (grouped 4 bs))

pub reads_bound : (bs : List ℕ) (i w a : ℕ) → Reads bs i w a → w ≤ 268435456
reads_bound bs i w a r =
    let h : i ≤ 4 = omega (arith, r.1) in
    let p : 128 ^ i ≤ 128 ^ 4 = pow-le-pow_right {n = 128} (omega arith) h in
    rw r.2 p

module _ (bs : List ℕ) (i w a : ℕ) (within : i < length bs) (r : Reads bs i w a) where
  pub reads_last : get_or bs i 0 < 128 → grouped 4 bs ≡ joins w a i (Ok (get_or bs i 0, 1))
  reads_last h =
      sym r.4 ∙ ap (joins w a i) (at_drop_more (grouped r.0) bs i 0 within ∙ grouped_last r.0 _ _ h)

  pub reads_full : i ≡ 4 → 128 ≤ get_or bs i 0 → grouped 4 bs ≡ Err Wrong
  reads_full e h =
      let z : r.0 ≡ 0 = omega (arith, r.1) in
      sym r.4 ∙ ap (joins w a i) (at_drop_more (grouped r.0) bs i 0 within ∙ grouped_full r.0 _ _ z h)

  pub reads_more : (i ≡ 4 → ⊥) → 128 ≤ get_or bs i 0 → Reads bs (i + 1) (w * 128) (a + get_or bs i 0 % 128 * w)
  reads_more ne h =
      let k = r.0 in
      let l : 0 < k = omega (arith, r.1, ne) in
      let m : get_or bs i 0 % 128 * w ≤ 127 * w = mul-le-mul_right w (omega arith) in (
        k - 1,
        omega (arith, r.1),
        rw (add-one, pow-suc 128 i, r.2),
        omega (arith, r.3),
        sym (joins-above w a i (get_or bs i 0 % 128) (grouped (k - 1) (drop (i + 1) bs)))
            ∙ ap (joins w a i) (sym (at_drop_more (grouped k) bs i 0 within ∙ grouped_more k _ _ l h))
            ∙ r.4,
      )

pub reads_all : (bs : List ℕ) (i w a : ℕ) → length bs ≤ i → Reads bs i w a → grouped 4 bs ≡ Err Short
reads_all bs i w a h r = sym r.4 ∙ ap (joins w a i) (at_drop_all (grouped r.0) bs i h)

-- the last group, b, above the i groups read
module _ (w a i b : ℕ) (low : b < 128) where
  abbrev pub Last : Got
  Last = in_range 1000000000 (joins w a i (Ok (b, 1)))

  pub last_longer : b ≡ 0 → 0 < i → Last ≡ Err Wrong
  last_longer e h = rw (eq-eqb b 0 e, lt-ltb 0 i h)

  shorter : ((b ≡ 0 → ⊥) ⊎ (i ≡ 0)) → (ltb 0 i && eqb b 0) ≡ false
  shorter (inl n) = rw (ne_eqb b 0 n) (and-false (ltb 0 i))
  shorter (inr e) = rw (le-ltb 0 i (omega arith))

  pub last_over : ((b ≡ 0 → ⊥) ⊎ (i ≡ 0)) → 1000000000 < a + b % 128 * w → Last ≡ Err Wrong
  last_over s h =
      let m : b % 128 ≡ b = omega arith in
      let l : 1000000000 < a + b * w = rw m at h in
      rw (shorter s, lt-leb _ _ l)

  pub last_good : ((b ≡ 0 → ⊥) ⊎ (i ≡ 0)) → a + b % 128 * w ≤ 1000000000 → Last ≡ Ok (a + b % 128 * w, i + 1)
  last_good s h =
      let m : b % 128 ≡ b = omega arith in
      let l : a + b * w ≤ 1000000000 = rw m at h in
      rw (shorter s, le-leb _ _ l, m)

-- what an accepted number tells
above_ok : (low : ℕ) (g : Got) (p : ℕ × ℕ) → above low g ≡ Ok p → (q : ℕ × ℕ) × (g ≡ Ok q) × (q.0 ≡ 0 → ⊥) × (low + 128 * q.0 ≡ p.0) × (suc q.1 ≡ p.1)
above_ok low (Ok q) p h =
    elim (cases_Bool (eqb q.0 0)) [
      | inl e ↦
          let bad : Err Wrong ≡ Ok p = rw e at h in
          cc
      | inr e ↦
          let good : Ok (low + 128 * q.0, suc q.1) ≡ Ok p = rw e at h in
          (q, refl, eqb-false q.0 0 e, cc, cc)
    ]
above_ok low (Err e) p h = cc

abbrev pub Written : ℕ → List ℕ → ℕ × ℕ → Type 0
Written k bs p = (bs ≡ groups k p.0 ++ drop p.1 bs) × (length (groups k p.0) ≡ p.1)

cc_one : (k b : ℕ) (bs : List ℕ) (p : ℕ × ℕ) → ◌≡◌ {A = Got} (Ok (b, 1)) (Ok p) → groups k b ≡ b ∷ [] → Written k (b ∷ bs) p
cc_one k b bs p f g =
    let e : (b, 1) ≡ p = cc in
    let P : ℕ × ℕ → Type 0 = Written k (b ∷ bs) in
    subst P e (rw g, rw g)

written_one : (k b : ℕ) (bs : List ℕ) (p : ℕ × ℕ) → b < 128 → grouped k (b ∷ bs) ≡ Ok p → Written k (b ∷ bs) p
written_one zero b bs p h e = cc_one 0 b bs p (sym (grouped_last 0 b bs h) ∙ e) refl
written_one (suc k) b bs p h e = cc_one (suc k) b bs p (sym (grouped_last (suc k) b bs h) ∙ e) (rw (lt-ltb b 128 h))

written_more : (k b : ℕ) (bs : List ℕ) (m v n u : ℕ) → 128 ≤ b → b < 256 → (m ≡ 0 → ⊥) → n ≡ b % 128 + 128 * m → u ≡ suc v → Written k bs (m, v) → Written (suc k) (b ∷ bs) (n, u)
written_more k b bs m v n u h l ne is used w =
    let ge : ltb n 128 ≡ false = le-ltb _ _ (omega (arith, ne)) in
    let low : 128 + n % 128 ≡ b = omega arith in
    let high : n / 128 ≡ m = omega arith in (
      rw (ge, low, high, used) (ap (λ (x : List ℕ). b ∷ x) w.0),
      rw (ge, high, used) (ap suc w.1),
    )

pub grouped-written : (k : ℕ) (bs : List ℕ) (p : ℕ × ℕ) → AllByRecursion (λ b. b < 256) bs → grouped k bs ≡ Ok p → Written k bs p
grouped-written k [] p a e = cc
grouped-written zero (b ∷ bs) p a e =
    elim (cases_lt b 128) [
      | inl h ↦ written_one 0 b bs p h e
      | inr h ↦ let f : Err Wrong ≡ Ok p = sym (grouped_full 0 b bs refl h) ∙ e in cc
    ]
grouped-written (suc k) (b ∷ bs) p a e =
    elim (cases_lt b 128) [
      | inl h ↦ written_one (suc k) b bs p h e
      | inr h ↦
          let q = above_ok (b % 128) (grouped k bs) p (rw (le-ltb b 128 h) at e) in
          written_more k b bs q.0.0 q.0.1 p.0 p.1 h a.0 q.2 (sym q.3) (sym q.4) (grouped-written k bs q.0 a.1 q.1)
    ]

-- how many bytes it takes
abbrev pub Used : List ℕ → ℕ × ℕ → Type 0
Used bs p = (0 < p.1) × (p.1 ≤ length bs)

one_used : (b : ℕ) (bs : List ℕ) (p : ℕ × ℕ) → ◌≡◌ {A = Got} (Ok (b, 1)) (Ok p) → Used (b ∷ bs) p
one_used b bs p e = let one : p.1 ≡ 1 = cc in (omega arith, omega arith)

grouped-used : (k : ℕ) (bs : List ℕ) (p : ℕ × ℕ) → grouped k bs ≡ Ok p → Used bs p
grouped-used k [] p e = cc
grouped-used zero (b ∷ bs) p e =
    elim (cases_lt b 128) [
      | inl h ↦ one_used b bs p (sym (grouped_last 0 b bs h) ∙ e)
      | inr h ↦ let f : Err Wrong ≡ Ok p = sym (grouped_full 0 b bs refl h) ∙ e in cc
    ]
grouped-used (suc k) (b ∷ bs) p e =
    elim (cases_lt b 128) [
      | inl h ↦ one_used b bs p (sym (grouped_last (suc k) b bs h) ∙ e)
      | inr h ↦
          let q = above_ok (b % 128) (grouped k bs) p ((rw (le-ltb b 128 h) at e)) in
          let more = grouped-used k bs q.0 q.1 in
          (omega (arith, q.4), omega (arith, q.4))
    ]

in_range_ok : (m : ℕ) (g : Got) (p : ℕ × ℕ) → in_range m g ≡ Ok p → (g ≡ Ok p) × (p.0 ≤ m)
in_range_ok m (Ok q) p h =
    elim (cases_Bool (leb q.0 m)) [
      | inl e ↦ let f : Ok q ≡ Ok p = rw e at h in
          let f' : q ≡ p = cc in (f, omega (arith, leb-true q.0 m e, ap (λ (x : ℕ × ℕ). x.0) f'))
      | inr e ↦ let f : Err Wrong ≡ Ok p = rw e at h in cc
    ]
in_range_ok m (Err e) p h = cc

pub number-used : (bs : List ℕ) (p : ℕ × ℕ) → front_number bs ≡ Ok p → Used bs p
unfolding front_number
number-used bs p e = grouped-used 4 bs p (in_range_ok _ (grouped 4 bs) p e).0

-- reading what was written
abbrev pub room : ℕ → ℕ
room zero = 128
room (suc k) = 128 * room k

pub grouped-groups : (k n : ℕ) (rest : List ℕ) → n < room k → grouped k (groups k n ++ rest) ≡ Ok (n, length (groups k n))
grouped-groups zero n rest h = rw (lt-ltb n 128 h)
grouped-groups (suc k) n rest h =
    elim (cases_lt n 128) [
      | inl l ↦ let e = lt-ltb n 128 l in rw (e, e)
      | inr l ↦
          let e : ltb n 128 ≡ false = le-ltb n 128 l in
          let t : ltb (128 + n % 128) 128 ≡ false = le-ltb _ _ (omega arith) in
          let m : (128 + n % 128) % 128 ≡ n % 128 = omega arith in
          let v : n % 128 + 128 * (n / 128) ≡ n = omega arith in
          let z : eqb (n / 128) 0 ≡ false = ne_eqb _ _ (λ q. omega arith) in
          let i = grouped-groups k (n / 128) rest (omega arith) in
          rw (e, t, m) (ap (above (n % 128)) i ∙ rw (z, v))
    ]

-- the writing loop: i groups of n are written into ys, and m is left of n
abbrev pub Writes : List ℕ → ℕ → ℕ → ℕ → Type 0
Writes ys i m n =
    (k : ℕ) × (m < room k) × (take i ys ++ groups k m ≡ groups 4 n) × (i + length (groups k m) ≡ length (groups 4 n))

groups_last : (k m : ℕ) → m < 128 → groups k m ≡ m ∷ []
groups_last zero m h = refl
groups_last (suc k) m h = rw (lt-ltb m 128 h)

groups_more : (k m : ℕ) → 128 ≤ m → m < room k → (j : ℕ) × (m / 128 < room j) × (groups k m ≡ (128 + m % 128) ∷ groups j (m / 128))
groups_more zero m h l = absurd (omega arith)
groups_more (suc k) m h l = (k, omega arith, rw (le-ltb m 128 h))

pub groups_some : (k m : ℕ) → 0 < length (groups k m)
groups_some zero m = omega arith
groups_some (suc k) m =
    elim (cases_Bool (ltb m 128)) [ inl e ↦ rw e (omega arith) | inr e ↦ rw e (omega arith) ]

pub writes_none : (ys : List ℕ) (n : ℕ) → n < 2 ^ 32 → Writes ys 0 n n
writes_none ys n h = (4, omega arith, refl, omega arith)

-- where more than one group is left, the next has its top bit set
pub writes_more : (ys : List ℕ) (i m n : ℕ) → i < length ys → i + 1 < length (groups 4 n) → Writes ys i m n → Writes (set ys i (128 + m % 128)) (i + 1) (m / 128) n
writes_more ys i m n within more w =
    let large : 128 ≤ m = elim (cases_lt m 128) [ inl l ↦ absurd (omega (arith, ap length (groups_last w.0 m l), w.3)) | inr h ↦ h ] in
    let g = groups_more w.0 m large w.1 in (
      g.0,
      g.1,
      rw (take_more_set ys i (128 + m % 128) within, append_assoc) (ap (λ (x : List ℕ). take i ys ++ x) (sym g.2) ∙ w.2),
      omega (arith, ap length g.2, w.3),
    )

-- where one group is left, it is what is left
pub writes_small : (ys : List ℕ) (i m n : ℕ) → length (groups 4 n) ≡ i + 1 → Writes ys i m n → m < 128
writes_small ys i m n one w =
    elim (cases_lt m 128) [
      | inl l ↦ l
      | inr h ↦ let g = groups_more w.0 m h w.1 in absurd (omega (arith, ap length g.2, groups_some g.0 (m / 128), w.3))
    ]

pub writes_all : (xs ys : List ℕ) (i m n : ℕ) → length (groups 4 n) ≡ i + 1 → length ys ≡ i → i < length xs → Writes ys i m n → set (ys ++ drop i xs) i m ≡ groups 4 n ++ drop (length (groups 4 n)) xs
writes_all xs ys i m n one long within w =
    let last : groups w.0 m ≡ m ∷ [] = groups_last w.0 m (writes_small ys i m n one w) in
    let front : ys ++ m ∷ [] ≡ groups 4 n =
    ap (λ (x : List ℕ). x ++ m ∷ []) (sym (take_all i ys (omega arith))) ∙ ap (λ (x : List ℕ). take i ys ++ x) (sym last) ∙ w.2 in
    let rest : set (drop i xs) 0 m ≡ m ∷ drop (i + 1) xs = rw (add-one, drop-cons xs i 0 within) refl in
    let none : i - i ≡ 0 = omega arith in
    set-append_right ys (drop i xs) i i m long (omega arith) ∙ rw (one, ← front, append_assoc, none) (ap (λ (x : List ℕ). ys ++ x) rest)

-- what is written reads back, whatever follows
pub front_back : (n : ℕ) (rest : List ℕ) → n ≤ 1000000000 → front_number (number_bytes n ++ rest) ≡ Ok (n, length (number_bytes n))
unfolding front_number number_bytes
front_back n rest h =
    ap (in_range 1000000000) (grouped-groups 4 n rest (omega arith)) ∙ rw (le-leb n 1000000000 h)

-- only what writing gives is read
pub front_only : (bs : List ℕ) (n used : ℕ) → AllByRecursion (λ b. b < 256) bs → front_number bs ≡ Ok (n, used) → (n ≤ 1000000000) × (take used bs ≡ number_bytes n)
unfolding front_number number_bytes
front_only bs n used a e =
    let g = in_range_ok 1000000000 (grouped 4 bs) (n, used) e in
    let w = grouped-written 4 bs (n, used) a g.0 in
    (g.1, ap (take used) w.0 ∙ take_at (groups 4 n) (drop used bs) used w.1)
