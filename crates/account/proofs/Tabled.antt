-- A tally whose counts are those of a counter is the tally of that counter.
use Rattle.std.proofs.Common.{◌≡◌, ℕ, ◌+◌, ◌-◌, ◌<◌, ◌≤◌, Bool, true, cond, ◌&&◌, eqb, ◌≢◌, List, length, get_or, set, sym, refl, ap, ◌∙◌, subst, ⊎_elim, arith, below_more}
use mathlib.Core.Path.{fun_ext}
use Rattle.std.proofs.lemmas.List.FromFn.{length-map-range_with_len, get_or-map-range_with_len}
use Rattle.std.proofs.lemmas.List.{ext_get_or, get_or-set_same, get_or-set_other, length-set}
use Rattle.std.proofs.lemmas.Bool.{and_parts, and_from, eqb-true, eq-eqb, cases_eq, ne_eqb, cond-true, cond-false, and_left}
use Rattle.account.specs.Counter.{Counter, total, raised, decrement, transfer}
use Rattle.account.specs.Lawful.{each, shaped}
use Rattle.account.specs.Tallies.{no_row, count, row, handed, issued_by, counter_of, eight, row_of, tally_of, row_raised}
use Rattle.account.specs.declared.tally.Row.{Row}
use Rattle.account.specs.declared.tally.Tally.{Tally}
use Rattle.account.proofs.Each.{each-here, each_from}
use Rattle.account.proofs.Totals.{total-same}

-- eight values
pub eight-length : {X : Type 0} (f : ℕ → X) → length (eight f) ≡ 8
unfolding eight
eight-length f = length-map-range_with_len f 1 8

pub eight-at : {X : Type 0} (f : ℕ → X) (d : X) (j : ℕ) → 1 ≤ j → j ≤ 8 → get_or (eight f) (j - 1) d ≡ f j
unfolding eight
eight-at f d j a b = get_or-map-range_with_len f 1 8 (j - 1) j d (omega arith) (omega arith)

pub eight_is : {X : Type 0} (xs : List X) (d : X) (f : ℕ → X) → length xs ≡ 8 → ((j : ℕ) → 1 ≤ j → j ≤ 8 → get_or xs (j - 1) d ≡ f j) → xs ≡ eight f
eight_is xs d f l h =
    ext_get_or d xs (eight f) (l ∙ sym (eight-length f)) (λ k b. let back : k + 1 - 1 ≡ k = omega arith in subst (λ (i : ℕ). get_or xs i d ≡ get_or (eight f) i d) back (h (k + 1) (omega arith) (omega (arith, l)) ∙ sym (eight-at f d (k + 1) (omega arith) (omega (arith, l)))))

pub row_is : (r : Row) (f : ℕ → ℕ) → length r.counts ≡ 8 → ((j : ℕ) → 1 ≤ j → j ≤ 8 → count r j ≡ f j) → r ≡ row_of f
row_is r f l h = ap (λ cs. record { counts = cs }) (eight_is r.counts 0 f l h)

-- the counts of a tabled counter
pub handed_of : (c : Counter) (i j : ℕ) → 1 ≤ i → i ≤ 8 → 1 ≤ j → j ≤ 8 → handed (tally_of c) i j ≡ c.R i j
handed_of c i j a b p q = ap (λ (r : Row). count r j) (eight-at (λ k. row_of (c.R k)) no_row i a b) ∙ eight-at (c.R i) 0 j p q

pub issued_of : (c : Counter) (i : ℕ) → 1 ≤ i → i ≤ 8 → issued_by (tally_of c) i ≡ c.U i
issued_of c i a b = eight-at c.U 0 i a b

-- the lengths that a shaped tally has
pub record Shape (t : Tally) : Type 0 where
  pub rows : length t.rows ≡ 8
  pub counts : (i : ℕ) → 1 ≤ i → i ≤ 8 → length (row t i).counts ≡ 8
  pub issued : length t.issued.counts ≡ 8

pub shape : (t : Tally) → shaped t ≡ true → Shape t
unfolding shaped
shape t h =
    let all = and_parts (eqb (length t.rows) 8 && each 8 (λ i. eqb (length (row t i).counts) 8)) (eqb (length t.issued.counts) 8) h in
    let front = and_parts (eqb (length t.rows) 8) (each 8 (λ i. eqb (length (row t i).counts) 8)) all.0 in
    record {
      rows = eqb-true _ 8 front.0;
      counts = λ i a b. eqb-true _ 8 (each-here 8 (λ k. eqb (length (row t k).counts) 8) front.1 i a b);
      issued = eqb-true _ 8 all.1;
    }

pub shaped_of : (c : Counter) → shaped (tally_of c) ≡ true
unfolding shaped
shaped_of c =
    let t = tally_of c in
    and_from
    (eqb (length t.rows) 8 && each 8 (λ i. eqb (length (row t i).counts) 8))
    (eqb (length t.issued.counts) 8)
    (and_from (eqb (length t.rows) 8) (each 8 (λ i. eqb (length (row t i).counts) 8)) (eq-eqb _ 8 (eight-length (λ i. row_of (c.R i)))) (each_from 8 _ (λ k a b. eq-eqb _ 8 (ap (λ (r : Row). length r.counts) (eight-at (λ i. row_of (c.R i)) no_row k a b) ∙ eight-length (c.R k)))))
    (eq-eqb _ 8 (eight-length c.U))

pub tally_is : (t : Tally) (c : Counter)
    → length t.rows ≡ 8
    → t.reserve ≡ c.minimum
    → ((i : ℕ) → 1 ≤ i → i ≤ 8 → row t i ≡ row_of (c.R i))
    → t.issued ≡ row_of c.U
    → t ≡ tally_of c
tally_is t c l m rows issued =
    let all = eight_is t.rows no_row (λ i. row_of (c.R i)) l rows in
    λ i. record { reserve = m i; rows = all i; issued = issued i }

pub same_numbers : (t : Tally) → Shape t → t ≡ tally_of (counter_of t)
same_numbers t s =
    tally_is t (counter_of t) s.rows refl (λ i a b. row_is (row t i) (handed t i) (s.counts i a b) (λ j p q. refl)) (row_is t.issued (issued_by t) s.issued (λ j p q. refl))

-- one count raised
apart : (j k : ℕ) → 1 ≤ j → 1 ≤ k → k ≢ j → k - 1 ≢ j - 1
apart j k a b ne e = ne (omega arith)

raised-count : (r : Row) (j n : ℕ) → 1 ≤ j → j ≤ 8 → length r.counts ≡ 8 → (k : ℕ) → 1 ≤ k → count (row_raised r j n) k ≡ cond (eqb k j) (count r k + n) (count r k)
raised-count r j n a b l k p =
    ⊎_elim
    (λ (e : k ≡ j). subst (λ (m : ℕ). count (row_raised r j n) m ≡ cond (eqb m j) (count r m + n) (count r m)) (sym e) (get_or-set_same r.counts (j - 1) (count r j + n) 0 (omega arith) ∙ sym (cond-true (eqb j j) (count r j + n) (count r j) (eq-eqb j j refl))))
    (λ (ne : k ≢ j). get_or-set_other r.counts (j - 1) (k - 1) (count r j + n) 0 (apart j k a p ne) ∙ sym (cond-false (eqb k j) (count r k + n) (count r k) (ne_eqb k j ne)))
    (cases_eq k j)

pub row_raised_is : (r : Row) (j n : ℕ) → 1 ≤ j → j ≤ 8 → length r.counts ≡ 8 → row_raised r j n ≡ row_of (λ k. cond (eqb k j) (count r k + n) (count r k))
row_raised_is r j n a b l = row_is (row_raised r j n) _ (length-set r.counts (j - 1) (count r j + n) ∙ l) (λ k p q. raised-count r j n a b l k p)

module _ (t : Tally) (s : Shape t) (i n : ℕ) (i1 : 1 ≤ i) (i8 : i ≤ 8) where
  pub issued-raised : record { reserve = t.reserve; rows = t.rows; issued = row_raised t.issued i n } ≡ tally_of (decrement (counter_of t) i n)
  issued-raised =
      tally_is _ (decrement (counter_of t) i n) s.rows refl (λ k a b. row_is (row t k) (handed t k) (s.counts k a b) (λ j p q. refl)) (row_raised_is t.issued i n i1 i8 s.issued)

  module _ (j : ℕ) (j1 : 1 ≤ j) (j8 : j ≤ 8) where
    abbrev new : Tally
    new = record { reserve = t.reserve; rows = set t.rows (i - 1) (row_raised (row t i) j n); issued = t.issued }

    row_here : row_raised (row t i) j n ≡ row_of (raised (handed t) i j n i)
    row_here =
        row_raised_is (row t i) j n j1 j8 (s.counts i i1 i8)
        ∙ ap row_of (fun_ext (λ x. ap (λ (b : Bool). cond (b && eqb x j) (handed t i x + n) (handed t i x)) (sym (eq-eqb i i refl))))

    row_there : (k : ℕ) → 1 ≤ k → k ≤ 8 → k ≢ i → row t k ≡ row_of (raised (handed t) i j n k)
    row_there k a b ne =
        row_is (row t k) (raised (handed t) i j n k) (s.counts k a b) (λ l p q. sym (cond-false (eqb k i && eqb l j) (handed t k l + n) (handed t k l) (and_left (eqb k i) (eqb l j) (ne_eqb k i ne))))

    row_new : (k : ℕ) → 1 ≤ k → k ≤ 8 → row new k ≡ row_of (raised (handed t) i j n k)
    row_new k a b =
        ⊎_elim
        (λ (e : k ≡ i). subst (λ (m : ℕ). row new m ≡ row_of (raised (handed t) i j n m)) (sym e) (get_or-set_same t.rows (i - 1) (row_raised (row t i) j n) no_row (omega (arith, s.rows)) ∙ row_here))
        (λ (ne : k ≢ i). get_or-set_other t.rows (i - 1) (k - 1) (row_raised (row t i) j n) no_row (apart i k i1 a ne) ∙ row_there k a b ne)
        (cases_eq k i)

    pub handed-raised : new ≡ tally_of (transfer (counter_of t) i j n)
    handed-raised =
        tally_is new (transfer (counter_of t) i j n) (length-set t.rows (i - 1) (row_raised (row t i) j n) ∙ s.rows) refl row_new (row_is t.issued (issued_by t) s.issued (λ k p q. refl))

-- a row of eight figures, added up
pub total-row : (f : ℕ → ℕ) → total 8 (count (row_of f)) ≡ total 8 f
total-row f = total-same 8 f (count (row_of f)) (λ k a b. eight-at f 0 k a b)

-- a loop that has written f 1 to f i over ys
abbrev pub Filling : {X : Type 0} → X → (ℕ → X) → List X → ℕ → List X → Type 0
Filling d f ys i xs = ((k : ℕ) → k < i → get_or xs k d ≡ f (k + 1)) × (length xs ≡ length ys) × (0 < i → length ys ≡ 8)

module _ {X : Type 0} (d : X) (f : ℕ → X) (ys : List X) where
  pub filling_none : Filling d f ys 0 ys
  filling_none = ((λ k h. absurd (omega arith)), refl, λ h. absurd (omega arith))

  pub filling_more : (i : ℕ) (xs : List X) (v : X) → Filling d f ys i xs → length ys ≡ 8 → i < 8 → v ≡ f (i + 1) → Filling d f ys (i + 1) (set xs i v)
  filling_more i xs v s l h e = (
    below_more _ _ (λ k b. get_or-set_other xs i k v d (λ same. absurd (omega arith)) ∙ s.0 k b) (get_or-set_same xs i v d (omega (arith, s.1)) ∙ e),
    length-set xs i v ∙ s.1,
    (λ _. l),
  )

  pub filling_all : (i : ℕ) (xs : List X) → Filling d f ys i xs → i ≡ 8 → xs ≡ eight f
  filling_all i xs s e =
      eight_is xs d f (s.1 ∙ s.2 (omega arith)) (λ j a b. let back : j - 1 + 1 ≡ j = omega arith in s.0 (j - 1) (omega arith) ∙ ap f back)

-- counters that agree at the eight depots have one tally
pub tabled_same : (c d : Counter)
    → c.minimum ≡ d.minimum
    → ((i j : ℕ) → 1 ≤ i → i ≤ 8 → 1 ≤ j → j ≤ 8 → c.R i j ≡ d.R i j)
    → ((i : ℕ) → 1 ≤ i → i ≤ 8 → c.U i ≡ d.U i)
    → tally_of c ≡ tally_of d
tabled_same c d m counts issues =
    tally_is (tally_of c) d (eight-length (λ i. row_of (c.R i))) m (λ i a b. eight-at (λ k. row_of (c.R k)) no_row i a b ∙ row_is (row_of (c.R i)) (d.R i) (eight-length (c.R i)) (λ j p q. eight-at (c.R i) 0 j p q ∙ counts i j a b p q)) (row_is (row_of c.U) d.U (eight-length c.U) (λ j p q. eight-at c.U 0 j p q ∙ issues j p q))
