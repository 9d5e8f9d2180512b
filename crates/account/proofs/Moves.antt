-- An accepted booking keeps the law.
use Rattle.std.proofs.Common.{◌≡◌, ℕ, ◌+◌, ◌≤◌, Bool, true, false, cond, ◌&&◌, eqb, leb, ◌≢◌, sym, refl, ◌∙◌, subst, ⊎_elim, arith}
use Rattle.std.proofs.lemmas.Bool.{and_parts, and_from, cases_eq, le-leb, leb-true}
use Rattle.std.proofs.lemmas.Bool.Decides.{nat_tests}
use Rattle.account.specs.Counter.{Counter, others, had, gave, raised, decrement, transfer}
use Rattle.account.specs.Lawful.{each, within, ranged, covered, shaped, lawful}
use Rattle.account.specs.Tallies.{limit, handed, counter_of, tally_of}
use Rattle.account.proofs.Each.{each-here, each_from}
use Rattle.account.proofs.Limits.{within-here, within-from, covered-here, covered-from}
use Rattle.account.proofs.Tabled.{handed_of, issued_of, shaped_of}
use Rattle.account.proofs.Totals.{others_same, others_le, others-one}

-- what the two rules say of a counter's numbers
pub record Kept (c : Counter) : Type 0 where
  pub least : c.minimum ≤ limit
  pub counts : (i j : ℕ) → 1 ≤ i → i ≤ 8 → 1 ≤ j → j ≤ 8 → c.R i j ≤ limit
  pub issues : (i : ℕ) → 1 ≤ i → i ≤ 8 → c.U i ≤ limit
  pub cover : (j : ℕ) → 1 ≤ j → j ≤ 8 → gave c j ≤ had c j

pub kept_by : (c : Counter) → ranged c ≡ true → covered c ≡ true → Kept c
unfolding ranged
kept_by c r h =
    let all = and_parts (leb c.minimum limit && each 8 (λ i. within (c.R i))) (within c.U) r in
    let front = and_parts (leb c.minimum limit) (each 8 (λ i. within (c.R i))) all.0 in
    record {
      least = leb-true c.minimum limit front.0;
      counts = λ i j a b p q. within-here (c.R i) (each-here 8 (λ k. within (c.R k)) front.1 i a b) j p q;
      issues = within-here c.U all.1;
      cover = covered-here c h;
    }

pub ranged-from : (c : Counter) → c.minimum ≤ limit → ((i j : ℕ) → 1 ≤ i → i ≤ 8 → 1 ≤ j → j ≤ 8 → c.R i j ≤ limit) → ((i : ℕ) → 1 ≤ i → i ≤ 8 → c.U i ≤ limit) → ranged c ≡ true
unfolding ranged
ranged-from c l counts issues =
    and_from (leb c.minimum limit && each 8 (λ i. within (c.R i))) (within c.U) (and_from (leb c.minimum limit) (each 8 (λ i. within (c.R i))) (le-leb c.minimum limit l) (each_from 8 (λ i. within (c.R i)) (λ i a b. within-from (c.R i) (λ j p q. counts i j a b p q)))) (within-from c.U issues)

-- a counter and its tally have the same figures
module _ (c : Counter) where
  pub had_of : (j : ℕ) → 1 ≤ j → j ≤ 8 → had (counter_of (tally_of c)) j ≡ had c j
  had_of j a b =
      omega (arith, handed_of c j j a b a b, others_same j (λ k. c.R k j) (λ k. handed (tally_of c) k j) (λ k p q ne. handed_of c k j p q a b))

  pub gave_of : (j : ℕ) → 1 ≤ j → j ≤ 8 → gave (counter_of (tally_of c)) j ≡ gave c j
  gave_of j a b =
      omega (arith, issued_of c j a b, others_same j (c.R j) (handed (tally_of c) j) (λ k p q ne. handed_of c j k a b p q))

  pub ranged_of : c.minimum ≤ limit → ((i j : ℕ) → 1 ≤ i → i ≤ 8 → 1 ≤ j → j ≤ 8 → c.R i j ≤ limit) → ((i : ℕ) → 1 ≤ i → i ≤ 8 → c.U i ≤ limit) → ranged (counter_of (tally_of c)) ≡ true
  ranged_of l counts issues =
      ranged-from (counter_of (tally_of c)) l (λ i j a b p q. omega (arith, handed_of c i j a b p q, counts i j a b p q)) (λ i a b. omega (arith, issued_of c i a b, issues i a b))

  pub lawful_by : ranged (counter_of (tally_of c)) ≡ true → covered (counter_of (tally_of c)) ≡ true → lawful (tally_of c) ≡ true
  unfolding lawful
  lawful_by r h =
      and_from (shaped (tally_of c) && ranged (counter_of (tally_of c))) (covered (counter_of (tally_of c))) (and_from (shaped (tally_of c)) (ranged (counter_of (tally_of c))) (shaped_of c) r) h

  pub lawful_of : Kept c → lawful (tally_of c) ≡ true
  lawful_of k =
      lawful_by (ranged_of k.least k.counts k.issues) (covered-from (counter_of (tally_of c)) (λ j a b. omega (arith, had_of j a b, gave_of j a b, k.cover j a b)))

-- one count raised
raised-least : (R : ℕ → ℕ → ℕ) (p q n k l : ℕ) → R k l ≤ raised R p q n k l
raised-least R p q n k l = go (eqb k p && eqb l q)
  where
    go : (b : Bool) → R k l ≤ cond b (R k l + n) (R k l)
    go true = omega arith
    go false = omega arith

raised-most : (R : ℕ → ℕ → ℕ) (p q n k l m : ℕ) → R k l ≤ m → R p q + n ≤ m → raised R p q n k l ≤ m
raised-most R p q n k l m h r = grind (arith, nat_tests)

raised-here : (R : ℕ → ℕ → ℕ) (p q n : ℕ) → raised R p q n p q ≡ R p q + n
raised-here R p q n = grind (arith, nat_tests)

raised-row : (R : ℕ → ℕ → ℕ) (p q n k l : ℕ) → k ≢ p → raised R p q n k l ≡ R k l
raised-row R p q n k l ne = grind (arith, nat_tests)

raised_column : (R : ℕ → ℕ → ℕ) (p q n k l : ℕ) → l ≢ q → raised R p q n k l ≡ R k l
raised_column R p q n k l ne = grind (arith, nat_tests)

-- what a raised count does to what a depot had and gave
module _ (c : Counter) (p q n : ℕ) (p1 : 1 ≤ p) (p8 : p ≤ 8) (q1 : 1 ≤ q) (q8 : q ≤ 8) where
  abbrev after : Counter
  after = transfer c p q n

  had_more : (j : ℕ) → had c j ≤ had after j
  had_more j = omega (arith, raised-least c.R p q n j j, others_le j (λ k. c.R k j) (λ k. after.R k j) (λ k. raised-least c.R p q n k j))

  gave-other : (j : ℕ) → j ≢ p → gave after j ≡ gave c j
  gave-other j ne = omega (arith, others_same j (c.R j) (after.R j) (λ k a b _. raised-row c.R p q n j k ne))

  gave-own : p ≡ q → gave after p ≡ gave c p
  gave-own e = omega (arith, others_same p (c.R p) (after.R p) (λ k a b ne. raised_column c.R p q n p k (λ f. ne (f ∙ sym e))))

  gave-here : p ≢ q → gave after p ≡ gave c p + n
  gave-here ne = omega (arith, others-one p (c.R p) (after.R p) q n q1 q8 (λ e. ne (sym e)) (raised-here c.R p q n) (λ k apart. raised_column c.R p q n p k apart))

  -- goods that come in, or that another depot's share has
  pub kept-handed : Kept c → c.R p q + n ≤ limit → (p ≢ q → gave c p + n ≤ had c p) → Kept after
  kept-handed k room spare = record {
    least = k.least;
    counts = λ i j a b x y. raised-most c.R p q n i j limit (k.counts i j a b x y) room;
    issues = k.issues;
    cover = λ j a b.
        ⊎_elim
        (λ (e : j ≡ p). subst (λ (m : ℕ). gave after m ≤ had after m) (sym e) (⊎_elim (λ (own : p ≡ q). omega (arith, gave-own own, had_more p, k.cover p p1 p8)) (λ (ne : p ≢ q). omega (arith, gave-here ne, had_more p, spare ne)) (cases_eq p q)))
        (λ (ne : j ≢ p). omega (arith, gave-other j ne, had_more j, k.cover j a b))
        (cases_eq j p);
  }

-- goods that go out
used-most : (U : ℕ → ℕ) (p n k m : ℕ) → U k ≤ m → U p + n ≤ m → cond (eqb k p) (U k + n) (U k) ≤ m
used-most U p n k m h r = grind (arith, nat_tests)

still_covered : (U : ℕ → ℕ) (p n k o g h : ℕ) → g ≡ o + U k → g ≤ h → (k ≡ p → g + n ≤ h) → o + cond (eqb k p) (U k + n) (U k) ≤ h
still_covered U p n k o g h e l s = ⊎_elim (λ (same : k ≡ p). let m = s same in grind (arith, nat_tests)) (λ (ne : k ≢ p). grind (arith, nat_tests)) (cases_eq k p)

pub kept-issued : (c : Counter) (p n : ℕ) → Kept c → c.U p + n ≤ limit → gave c p + n ≤ had c p → Kept (decrement c p n)
kept-issued c p n k room spare = record {
  least = k.least;
  counts = k.counts;
  issues = λ i a b. used-most c.U p n i limit (k.issues i a b) room;
  cover = λ j a b. still_covered c.U p n j (others j (c.R j)) (gave c j) (had c j) refl (k.cover j a b) (λ e. subst (λ (m : ℕ). gave c m + n ≤ had c m) (sym e) spare);
}
