-- The best of the depots is the one that the rule names.
use Rattle.std.proofs.Common.{◌≡◌, ℕ, zero, suc, ◌+◌, ◌≤◌, Bool, true, false, cond, not, ◌&&◌, eqb, ltb, leb, ◌≢◌, Some, None, Option, sym, refl, ap, ◌∙◌, ⊎_elim, add-one, arith, MatchOption}
use Rattle.std.proofs.lemmas.Bool.{and_parts, and_from, and_cases, cases_eq, not-true, not_from_false, eqb-false, ne_eqb, leb-true, le-leb, ltb-true, ltb-false, both_ways}
use Rattle.account.specs.Accounts.{free_of}
use Rattle.account.specs.Advice.{serves, better, best_of, Able, Fullest, AdviceNamesTheFullest}
use Rattle.account.specs.declared.account.Account.{Account}

pub best_more : (a : Account) (p n k : ℕ) → best_of a p n (k + 1) ≡ cond (serves a p n (k + 1) && better a (k + 1) (best_of a p n k)) (Some (k + 1)) (best_of a p n k)
unfolding best_of
best_more a p n k = rw add-one refl

module _ (a : Account) (p n : ℕ) where
  able_if : (q : ℕ) → 1 ≤ q → q ≤ 8 → serves a p n q ≡ true → Able a p n q
  able_if q l m e =
      let both = and_parts (not (eqb q p)) (leb n (free_of a q)) e in
      record { least = l; most = m; other = eqb-false q p (not-true (eqb q p) both.0); enough = leb-true n (free_of a q) both.1 }

  if_able : (q : ℕ) → Able a p n q → serves a p n q ≡ true
  if_able q w = and_from (not (eqb q p)) (leb n (free_of a q)) (not_from_false (eqb q p) (ne_eqb q p w.other)) (le-leb n (free_of a q) w.enough)

  -- no depot below k that is able has more than b, or as much and a lower number
  Beats : ℕ → ℕ → Type 0
  Beats k b = (q : ℕ) → q ≤ k → Able a p n q → (free_of a q ≤ free_of a b) × (free_of a q ≡ free_of a b → b ≤ q)

  -- what holds of the best of the depots 1 to k
  abbrev Best : ℕ → Option ℕ → Type 0
  Best k None = (q : ℕ) → q ≤ k → Able a p n q → ⊥
  Best k (Some b) = Able a p n b × (b ≤ k) × Beats k b

  -- depot k + 1 has more than the best so far
  passes : (k : ℕ) (o : Option ℕ) → Best k o → better a (suc k) o ≡ true → Beats (suc k) (suc k)
  unfolding Beats
  passes k None u e q l w = ⊎_elim (λ (same : q ≡ suc k). (omega (arith, ap (free_of a) same), λ _. omega arith)) (λ (ne : q ≢ suc k). absurd (u q (omega arith) w)) (cases_eq q (suc k))
  passes k (Some b) u e q l w =
      ⊎_elim
      (λ (same : q ≡ suc k). (omega (arith, ap (free_of a) same), λ _. omega arith))
      (λ (ne : q ≢ suc k). let less = ltb-true (free_of a b) (free_of a (suc k)) e in let under = (u.2 q (omega arith) w).0 in (omega arith, λ f. absurd (omega arith)))
      (cases_eq q (suc k))

  -- depot k + 1 is not able, or has no more than the best so far
  stays : (k : ℕ) (o : Option ℕ) → Best k o → (serves a p n (suc k) && better a (suc k) o) ≡ false → Best (suc k) o
  unfolding Beats
  stays k None u e =
      λ q l w. ⊎_elim (λ (same : q ≡ suc k). both_ways (serves a p n (suc k) && true) e (and_from (serves a p n (suc k)) true (ap (serves a p n) (sym same) ∙ if_able q w) refl)) (λ (ne : q ≢ suc k). u q (omega arith) w) (cases_eq q (suc k))
  stays k (Some b) u e = (
    u.0,
    omega (arith, u.1),
    λ q l w.
        ⊎_elim
        (λ (same : q ≡ suc k).
        let ready : serves a p n (suc k) ≡ true = ap (serves a p n) (sym same) ∙ if_able q w in
        let less : free_of a (suc k) ≤ free_of a b = ⊎_elim (λ (h : serves a p n (suc k) ≡ false). absurd (both_ways (serves a p n (suc k)) h ready)) (λ h. ltb-false (free_of a b) (free_of a (suc k)) h) (and_cases (serves a p n (suc k)) (ltb (free_of a b) (free_of a (suc k))) e) in
        (omega (arith, less, ap (free_of a) same), λ _. omega (arith, u.1)))
        (λ (ne : q ≢ suc k). u.2 q (omega arith) w)
        (cases_eq q (suc k)),
  )

  step : (k : ℕ) (o : Option ℕ) → suc k ≤ 8 → Best k o → (b : Bool) → (serves a p n (suc k) && better a (suc k) o) ≡ b → Best (suc k) (cond b (Some (suc k)) o)
  step k o m u true e =
      let both = and_parts (serves a p n (suc k)) (better a (suc k) o) e in
      (able_if (suc k) (omega arith) m both.0, omega arith, passes k o u both.1)
  step k o m u false e = stays k o u e

  upto : (k : ℕ) → k ≤ 8 → Best k (best_of a p n k)
  unfolding best_of
  upto zero m = λ q l w. absurd (omega (arith, w.least))
  upto (suc k) m = step k (best_of a p n k) m (upto k (omega arith)) (serves a p n (suc k) && better a (suc k) (best_of a p n k)) refl

  named : (o : Option ℕ) → Best 8 o → MatchOption o ((q : ℕ) → Able a p n q → ⊥) (Fullest a p n)
  unfolding Beats
  named None u = λ q w. u q w.most w
  named (Some b) u = record { able = u.0; most = λ k w. (u.2 k w.most w).0; lowest = λ k w. (u.2 k w.most w).1 }

pub advice_names_the_fullest : AdviceNamesTheFullest
advice_names_the_fullest a p n = named a p n (best_of a p n 8) (upto a p n 8 (omega arith))
