-- The laws of accounts.
use Rattle.std.proofs.Common.{◌≡◌, ℕ, zero, suc, ◌+◌, ◌≤◌, max, true, ltb, [], ◌∷◌, ℤ, pos, ◌+ℤ◌, ◌-ℤ◌, ◌≤ℤ◌, Some, sym, refl, ap, ◌∙◌, subst, arith}
use Rattle.std.proofs.lemmas.Int.{ints}
use Rattle.std.proofs.lemmas.Bool.{ltb-false, not-false}
use Rattle.account.specs.Accounts.{checked, fresh}
use Rattle.account.specs.Counter.{total, added, used, had, gave, merge}
use Rattle.account.specs.Joins.{joined, join_checks}
use Rattle.account.specs.Lawful.{lawful, covered}
use Rattle.account.specs.Laws.{FreeStockNeverNegative, FreeStocksAddUp, StockNeverUnderReserve, EqualByNumbers, SameNumbers, JoinCommutes, JoinAssociates, JoinWithItself, JoinHoldsBoth, JoinIsLeast, AcceptedIsLawful, all_of}
use Rattle.account.specs.Refusals.{refuse}
use Rattle.account.specs.Tallies.{limit, handed, issued_by, counter_of}
use Rattle.account.specs.declared.account.Account.{Account}
use Rattle.account.specs.declared.refusal.Refusal.TheVariants.{OutOfRange}
use Rattle.account.specs.declared.tally.Tally.{Tally}
use Rattle.account.proofs.Accepted.{passed, booking-lawful}
use Rattle.account.proofs.Balance.{law_shaped, law_covered, balance, used-within}
use Rattle.account.proofs.Checked.{checked-lawful}
use Rattle.account.proofs.Fresh.{fresh-lawful}
use Rattle.account.proofs.Limits.{covered-here}
use Rattle.account.proofs.Merges.{join_lawful}
use Rattle.account.proofs.Same.{same-account}
use Rattle.account.proofs.Tabled.{handed_of, issued_of, shape, same_numbers, tabled_same}

not_negative : (h g : ℕ) → g ≤ h → pos 0 ≤ℤ (pos h -ℤ pos g)
not_negative h g l = omega (arith, ints)

pub free_never_negative : FreeStockNeverNegative
free_never_negative a d =
    let c = counter_of a.tally in
    not_negative (had c d.number) (gave c d.number) (covered-here c (law_covered a.tally a.law) d.number d.least d.most)

one_more : (z : ℤ) (x y p q : ℕ) → z ≡ pos x -ℤ pos y → z +ℤ (pos p -ℤ pos q) ≡ pos (x + p) -ℤ pos (y + q)
one_more z x y p q e = omega (arith, ints)

all_less : (n : ℕ) (f g : ℕ → ℕ) → all_of n (λ k. pos (f k) -ℤ pos (g k)) ≡ pos (total n f) -ℤ pos (total n g)
unfolding total
all_less zero f g = refl
all_less (suc n) f g = one_more (all_of n (λ k. pos (f k) -ℤ pos (g k))) (total n f) (total n g) (f (suc n)) (g (suc n)) (all_less n f g)

both_sides : (h g a u : ℕ) → h + u ≡ g + a → pos h -ℤ pos g ≡ pos a -ℤ pos u
both_sides h g a u e = omega (arith, ints)

pub free_stocks_add_up : FreeStocksAddUp
free_stocks_add_up t =
    let c = counter_of t in
    all_less 8 (had c) (gave c) ∙ both_sides (total 8 (had c)) (total 8 (gave c)) (added c) (used c) (balance c)

above : (r a u : ℕ) → u ≤ a → pos r ≤ℤ (pos (r + a) -ℤ pos u)
above r a u h = omega (arith, ints)

pub stock_never_under : StockNeverUnderReserve
stock_never_under a =
    let c = counter_of a.tally in
    above a.tally.reserve (added c) (used c) (used-within c (law_covered a.tally a.law))

-- equality
same-tally : (t u : Tally) → lawful t ≡ true → lawful u ≡ true → SameNumbers t u → t ≡ u
same-tally t u p q s =
    same_numbers t (shape t (law_shaped t p)) ∙ tabled_same (counter_of t) (counter_of u) s.reserve s.counts s.issues ∙ sym (same_numbers u (shape u (law_shaped u q)))

pub equal_by_numbers_lem : EqualByNumbers
equal_by_numbers_lem a b = (
  (λ e. record { reserve = ap (λ (x : Account). x.tally.reserve) e; counts = λ i j _ _ _ _. ap (λ (x : Account). handed x.tally i j) e; issues = λ i _ _. ap (λ (x : Account). issued_by x.tally i) e }),
  (λ s. same-account a b (same-tally a.tally b.tally a.law b.law s)),
)

-- joins
handed-joined : (t u : Tally) (i j : ℕ) → 1 ≤ i → i ≤ 8 → 1 ≤ j → j ≤ 8 → handed (joined t u) i j ≡ max (handed t i j) (handed u i j)
handed-joined t u = handed_of (merge (counter_of t) (counter_of u))

issued-joined : (t u : Tally) (i : ℕ) → 1 ≤ i → i ≤ 8 → issued_by (joined t u) i ≡ max (issued_by t i) (issued_by u i)
issued-joined t u = issued_of (merge (counter_of t) (counter_of u))

pub join_commutes : JoinCommutes
join_commutes t u e =
    tabled_same (merge (counter_of t) (counter_of u)) (merge (counter_of u) (counter_of t)) e (λ i j _ _ _ _. omega arith) (λ i _ _. omega arith)

pub join_associates : JoinAssociates
join_associates t u v =
    tabled_same (merge (counter_of (joined t u)) (counter_of v)) (merge (counter_of t) (counter_of (joined u v))) refl (λ i j a b p q. omega (arith, handed-joined t u i j a b p q, handed-joined u v i j a b p q)) (λ i a b. omega (arith, issued-joined t u i a b, issued-joined u v i a b))

pub join_with_itself : JoinWithItself
join_with_itself a =
    let t = a.tally in
    tabled_same (merge (counter_of t) (counter_of t)) (counter_of t) refl (λ i j _ _ _ _. omega arith) (λ i _ _. omega arith) ∙ sym (same_numbers t (shape t (law_shaped t a.law)))

pub join_holds_both : JoinHoldsBoth
join_holds_both t u e = (
  record { reserve = refl; counts = λ i j a b p q. omega (arith, handed-joined t u i j a b p q); issues = λ i a b. omega (arith, issued-joined t u i a b) },
  record { reserve = sym e; counts = λ i j a b p q. omega (arith, handed-joined t u i j a b p q); issues = λ i a b. omega (arith, issued-joined t u i a b) },
)

pub join_is_least : JoinIsLeast
join_is_least t u v x y = record {
  reserve = x.reserve;
  counts = λ i j a b p q. omega (arith, handed-joined t u i j a b p q, x.counts i j a b p q, y.counts i j a b p q);
  issues = λ i a b. omega (arith, issued-joined t u i a b, x.issues i a b, y.issues i a b);
}

-- what is accepted is lawful
account_of : (u : Tally) → lawful u ≡ true → (b : Account) × (checked u ≡ Some b)
account_of u h = (record { tally = u; law = h }, checked-lawful u h)

pub accepted_lawful : AcceptedIsLawful
accepted_lawful = (
  (λ r u e. let s = passed (refuse (ltb limit r) OutOfRange ∷ []) (fresh r) u e in account_of u (subst (λ (v : Tally). lawful v ≡ true) s.1 (fresh-lawful r (ltb-false limit r s.0.0)))),
  (λ a d b u e. account_of u (booking-lawful a.tally a.law d.number d.least d.most b u e)),
  (λ a b u e. let s = passed (join_checks a.tally b.tally) (joined a.tally b.tally) u e in account_of u (subst (λ (v : Tally). lawful v ≡ true) s.1 (join_lawful a.tally b.tally a.law b.law (sym (not-false (covered (counter_of (joined a.tally b.tally))) s.0.1.0))))),
)
