-- The join of two accounts, and its laws.
use Rattle.std.proofs.Common.{◌≡◌, true, sym, arith}
use Rattle.account.specs.Counter.{merge}
use Rattle.account.specs.Joins.{joined}
use Rattle.account.specs.Lawful.{covered, lawful}
use Rattle.account.specs.Tallies.{counter_of}
use Rattle.account.specs.declared.tally.Tally.{Tally}
use Rattle.account.proofs.Balance.{law_ranged, law_covered}
use Rattle.account.proofs.Moves.{kept_by, ranged_of, lawful_by}

pub join_lawful : (t u : Tally) → lawful t ≡ true → lawful u ≡ true → true ≡ covered (counter_of (joined t u)) → lawful (joined t u) ≡ true
join_lawful t u p q h =
    let a = kept_by (counter_of t) (law_ranged t p) (law_covered t p) in
    let b = kept_by (counter_of u) (law_ranged u q) (law_covered u q) in
    lawful_by (merge (counter_of t) (counter_of u)) (ranged_of (merge (counter_of t) (counter_of u)) a.least (λ i j k l m n. omega (arith, a.counts i j k l m n, b.counts i j k l m n)) (λ i k l. omega (arith, a.issues i k l, b.issues i k l))) (sym h)
