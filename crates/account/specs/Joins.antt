-- The join of two accounts: the greater of each pair of counts.
use Rattle.std.specs.Prelude.{ℕ, ◌+◌, cond, not, List, [], ◌∷◌, Ok, Err, Result, ◌==◌, nat_lt}
use Rattle.account.specs.Counter.{total, merge}
use Rattle.account.specs.Lawful.{covered}
use Rattle.account.specs.Refusals.{Check, refuse, unless}
use Rattle.account.specs.Tallies.{handed, issued_by, counter_of, tally_of}
use Rattle.account.specs.declared.account.Account.{Account}
use Rattle.account.specs.declared.refusal.Refusal.{Refusal}
use Rattle.account.specs.declared.refusal.Refusal.TheVariants.{OtherReserve, Contradiction}
use Rattle.account.specs.declared.tally.Tally.{Tally}

abbrev pub joined : Tally → Tally → Tally
joined t u = tally_of (merge (counter_of t) (counter_of u))

-- one reserve, and no free stock of the join below 0
abbrev pub join_checks : Tally → Tally → List Check
join_checks t u =
    refuse (not (t.reserve == u.reserve)) OtherReserve ∷ refuse (not (covered (counter_of (joined t u)))) Contradiction ∷ []

abbrev pub join_answer : Tally → Tally → Result Tally Refusal
join_answer t u = unless (join_checks t u) (joined t u)

-- the numbers of an account that was answered
abbrev pub numbers_in : Result Account Refusal → Result Tally Refusal
numbers_in (Ok a) = Ok a.tally
numbers_in (Err e) = Err e

-- 1 where a count rose, else 0
abbrev pub rose : ℕ → ℕ → ℕ
rose m n = cond (nat_lt m n) 1 0

-- how many of the 72 counts rose
abbrev pub risen : Tally → Tally → ℕ
risen t u = total 8 (λ i. total 8 (λ j. rose (handed t i j) (handed u i j))) + total 8 (λ i. rose (issued_by t i) (issued_by u i))
