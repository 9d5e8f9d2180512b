-- Whom to call: the other depot with most free stock.
use Rattle.std.specs.Prelude.{◌≡◌, ℕ, zero, suc, ◌≤◌, Bool, true, cond, not, ◌&&◌, ◌≢◌, Some, None, Option, MatchOption, ◌==◌, nat_le, nat_lt}
use Rattle.std.specs.Option.{option_map}
use Rattle.account.specs.Accounts.{free_of}
use Rattle.account.specs.declared.account.Account.{Account}
use Rattle.account.specs.declared.depot_number.DepotNumber.{DepotNumber}

-- may depot q be named to depot p: it is another one and has at least n
abbrev pub serves : Account → ℕ → ℕ → ℕ → Bool
serves a p n q = not (q == p) && nat_le n (free_of a q)

-- does q have more than the best so far?
abbrev pub better : Account → ℕ → Option ℕ → Bool
better a q None = true
better a q (Some best) = nat_lt (free_of a best) (free_of a q)

-- the best of the depots 1 to k
unfoldable pub best_of : Account → ℕ → ℕ → ℕ → Option ℕ
best_of a p n zero = None
best_of a p n (suc k) = cond (serves a p n (suc k) && better a (suc k) (best_of a p n k)) (Some (suc k)) (best_of a p n k)

abbrev pub number_if : Option DepotNumber → Option ℕ
number_if o = option_map (λ (d : DepotNumber). d.number) o

-- IN THE RULE'S WORDS

-- depot q is another one than p, with at least n of free stock
pub record Able (a : Account) (p n q : ℕ) : Type 0 where
  pub least : 1 ≤ q
  pub most : q ≤ 8
  pub other : q ≢ p
  pub enough : n ≤ free_of a q

-- q is able, no other that is able has more, and none with as much has a lower number
pub record Fullest (a : Account) (p n q : ℕ) : Type 0 where
  pub able : Able a p n q
  pub most : (k : ℕ) → Able a p n k → free_of a k ≤ free_of a q
  pub lowest : (k : ℕ) → Able a p n k → free_of a k ≡ free_of a q → q ≤ k

-- none is named exactly if there is no such depot; else the fullest is
abbrev pub AdviceNamesTheFullest : Type 0
AdviceNamesTheFullest = (a : Account) (p n : ℕ) → MatchOption (best_of a p n 8) ((q : ℕ) → Able a p n q → ⊥) (Fullest a p n)
