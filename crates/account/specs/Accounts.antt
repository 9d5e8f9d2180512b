-- The account of a tally, where that is lawful.
use Rattle.std.specs.Prelude.{◌≡◌, ℕ, Bool, true, false, [], ◌∷◌, Some, None, Option, Result, nat_lt, unsigned_abs, refl}
use Rattle.account.specs.Counter.{empty}
use Rattle.account.specs.Lawful.{lawful}
use Rattle.account.specs.Refusals.{refuse, unless}
use Rattle.account.specs.Tallies.{limit, tally_of, free, stock}
use Rattle.account.specs.declared.account.Account.{Account}
use Rattle.account.specs.declared.refusal.Refusal.{Refusal}
use Rattle.account.specs.declared.refusal.Refusal.TheVariants.{OutOfRange}
use Rattle.account.specs.declared.tally.Tally.{Tally}

abbrev pub checked_by : (t : Tally) (b : Bool) → lawful t ≡ b → Option Account
checked_by t true e = Some (record { tally = t; law = e })
checked_by t false e = None

-- the account with these numbers, exactly when they keep the rules
unfoldable pub checked : Tally → Option Account
checked t = checked_by t (lawful t) refl

abbrev pub or_else : Option Account → Account → Account
or_else (Some b) a = b
or_else None a = a

-- the account with these numbers, or else a
abbrev pub account_or : Tally → Account → Account
account_or t a = or_else (checked t) a

-- a reserve and 72 zero counts
abbrev pub fresh : ℕ → Tally
fresh r = tally_of (empty r)

abbrev pub fresh_answer : ℕ → Result Tally Refusal
fresh_answer r = unless (refuse (nat_lt limit r) OutOfRange ∷ []) (fresh r)

-- the free stock of depot j and the stock as natural numbers; in an account neither is below 0
abbrev pub free_of : Account → ℕ → ℕ
free_of a j = unsigned_abs (free a.tally j)

abbrev pub stock_of : Account → ℕ
stock_of a = unsigned_abs (stock a.tally)
