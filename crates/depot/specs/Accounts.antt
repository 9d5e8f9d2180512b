-- Creating an account, and reading the stored ones.
use Rattle.std.specs.Prelude.{◌≡◌, ℕ, cond, not, ◌&&◌, List, [], ◌∷◌, is_some, ok_or, Some, None, Ok, Err, Option, Result, nat_le}
use Rattle.std.specs.Option.{option_map}
use Rattle.account.specs.Accounts.{checked, fresh, free_of, stock_of}
use Rattle.account.specs.Advice.{best_of, number_if}
use Rattle.account.specs.Bookings.{amount_ok}
use Rattle.account.specs.Refusals.{Check, refuse, given, unless, by_answer}
use Rattle.account.specs.Tallies.{limit}
use Rattle.account.specs.declared.account.Account.{Account}
use Rattle.account.specs.declared.depot_number.DepotNumber.{DepotNumber}
use Rattle.account.specs.declared.refusal.Refusal.{Refusal}
use Rattle.account.specs.declared.refusal.Refusal.TheVariants.{OutOfRange, NoAccount, AccountExists, StoreRefused}
use Rattle.store.specs.Meaning.{Record, part_ok, allows, refuser}
use Rattle.depot.specs.Records.{kept_in}
use Rattle.depot.specs.Views.{View, Put, Leaves}
use Rattle.depot.specs.declared.kept.Kept.{Kept}

-- CREATING

abbrev pub create_checks : View → ℕ → ℕ → List Check
create_checks v part reserve =
    refuse (not (part_ok v.store part && nat_le reserve limit)) OutOfRange
    ∷ refuse (is_some (v.store.records part)) AccountExists
    ∷ refuse (not (allows v.store part)) (StoreRefused (refuser v.store part))
    ∷ []

-- a fresh account is put as version 1
abbrev pub create_answer : View → ℕ → ℕ → Result ℕ Refusal
create_answer v part reserve = unless (create_checks v part reserve) 1

abbrev pub first_put : ℕ → Account → Put
first_put part a = record { part = part; version = 1; account = a }

abbrev pub create_put : View → ℕ → ℕ → Option Put
create_put v part reserve = by_answer (create_answer v part reserve) (option_map (first_put part) (checked (fresh reserve))) None

pub record Created (v : View) (part reserve : ℕ) (r : Result ℕ Refusal) (w : View) : Type 0 where
  pub answer : r ≡ create_answer v part reserve
  pub left : Leaves v v.tills v.openings (create_put v part reserve) w

-- READING

abbrev pub read_checks : View → ℕ → List Check
read_checks v part = refuse (not (part_ok v.store part)) OutOfRange ∷ given (v.store.records part) NoAccount (λ _. [])

-- a figure of the stored account; where there is none, the call is refused
abbrev pub figure : (Account → ℕ) → Option Record → ℕ
figure f None = 0
figure f (Some k) = f k.account

-- the record itself
abbrev pub kept_answer : View → ℕ → Result Kept Refusal
kept_answer v part = cond (part_ok v.store part) (ok_or (kept_in (v.store.records part)) NoAccount) (Err OutOfRange)

abbrev pub stock_answer : View → ℕ → Result ℕ Refusal
stock_answer v part = unless (read_checks v part) (figure stock_of (v.store.records part))

abbrev pub own_free_answer : View → ℕ → Result ℕ Refusal
own_free_answer v part = unless (read_checks v part) (figure (λ a. free_of a v.number) (v.store.records part))

-- ADVICE

abbrev pub advise_checks : View → ℕ → ℕ → List Check
advise_checks v part n = refuse (not (part_ok v.store part && amount_ok n)) OutOfRange ∷ given (v.store.records part) NoAccount (λ _. [])

abbrev pub advice : ℕ → ℕ → Option Record → Option ℕ
advice p n None = None
advice p n (Some k) = best_of k.account p n 8

abbrev pub advise_answer : View → ℕ → ℕ → Result (Option ℕ) Refusal
advise_answer v part n = unless (advise_checks v part n) (advice v.number n (v.store.records part))

-- the number of the depot that was answered
abbrev pub named_in : Result (Option DepotNumber) Refusal → Result (Option ℕ) Refusal
named_in (Ok o) = Ok (number_if o)
named_in (Err e) = Err e
