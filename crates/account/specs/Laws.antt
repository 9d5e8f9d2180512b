-- What holds of every account.
use Rattle.std.specs.Prelude.{◌≡◌, ℕ, zero, suc, ◌≤◌, Bool, true, Decides, ◌∷◌, ℤ, pos, ◌+ℤ◌, ◌-ℤ◌, ◌≤ℤ◌, Some, Ok}
use Rattle.account.specs.Accounts.{checked, fresh_answer}
use Rattle.account.specs.Bookings.{range_check, booking_checks, booking}
use Rattle.account.specs.Counter.{added, used}
use Rattle.account.specs.Joins.{join_checks, join_answer, joined}
use Rattle.account.specs.Refusals.{ascend}
use Rattle.account.specs.Tallies.{handed, issued_by, counter_of, free, stock}
use Rattle.account.specs.declared.account.Account.{Account}
use Rattle.account.specs.declared.booking.Booking.{Booking}
use Rattle.account.specs.declared.depot_number.DepotNumber.{DepotNumber}
use Rattle.account.specs.declared.tally.Tally.{Tally}

-- FREE STOCK AND STOCK

abbrev pub FreeStockNeverNegative : Type 0
FreeStockNeverNegative = (a : Account) (d : DepotNumber) → pos 0 ≤ℤ free a.tally d.number

-- f 1 + f 2 + .. + f n
abbrev pub all_of : ℕ → (ℕ → ℤ) → ℤ
all_of zero f = pos 0
all_of (suc n) f = all_of n f +ℤ f (suc n)

-- the eight free stocks are all goods taken in less all goods issued
abbrev pub FreeStocksAddUp : Type 0
FreeStocksAddUp = (t : Tally) → all_of 8 (free t) ≡ pos (added (counter_of t)) -ℤ pos (used (counter_of t))

abbrev pub StockNeverUnderReserve : Type 0
StockNeverUnderReserve = (a : Account) → pos a.tally.reserve ≤ℤ stock a.tally

-- EQUALITY

-- one reserve, and each of the 72 counts the same
pub record SameNumbers (t u : Tally) : Type 0 where
  pub reserve : t.reserve ≡ u.reserve
  pub counts : (i j : ℕ) → 1 ≤ i → i ≤ 8 → 1 ≤ j → j ≤ 8 → handed t i j ≡ handed u i j
  pub issues : (i : ℕ) → 1 ≤ i → i ≤ 8 → issued_by t i ≡ issued_by u i

abbrev pub EqualByNumbers : Type 0
EqualByNumbers = (a b : Account) → (a ≡ b → SameNumbers a.tally b.tally) × (SameNumbers a.tally b.tally → a ≡ b)

-- a test tells whether two values are one
abbrev pub TellsEqual : {X : Type 0} → (X → X → Bool) → Type 0
TellsEqual {X} test = (x y : X) → Decides (test x y) (x ≡ y)

-- JOINS

-- one reserve, and no count of t above that of u
pub record Within (t u : Tally) : Type 0 where
  pub reserve : t.reserve ≡ u.reserve
  pub counts : (i j : ℕ) → 1 ≤ i → i ≤ 8 → 1 ≤ j → j ≤ 8 → handed t i j ≤ handed u i j
  pub issues : (i : ℕ) → 1 ≤ i → i ≤ 8 → issued_by t i ≤ issued_by u i

abbrev pub JoinCommutes : Type 0
JoinCommutes = (t u : Tally) → t.reserve ≡ u.reserve → joined t u ≡ joined u t

abbrev pub JoinAssociates : Type 0
JoinAssociates = (t u v : Tally) → joined (joined t u) v ≡ joined t (joined u v)

abbrev pub JoinWithItself : Type 0
JoinWithItself = (a : Account) → joined a.tally a.tally ≡ a.tally

abbrev pub JoinHoldsBoth : Type 0
JoinHoldsBoth = (t u : Tally) → t.reserve ≡ u.reserve → Within t (joined t u) × Within u (joined t u)

abbrev pub JoinIsLeast : Type 0
JoinIsLeast = (t u v : Tally) → Within t v → Within u v → Within (joined t u) v

-- WHAT IS ANSWERED IS AN ACCOUNT

-- no accepted call gives numbers that are no account
abbrev pub AcceptedIsLawful : Type 0
AcceptedIsLawful =
    ((r : ℕ) (u : Tally) → fresh_answer r ≡ Ok u → (b : Account) × (checked u ≡ Some b))
    × ((a : Account) (d : DepotNumber) (b : Booking) (u : Tally) → booking a.tally d.number b ≡ Ok u → (c : Account) × (checked u ≡ Some c))
    × ((a b : Account) (u : Tally) → join_answer a.tally b.tally ≡ Ok u → (c : Account) × (checked u ≡ Some c))

-- REFUSALS

-- of several refusals that fit, the lowest number is answered
abbrev pub LowestRefusalAnswers : Type 0
LowestRefusalAnswers =
    ((t : Tally) (p : ℕ) (b : Booking) → ascend (range_check b ∷ booking_checks t p b) ≡ true) × ((t u : Tally) → ascend (join_checks t u) ≡ true)
