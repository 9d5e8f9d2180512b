-- The bookings of a depot on an account: taking in, issuing and handing over.
use Rattle.std.specs.Prelude.{ℕ, ◌+◌, Bool, not, ◌&&◌, List, [], ◌∷◌, pos, Ok, Err, Result, ◌==◌, int_lt, nat_le, nat_lt, unsigned_abs}
use Rattle.account.specs.Accounts.{account_or}
use Rattle.account.specs.Counter.{Counter, increment, decrement, transfer}
use Rattle.account.specs.Numbers.{number_ok}
use Rattle.account.specs.Refusals.{Check, refuse, unless}
use Rattle.account.specs.Tallies.{limit, handed, issued_by, free, counter_of, tally_of}
use Rattle.account.specs.declared.account.Account.{Account}
use Rattle.account.specs.declared.booking.Booking.{Booking}
use Rattle.account.specs.declared.booking.Booking.TheVariants.{TakeIn, Issue, HandOver}
use Rattle.account.specs.declared.refusal.Refusal.{Refusal}
use Rattle.account.specs.declared.refusal.Refusal.TheVariants.{OutOfRange, OwnDepot, NotEnoughFree, LimitPassed}
use Rattle.account.specs.declared.tally.Tally.{Tally}

abbrev pub amount_of : Booking → ℕ
amount_of (TakeIn n) = n
amount_of (Issue n) = n
amount_of (HandOver n q) = n

-- an amount is from 1 to the limit
abbrev pub amount_ok : ℕ → Bool
amount_ok n = nat_le 1 n && nat_le n limit

abbrev pub in_range : Booking → Bool
in_range (TakeIn n) = amount_ok n
in_range (Issue n) = amount_ok n
in_range (HandOver n q) = amount_ok n && number_ok q

abbrev pub range_check : Booking → Check
range_check b = refuse (not (in_range b)) OutOfRange

-- more than depot p's free stock
abbrev pub free_check : Tally → ℕ → ℕ → Check
free_check t p n = refuse (int_lt (free t p) (pos n)) NotEnoughFree

-- a count that would pass the limit
abbrev pub limit_check : ℕ → Check
limit_check n = refuse (nat_lt limit n) LimitPassed

-- what depot p's booking has to keep besides the ranges
abbrev pub booking_checks : Tally → ℕ → Booking → List Check
booking_checks t p (TakeIn n) = limit_check (handed t p p + n) ∷ []
booking_checks t p (Issue n) = free_check t p n ∷ limit_check (issued_by t p + n) ∷ []
booking_checks t p (HandOver n q) = refuse (q == p) OwnDepot ∷ free_check t p n ∷ limit_check (handed t p q + n) ∷ []

-- the counter after an accepted booking
abbrev pub booked : Counter → ℕ → Booking → Counter
booked c p (TakeIn n) = increment c p n
booked c p (Issue n) = decrement c p n
booked c p (HandOver n q) = transfer c p q n

-- the numbers after a booking, or its refusal
abbrev pub booking : Tally → ℕ → Booking → Result Tally Refusal
booking t p b = unless (range_check b ∷ booking_checks t p b) (tally_of (booked (counter_of t) p b))

-- what the depot is told: its free stock, which an account never has below 0
abbrev pub free_told : ℕ → Result Tally Refusal → Result ℕ Refusal
free_told p (Ok u) = Ok (unsigned_abs (free u p))
free_told p (Err e) = Err e

-- what the account is afterwards: a refusal leaves it as it was
abbrev pub account_after : Account → Result Tally Refusal → Account
account_after a (Ok u) = account_or u a
account_after a (Err e) = a
