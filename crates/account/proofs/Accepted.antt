-- A booking that is accepted leaves a lawful tally.
use Rattle.std.proofs.Common.{◌≡◌, ℕ, ◌+◌, ◌≤◌, Bool, true, false, cond, leb, List, [], ◌∷◌, pos, ◌-ℤ◌, Ok, Err, Result, sym, refl, ap, ◌∙◌, subst, arith}
use lib.Signed.{lt_z}
use Rattle.std.proofs.lemmas.Int.{ints}
use Rattle.std.proofs.lemmas.Bool.{ltb-false, leb-true, and_parts, not-false, cond-false}
use Rattle.std.proofs.lemmas.Bool.Decides.{nat_tests}
use Rattle.account.specs.Accounts.{or_else, account_or}
use Rattle.account.specs.Bookings.{amount_ok, in_range, booking, booking_checks, range_check, booked}
use Rattle.account.specs.Counter.{had, gave}
use Rattle.account.specs.Lawful.{lawful}
use Rattle.account.specs.Numbers.{number_ok}
use Rattle.account.specs.Refusals.{Check, unless}
use Rattle.account.specs.Tallies.{limit, counter_of, tally_of}
use Rattle.account.specs.declared.account.Account.{Account}
use Rattle.account.specs.declared.booking.Booking.{Booking}
use Rattle.account.specs.declared.booking.Booking.TheVariants.{TakeIn, Issue, HandOver}
use Rattle.account.specs.declared.refusal.Refusal.{Refusal}
use Rattle.account.specs.declared.tally.Tally.{Tally}
use Rattle.account.proofs.Balance.{law_ranged, law_covered}
use Rattle.account.proofs.Checked.{checked-lawful}
use Rattle.account.proofs.Moves.{Kept, kept_by, kept-handed, kept-issued, lawful_of}

-- none of the conditions holds
abbrev pub Passed : List Check → Type 0
Passed [] = Unit {0}
Passed (c ∷ cs) = (c.fails ≡ false) × Passed cs

first_passed : {X : Type 0} (b : Bool) (e : Refusal) (r : Result X Refusal) (u : X) → cond b (Err e) r ≡ Ok u → (b ≡ false) × (r ≡ Ok u)
first_passed true e r u h = let z : ◌≡◌ {A = ℕ} 0 1 = cc in absurd (omega arith)
first_passed false e r u h = (refl, h)

pub passed : {X : Type 0} (cs : List Check) (x u : X) → unless cs x ≡ Ok u → Passed cs × (x ≡ u)
passed [] x u e = (tt, cc)
passed (c ∷ cs) x u e =
    let first = first_passed c.fails c.refusal (unless cs x) u e in
    let rest = passed cs x u first.1 in
    ((first.0, rest.0), rest.1)

pub all_pass : {X : Type 0} (cs : List Check) (x : X) → Passed cs → unless cs x ≡ Ok x
all_pass [] x s = refl
all_pass (c ∷ cs) x s = cond-false c.fails (Err c.refusal) (unless cs x) s.0 ∙ all_pass cs x s.1

-- enough free stock
spared : (h g n : ℕ) → lt_z (pos h -ℤ pos g) (pos n) ≡ false → g + n ≤ h
spared h g n e = grind (arith, ints, nat_tests)

kept-booked : (t : Tally) (p : ℕ) (b : Booking) → 1 ≤ p → p ≤ 8 → Kept (counter_of t) → in_range b ≡ true → Passed (booking_checks t p b) → Kept (booked (counter_of t) p b)
kept-booked t p (TakeIn n) p1 p8 k r s = kept-handed (counter_of t) p p n p1 p8 p1 p8 k (ltb-false limit _ s.0) (λ ne. absurd (ne refl))
kept-booked t p (Issue n) p1 p8 k r s =
    kept-issued (counter_of t) p n k (ltb-false limit _ s.1.0) (spared (had (counter_of t) p) (gave (counter_of t) p) n s.0)
kept-booked t p (HandOver n q) p1 p8 k r s =
    let other = and_parts (leb 1 q) (leb q 8) (and_parts (amount_ok n) (number_ok q) r).1 in
    kept-handed (counter_of t) p q n p1 p8 (leb-true 1 q other.0) (leb-true q 8 other.1) k (ltb-false limit _ s.1.1.0) (λ _. spared (had (counter_of t) p) (gave (counter_of t) p) n s.1.0)

pub booking-lawful : (t : Tally) → lawful t ≡ true → (p : ℕ) → 1 ≤ p → p ≤ 8 → (b : Booking) (u : Tally) → booking t p b ≡ Ok u → lawful u ≡ true
booking-lawful t law p p1 p8 b u e =
    let s = passed (range_check b ∷ booking_checks t p b) (tally_of (booked (counter_of t) p b)) u e in
    let k = kept_by (counter_of t) (law_ranged t law) (law_covered t law) in
    subst (λ (v : Tally). lawful v ≡ true) s.1 (lawful_of (booked (counter_of t) p b) (kept-booked t p b p1 p8 k (not-false (in_range b) s.0.0) s.0.1))

-- the account of lawful numbers
pub account_is : (t : Tally) (law : lawful t ≡ true) (a : Account) → ◌≡◌ {A = Account} (record { tally = t; law = law }) (account_or t a)
account_is t law a = sym (ap (λ o. or_else o a) (checked-lawful t law))
