-- What holds of every depot's calls.
use Rattle.std.specs.Prelude.{◌≡◌, ℕ, ◌≤◌, true, ◌⊎◌, None, Ok, Result}
use Rattle.account.specs.Refusals.{ascend}
use Rattle.account.specs.declared.booking.Booking.{Booking}
use Rattle.account.specs.declared.refusal.Refusal.{Refusal}
use Rattle.depot.specs.Accounts.{create_checks, read_checks, advise_checks, Created}
use Rattle.depot.specs.Drafts.{open_checks, book_checks, file_checks, Opened, Booked, Filed, Dropped, Restarted}
use Rattle.depot.specs.Views.{View, draft_of}
use Rattle.depot.specs.declared.slip.Declined.{Declined}
use Rattle.depot.specs.declared.slip.Slip.{Slip}

-- REFUSALS

-- of several refusals that fit, the lowest number is answered
pub record LowestRefusalAnswers : Type 0 where
  pub creating : (v : View) (part reserve : ℕ) → ascend (create_checks v part reserve) ≡ true
  pub opening : (v : View) (till part : ℕ) → ascend (open_checks v till part) ≡ true
  pub booking : (v : View) (s : Slip) (b : Booking) → ascend (book_checks v s b) ≡ true
  pub filing : (v : View) (s : Slip) → ascend (file_checks v s) ≡ true
  pub reading : (v : View) (part : ℕ) → ascend (read_checks v part) ≡ true
  pub advising : (v : View) (part n : ℕ) → ascend (advise_checks v part n) ≡ true

-- SLIPS

-- any calls, refused ones included, lead from one view of a depot to another
pub data Leads : View → View → Type 0 where
  here : (v : View) → Leads v v
  creating : {v w : View} (part reserve : ℕ) (r : Result ℕ Refusal) (u : View) → Leads v w → Created w part reserve r u → Leads v u
  opening : {v w : View} (till part : ℕ) (r : Result Slip Refusal) (u : View) → Leads v w → Opened w till part r u → Leads v u
  booking : {v w : View} (s : Slip) (b : Booking) (r : Result ℕ Refusal) (u : View) → Leads v w → Booked w s b r u → Leads v u
  filing : {v w : View} (s : Slip) (r : Result ℕ Declined) (u : View) → Leads v w → Filed w s r u → Leads v u
  dropping : {v w : View} (s : Slip) (r : Result ℕ Declined) (u : View) → Leads v w → Dropped w s r u → Leads v u
  restarting : {v w : View} (r : ℕ) (u : View) → Leads v w → Restarted w r u → Leads v u

-- the depot has given this slip's serial
abbrev pub Given : View → Slip → Type 0
Given v s = s.serial ≤ v.openings

-- opening gives a slip, and the depot remembers that it did
abbrev pub OpenedSlipIsGiven : Type 0
OpenedSlipIsGiven = (v w : View) (till part : ℕ) (s : Slip) → Opened v till part (Ok s) w → Given w s

-- a slip that was filed or dropped, accepted or not, names no draft, whatever calls follow
abbrev pub SpentSlipNamesNoDraft : Type 0
SpentSlipNamesNoDraft =
    (v w u : View) (s : Slip) (r : Result ℕ Declined) → Given v s → Filed v s r w ⊎ Dropped v s r w → Leads w u → draft_of u s ≡ None
