-- A booking on a slip's draft.
use Rattle.std.proofs.Common.{◌≡◌, ℕ, List, [], ◌∷◌, nat_abs, Some, refl, arith}
use Rattle.account.specs.Bookings.{booking, free_told}
use Rattle.account.specs.Refusals.{Check, unless}
use Rattle.account.specs.Tallies.{free}
use Rattle.account.specs.declared.booking.Booking.{Booking}
use Rattle.account.specs.declared.tally.Tally.{Tally}
use Rattle.depot.specs.Drafts.{book_answer}
use Rattle.depot.specs.Views.{View, draft_of}
use Rattle.depot.specs.declared.draft.Draft.{Draft}
use Rattle.depot.specs.declared.slip.Slip.{Slip}

-- the free stock told after the checks
told : (cs : List Check) (u : Tally) (p : ℕ) → free_told p (unless cs u) ≡ unless cs (nat_abs (free u p))
told [] u p = refl
told (c ∷ cs) u p = grind (arith, told cs u p)

-- the draft's booking is the depot's answer
pub book_answers : (v : View) (s : Slip) (b : Booking) (d : Draft) → draft_of v s ≡ Some d → free_told v.number (booking d.kept.account.tally v.number b) ≡ book_answer v s b
book_answers v s b d there = grind (arith, told)
