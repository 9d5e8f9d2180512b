-- Opening, booking, filing, dropping and restarting.
use Rattle.std.specs.Prelude.{◌≡◌, ℕ, ◌+◌, Bool, false, not, ◌&&◌, List, [], ◌∷◌, is_some, replicate, Some, None, Ok, Err, Option, Result, ◌==◌, unsigned_abs}
use Rattle.account.specs.Bookings.{limit_check, range_check, booking_checks, booked, booking, account_after}
use Rattle.account.specs.Refusals.{Check, refuse, given, unless, by_answer}
use Rattle.account.specs.Tallies.{free, counter_of, tally_of}
use Rattle.account.specs.declared.booking.Booking.{Booking}
use Rattle.account.specs.declared.refusal.Refusal.{Refusal}
use Rattle.account.specs.declared.refusal.Refusal.TheVariants.{OutOfRange, NoAccount, TillTaken, NoDraft, VersionMoved, StoreRefused}
use Rattle.store.specs.Meaning.{Meaning, Record, part_ok, allows, refuser}
use Rattle.depot.specs.Tills.{with_account, drafts}
use Rattle.depot.specs.Views.{View, till_ok, till_of, with_till, draft_of, Put, Leaves}
use Rattle.depot.specs.declared.draft.Draft.{Draft}
use Rattle.depot.specs.declared.slip.Declined.{Declined}
use Rattle.depot.specs.declared.slip.Slip.{Slip}

-- OPENING

abbrev pub open_checks : View → ℕ → ℕ → List Check
open_checks v till part =
    refuse (not (till_ok till && part_ok v.store part)) OutOfRange
    ∷ given (v.store.records part) NoAccount (λ _. refuse (is_some (till_of v.tills till)) TillTaken ∷ limit_check (v.openings + 1) ∷ [])

abbrev pub version_of : Option Record → ℕ
version_of None = 0
version_of (Some k) = k.version

-- the slip: the count of openings, raised, is the serial
abbrev pub open_answer : View → ℕ → ℕ → Result Slip Refusal
open_answer v till part =
    unless (open_checks v till part) (record { depot = v.number; till = till; serial = v.openings + 1; version = version_of (v.store.records part) })

-- the till with the stored account and version as its draft
abbrev pub opened_till : View → ℕ → Option Record → Option Draft
opened_till v part None = None
opened_till v part (Some k) = Some (record { part = part; serial = v.openings + 1; kept = record { version = k.version; account = k.account } })

pub record Opened (v : View) (till part : ℕ) (r : Result Slip Refusal) (w : View) : Type 0 where
  pub answer : r ≡ open_answer v till part
  pub left : Leaves v (by_answer (open_answer v till part) (with_till v.tills till (opened_till v part (v.store.records part))) v.tills) (by_answer (open_answer v till part) (v.openings + 1) v.openings) None w

-- BOOKING

abbrev pub book_checks : View → Slip → Booking → List Check
book_checks v s b = range_check b ∷ given (draft_of v s) NoDraft (λ d. booking_checks d.kept.account.tally v.number b)

-- the depot's free stock in the draft after the booking
abbrev pub free_after : ℕ → Booking → Option Draft → ℕ
free_after p b None = 0
free_after p b (Some d) = unsigned_abs (free (tally_of (booked (counter_of d.kept.account.tally) p b)) p)

abbrev pub book_answer : View → Slip → Booking → Result ℕ Refusal
book_answer v s b = unless (book_checks v s b) (free_after v.number b (draft_of v s))

-- the slip's till with the booking in its draft
abbrev pub booked_till : ℕ → Booking → Option Draft → Option Draft
booked_till p b None = None
booked_till p b (Some d) = Some (with_account d (account_after d.kept.account (booking d.kept.account.tally p b)))

pub record Booked (v : View) (s : Slip) (b : Booking) (r : Result ℕ Refusal) (w : View) : Type 0 where
  pub answer : r ≡ book_answer v s b
  pub left : Leaves v (by_answer (book_answer v s b) (with_till v.tills s.till (booked_till v.number b (draft_of v s))) v.tills) v.openings None w

-- FILING AND DROPPING

-- the slip is over, and the till idle, wherever the slip names a draft; else it is handed back
abbrev pub idled : View → Slip → Option Draft → List (Option Draft)
idled v s None = v.tills
idled v s (Some d) = with_till v.tills s.till None

-- the slip's draft is taken out of its till
abbrev pub taken : Slip → Option Draft → Result Draft Declined
taken s None = Err (record { refusal = NoDraft; slip = Some s })
taken s (Some d) = Ok d

pub record Taken (v : View) (s : Slip) (r : Result Draft Declined) (w : View) : Type 0 where
  pub answer : r ≡ taken s (draft_of v s)
  pub left : Leaves v (idled v s (draft_of v s)) v.openings None w

abbrev pub handed_back : Slip → Option Draft → Option Slip
handed_back s None = Some s
handed_back s (Some d) = None

abbrev pub or_declined : Slip → Option Draft → Result ℕ Refusal → Result ℕ Declined
or_declined s o (Ok n) = Ok n
or_declined s o (Err e) = Err (record { refusal = e; slip = handed_back s o })

-- is this the version of the stored record?
abbrev pub is_version : Option Record → ℕ → Bool
is_version None v = false
is_version (Some k) v = k.version == v

-- the next version has to be one, the stored version still the draft's, and the store has to take it
abbrev pub put_draft_checks : Meaning → Draft → List Check
put_draft_checks m d =
    limit_check (d.kept.version + 1)
    ∷ refuse (not (is_version (m.records d.part) d.kept.version)) VersionMoved
    ∷ refuse (not (allows m d.part)) (StoreRefused (refuser m d.part))
    ∷ []

abbrev pub put_draft_answer : Meaning → Draft → Result ℕ Refusal
put_draft_answer m d = unless (put_draft_checks m d) (d.kept.version + 1)

abbrev pub draft_put : Option Draft → Option Put
draft_put None = None
draft_put (Some d) = Some (record { part = d.part; version = d.kept.version + 1; account = d.kept.account })

-- a part's record is renewed from a draft, and the tills stay
pub record Renewed (v : View) (d : Draft) (r : Result ℕ Refusal) (w : View) : Type 0 where
  pub answer : r ≡ put_draft_answer v.store d
  pub left : Leaves v v.tills v.openings (by_answer (put_draft_answer v.store d) (draft_put (Some d)) None) w

abbrev pub file_checks : View → Slip → List Check
file_checks v s = given (draft_of v s) NoDraft (put_draft_checks v.store)

-- the draft's version, raised by one
abbrev pub next_version : Option Draft → ℕ
next_version None = 0
next_version (Some d) = d.kept.version + 1

abbrev pub file_answer : View → Slip → Result ℕ Refusal
file_answer v s = unless (file_checks v s) (next_version (draft_of v s))

pub record Filed (v : View) (s : Slip) (r : Result ℕ Declined) (w : View) : Type 0 where
  pub answer : r ≡ or_declined s (draft_of v s) (file_answer v s)
  pub left : Leaves v (idled v s (draft_of v s)) v.openings (by_answer (file_answer v s) (draft_put (draft_of v s)) None) w

abbrev pub drop_answer : View → Slip → Result ℕ Refusal
drop_answer v s = unless (given (draft_of v s) NoDraft (λ _. [])) 0

pub record Dropped (v : View) (s : Slip) (r : Result ℕ Declined) (w : View) : Type 0 where
  pub answer : r ≡ or_declined s (draft_of v s) (drop_answer v s)
  pub left : Leaves v (idled v s (draft_of v s)) v.openings None w

-- RESTARTING

pub record Restarted (v : View) (r : ℕ) (w : View) : Type 0 where
  pub answer : r ≡ drafts v.tills
  pub left : Leaves v (replicate 4 None) v.openings None w
