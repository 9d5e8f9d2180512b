-- What a line does at one depot: the call that it makes, and the answer that is printed.
use Rattle.std.specs.Prelude.{ℕ, min, cond, Some, None, Ok, Err, Option, Result}
use Rattle.std.specs.Option.{option_map, unwrap_or}
use Rattle.account.specs.Bookings.{in_range}
use Rattle.account.specs.declared.booking.Booking.{Booking}
use Rattle.account.specs.declared.booking.Booking.TheVariants as booking
use Rattle.account.specs.declared.refusal.Refusal.{Refusal}
use Rattle.account.specs.declared.refusal.Refusal.TheVariants.{OutOfRange, NoDraft, UnknownLine}
use Rattle.depot.specs.Accounts.{stock_answer, own_free_answer, advise_answer}
use Rattle.depot.specs.Views.{View}
use Rattle.depot.specs.declared.slip.Declined.{Declined}
use Rattle.depot.specs.declared.slip.Slip.{Slip}
use Rattle.grammar.specs.declared.command.Deed.{Deed}
use Rattle.grammar.specs.declared.command.Deed.TheVariants.{Create, Open, TakeIn, Issue, HandOver, File, DropDraft, Restart, Send, Receive, Stock, OwnFree, Advise}
use Rattle.season.specs.declared.call.Call.{Call}
use Rattle.season.specs.declared.call.Call.TheVariants as call
use Rattle.season.specs.declared.call.Reply.{Reply}
use Rattle.season.specs.declared.call.Reply.TheVariants.{Created, Opened, Booked, Filed, Dropped, Restarted}

-- a number of a line as an argument of 32 bits: the greatest of them is out of every range, as all above it are
abbrev pub narrowed : ℕ → ℕ
narrowed n = min n 4294967295

-- the booking that a line asks for
abbrev pub booking_of : Deed → Option Booking
booking_of (TakeIn n) = Some (booking.TakeIn (narrowed n))
booking_of (Issue n) = Some (booking.Issue (narrowed n))
booking_of (HandOver n q) = Some (booking.HandOver (narrowed n) (narrowed q))
booking_of _ = None

-- a booking is made with the slip
abbrev pub book_call : Option Slip → Option Booking → Option Call
book_call None b = None
book_call (Some s) None = None
book_call (Some s) (Some b) = Some (call.Book s b)

-- the call of a line, if it makes one; the program uses till 1
abbrev pub call_of : Option Slip → Deed → Option Call
call_of o (Create part reserve) = Some (call.Create (narrowed part) (narrowed reserve))
call_of o (Open part) = Some (call.Open 1 (narrowed part))
call_of o (TakeIn n) = book_call o (booking_of (TakeIn n))
call_of o (Issue n) = book_call o (booking_of (Issue n))
call_of o (HandOver n q) = book_call o (booking_of (HandOver n q))
call_of o File = option_map call.File o
call_of o DropDraft = option_map call.DropDraft o
call_of o Restart = Some call.Restart
call_of o _ = None

-- the slip that stays with the program while the call is made
abbrev pub left_by : Option Slip → Deed → Option Slip
left_by o (TakeIn n) = None
left_by o (Issue n) = None
left_by o (HandOver n q) = None
left_by o File = None
left_by o DropDraft = None
left_by o Restart = None
left_by o _ = o

abbrev pub version_told : Result Slip Refusal → Result ℕ Refusal
version_told (Ok s) = Ok s.version
version_told (Err e) = Err e

abbrev pub over_told : Result ℕ Declined → Result ℕ Refusal
over_told (Ok n) = Ok n
over_told (Err d) = Err d.refusal

-- the answer to a reply: for opening the version
abbrev pub answer_to : Reply → Result ℕ Refusal
answer_to (Created r) = r
answer_to (Opened r) = version_told r
answer_to (Booked s r) = r
answer_to (Filed r) = over_told r
answer_to (Dropped r) = over_told r
answer_to (Restarted n) = Ok n

-- the slip after a reply: a new one, one that was shown, or one that was handed back
abbrev pub new_slip : Option Slip → Result Slip Refusal → Option Slip
new_slip o (Ok s) = Some s
new_slip o (Err e) = o

abbrev pub back_slip : Result ℕ Declined → Option Slip
back_slip (Ok n) = None
back_slip (Err d) = d.slip

abbrev pub kept : Option Slip → Reply → Option Slip
kept o (Created r) = o
kept o (Opened r) = new_slip o r
kept o (Booked s r) = Some s
kept o (Filed r) = back_slip r
kept o (Dropped r) = back_slip r
kept o (Restarted n) = None

-- advice: the depot's number, or 0 for none
abbrev pub named_told : Result (Option ℕ) Refusal → Result ℕ Refusal
named_told (Ok o) = Ok (unwrap_or o 0)
named_told (Err e) = Err e

-- a booking without a slip: a number out of range comes first
abbrev pub lacking : Option Booking → Refusal
lacking None = NoDraft
lacking (Some b) = cond (in_range b) NoDraft OutOfRange

-- the answer where no call is made: figures that are read, and lines that lack their slip
abbrev pub read_answer : View → Deed → Result ℕ Refusal
read_answer v (Stock part) = stock_answer v (narrowed part)
read_answer v (OwnFree part) = own_free_answer v (narrowed part)
read_answer v (Advise part n) = named_told (advise_answer v (narrowed part) (narrowed n))
read_answer v (Send part) = Err UnknownLine
read_answer v (Receive item) = Err UnknownLine
read_answer v deed = Err (lacking (booking_of deed))
