-- Writing an item into a buffer from a place on.
use Rattle.std.specs.Prelude.{ℕ, ◌+◌, Bool, not, ◌||◌, List, [], ◌∷◌, ◌++◌, length, take, drop, Result, nat_lt}
use Rattle.account.specs.Refusals.{Check, refuse, unless, by_answer}
use Rattle.account.specs.declared.account.Account.{Account}
use Rattle.account.specs.declared.refusal.Refusal.{Refusal}
use Rattle.account.specs.declared.refusal.Refusal.TheVariants.{OutOfRange, NoRoom}
use Rattle.account.specs.Parts.{part_ok}
use Rattle.items.specs.AccountItems.{account_bytes}
use Rattle.items.specs.Items.{item_bytes, most_bytes}
use Rattle.items.specs.declared.item.AccountItem.{AccountItem}
use Rattle.items.specs.declared.item.Kind.TheVariants.{Remark}

-- the buffer with some bytes from a place on, and all others as they were
abbrev pub put : List ℕ → ℕ → List ℕ → List ℕ
put buffer place bytes = take place buffer ++ (bytes ++ drop (place + length bytes) buffer)

-- an argument is out of range, as a place past the buffer's end is; the bytes do not fit
abbrev pub write_checks : Bool → List ℕ → ℕ → List ℕ → List Check
write_checks wrong buffer place bytes =
    refuse (wrong || nat_lt (length buffer) place) OutOfRange ∷ refuse (nat_lt (length buffer) (place + length bytes)) NoRoom ∷ []

-- the answer is how many bytes were written
abbrev pub write_answer : Bool → List ℕ → ℕ → List ℕ → Result ℕ Refusal
write_answer wrong buffer place bytes = unless (write_checks wrong buffer place bytes) (length bytes)

-- the buffer afterwards: a refusal leaves it as it was
abbrev pub write_left : Bool → List ℕ → ℕ → List ℕ → List ℕ
write_left wrong buffer place bytes = by_answer (write_answer wrong buffer place bytes) (put buffer place bytes) buffer

-- ACCOUNTS

abbrev pub item_of : ℕ → Account → AccountItem
item_of part a = record { part = part; tally = a.tally }

abbrev pub account_answer : List ℕ → ℕ → ℕ → Account → Result ℕ Refusal
account_answer buffer place part a = write_answer (not (part_ok part)) buffer place (account_bytes (item_of part a))

abbrev pub account_left : List ℕ → ℕ → ℕ → Account → List ℕ
account_left buffer place part a = write_left (not (part_ok part)) buffer place (account_bytes (item_of part a))

-- REMARKS

abbrev pub too_long : List ℕ → Bool
too_long text = nat_lt (most_bytes Remark) (length text)

abbrev pub remark_answer : List ℕ → ℕ → List ℕ → Result ℕ Refusal
remark_answer buffer place text = write_answer (too_long text) buffer place (item_bytes Remark text)

abbrev pub remark_left : List ℕ → ℕ → List ℕ → List ℕ
remark_left buffer place text = write_left (too_long text) buffer place (item_bytes Remark text)
