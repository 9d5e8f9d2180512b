-- Sending: the stored account's item is written into a buffer from a place on. The depot stays as it is.
use Rattle.std.specs.Prelude.{◌≡◌, ℕ, ◌+◌, true, not, ◌||◌, List, [], ◌∷◌, length, Some, None, Option, Result, nat_lt}
use Rattle.account.specs.Refusals.{Check, refuse, given, unless, by_answer, ascend}
use Rattle.account.specs.declared.refusal.Refusal.{Refusal}
use Rattle.account.specs.declared.refusal.Refusal.TheVariants.{OutOfRange, NoAccount, NoRoom}
use Rattle.items.specs.AccountItems.{account_bytes}
use Rattle.items.specs.Writing.{put, item_of}
use Rattle.store.specs.Meaning.{Record, part_ok}
use Rattle.depot.specs.Views.{View}

-- the item of a record
abbrev pub item_in : ℕ → Option Record → List ℕ
item_in part None = []
item_in part (Some k) = account_bytes (item_of part k.account)

-- the item of a part's stored account
abbrev pub item_for : View → ℕ → List ℕ
item_for v part = item_in part (v.store.records part)

abbrev pub send_checks : View → ℕ → List ℕ → ℕ → List Check
send_checks v part buffer place =
    refuse (not (part_ok v.store part) || nat_lt (length buffer) place) OutOfRange
    ∷ given (v.store.records part) NoAccount (λ _. refuse (nat_lt (length buffer) (place + length (item_for v part))) NoRoom ∷ [])

-- the answer is the item's length
abbrev pub send_answer : View → ℕ → List ℕ → ℕ → Result ℕ Refusal
send_answer v part buffer place = unless (send_checks v part buffer place) (length (item_for v part))

-- the buffer afterwards: a refusal leaves it as it was
abbrev pub send_left : View → ℕ → List ℕ → ℕ → List ℕ
send_left v part buffer place = by_answer (send_answer v part buffer place) (put buffer place (item_for v part)) buffer

-- of several refusals that fit, the lowest number is answered
abbrev pub LowestSendingRefusalAnswers : Type 0
LowestSendingRefusalAnswers = (v : View) (part : ℕ) (buffer : List ℕ) (place : ℕ) → ascend (send_checks v part buffer place) ≡ true
