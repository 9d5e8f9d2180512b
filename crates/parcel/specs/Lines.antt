-- What is told of an item of a parcel.
use Rattle.std.specs.Prelude.{ℕ, List, Some, None, Ok, Err, Option, Result}
use Rattle.account.specs.Accounts.{checked, free_of, stock_of}
use Rattle.account.specs.Tallies.{eight}
use Rattle.account.specs.declared.account.Account.{Account}
use Rattle.account.specs.declared.refusal.Refusal.{Refusal}
use Rattle.items.specs.AccountItems.{account_at}
use Rattle.items.specs.Parcels.{Shown, only_remark}
use Rattle.items.specs.declared.item.AccountItem.{AccountItem}
use Rattle.items.specs.declared.item.Kind.{Kind}
use Rattle.items.specs.declared.item.Kind.TheVariants as kinds
use Rattle.parcel.specs.declared.figures.Figures.{Figures}
use Rattle.parcel.specs.declared.line.Told.{Told}
use Rattle.parcel.specs.declared.line.Told.TheVariants as told

abbrev pub figures_of : ℕ → Account → Figures
figures_of part a = record { part = part; reserve = a.tally.reserve; stock = stock_of a; free = eight (free_of a) }

-- what is told of an item, with the text of a remark
pub data Words : Type 0 where
  account : Figures → Words
  contradiction : ℕ → ℕ → Words
  unread : Refusal → Words
  remark : List ℕ → Words

abbrev pub words_of : Told → Words
words_of (told.Account figures) = account figures
words_of (told.Contradiction part reserve) = contradiction part reserve
words_of (told.Unread refusal) = unread refusal
words_of (told.Remark text) = remark text.now

-- the numbers of an item may be no account
abbrev pub of_numbers : AccountItem → Option Account → Words
of_numbers i (Some a) = account (figures_of i.part a)
of_numbers i None = contradiction i.part i.tally.reserve

abbrev pub of_account : Result (AccountItem × ℕ) Refusal → Words
of_account (Ok g) = of_numbers g.0 (checked g.0.tally)
of_account (Err e) = unread e

abbrev pub of_remark : Result (List ℕ) Refusal → Words
of_remark (Ok text) = remark text
of_remark (Err e) = unread e

abbrev pub of_kind : List ℕ → ℕ → List ℕ → Kind → Words
of_kind parcel p bytes kinds.Account = of_account (account_at parcel p)
of_kind parcel p bytes kinds.Remark = of_remark (only_remark bytes)

-- what is told of an item that was handed out
abbrev pub told_of : List ℕ → Shown → Words
told_of parcel s = of_kind parcel s.place s.bytes s.kind
