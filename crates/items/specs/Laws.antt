-- What is written reads back, and only what writing gives is read.
use Rattle.std.specs.Prelude.{◌≡◌, ℕ, ◌≤◌, true, false, List, length, Ok}
use Rattle.account.specs.declared.account.Account.{Account}
use Rattle.account.specs.Parts.{part_ok}
use Rattle.items.specs.AccountItems.{account_bytes, account_at, only_account, ItemFits}
use Rattle.items.specs.Items.{item_bytes}
use Rattle.items.specs.Parcels.{only_remark}
use Rattle.numbers.specs.Reading.{ReadsBack, ReadsOnly, Bytes}
use Rattle.items.specs.Writing.{item_of, too_long}
use Rattle.items.specs.declared.item.AccountItem.{AccountItem}
use Rattle.items.specs.declared.item.Kind.TheVariants.{Remark}

-- account items at any place
abbrev pub ItemsReadBack : Type 0
ItemsReadBack = ReadsBack account_at account_bytes ItemFits

abbrev pub ItemsReadOnly : Type 0
ItemsReadOnly = ReadsOnly account_at account_bytes ItemFits

-- an account written as an item reads back as that part and that account
abbrev pub AccountsReadBack : Type 0
AccountsReadBack = (part : ℕ) (a : Account) → part_ok part ≡ true → only_account (account_bytes (item_of part a)) ≡ Ok (item_of part a)

abbrev pub AccountsReadOnly : Type 0
AccountsReadOnly = (bs : List ℕ) (i : AccountItem) → Bytes bs → only_account bs ≡ Ok i → ItemFits i × (bs ≡ account_bytes i)

abbrev pub RemarksReadBack : Type 0
RemarksReadBack = (text : List ℕ) → too_long text ≡ false → only_remark (item_bytes Remark text) ≡ Ok text

abbrev pub RemarksReadOnly : Type 0
RemarksReadOnly = (bs text : List ℕ) → Bytes bs → only_remark bs ≡ Ok text → (too_long text ≡ false) × (bs ≡ item_bytes Remark text)

-- how long an account item may be
abbrev pub AccountsAreShort : Type 0
AccountsAreShort = (i : AccountItem) → ItemFits i → length (account_bytes i) ≤ 371
