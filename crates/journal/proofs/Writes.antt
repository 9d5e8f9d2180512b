-- An entry is written: its version, and then its account.
use Rattle.std.proofs.Common.{◌≡◌, ℕ, ◌+◌, ◌-◌, ◌≤◌, not, List, length, take, drop, Some, Ok, sym, refl, ap, ◌∙◌, arith}
use borrow.Rule.Slice.PartMut.{put_mid}
use Rattle.std.proofs.lemmas.Bool.{not_from_true}
use Rattle.account.specs.Parts.{part_ok}
use Rattle.items.specs.AccountItems.{account_bytes}
use Rattle.items.specs.Writing.{put, item_of, account_left}
use Rattle.items.proofs.Puts.{put_next, length-put, lent-room, lent-put}
use Rattle.items.proofs.Writes.{Writes, writes_whole}
use Rattle.numbers.specs.Numbers.{number_bytes, room_for, written}
use Rattle.journal.specs.declared.entry.Entry.{Entry}
use Rattle.journal.specs.Journals.{EntryFits, entry_bytes}
use Rattle.journal.proofs.Entries.{entry_length}

module _ (bs : List ℕ) (place : ℕ) (e : Entry) (fits : EntryFits e) (room : place + length (entry_bytes e) ≤ length bs) where
  abbrev one : List ℕ
  one = number_bytes e.version

  abbrev two : List ℕ
  two = account_bytes (item_of e.part e.account)

  -- what the writer of the number is lent
  abbrev lent : List ℕ
  lent = take (length bs - place) (drop place bs)

  number-room : place + length one ≤ length bs
  number-room = omega (arith, entry_length e)

  used_is : (used : ℕ) → Some used ≡ room_for lent e.version → used ≡ length one
  used_is used h = let e : Some used ≡ Some (length one) = h ∙ lent-room bs place e.version number-room in cc

  -- then what the writer of the account does
  module _ (used : ℕ) (told : Some used ≡ room_for lent e.version) (out : List ℕ) (wrote : out ≡ written lent e.version) where
    abbrev ys : List ℕ
    ys = put_mid place (length bs - place) bs out

    first : ys ≡ put bs place one
    first = lent-put bs place e.version number-room out wrote

    next : place + used ≡ place + length one
    next = ap (λ (n : ℕ). place + n) (used_is used told)

    as_long : length ys ≡ length bs
    as_long = ap length first ∙ length-put bs place one number-room

    whole : Writes (not (part_ok e.part)) ys (place + used) two (Ok (length two)) (put ys (place + used) two)
    whole = writes_whole (not (part_ok e.part)) ys (place + used) two (not_from_true (part_ok e.part) fits.part) (omega (arith, as_long, number-room, next)) (length two) (put ys (place + used) two) (omega (arith, as_long, entry_length e, next)) refl refl

    pub entry_written : (zs : List ℕ) → zs ≡ account_left ys (place + used) e.part e.account → zs ≡ put bs place (entry_bytes e)
    entry_written zs left = put_next bs ys zs place (place + used) one two (omega (arith, number-room)) next first (left ∙ sym whole.bytes)
