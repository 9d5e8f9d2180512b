-- What the bytes of a journal mean.
use Rattle.std.specs.Prelude.{◌≡◌, ℕ, zero, suc, ◌-◌, ◌<◌, Bool, true, cond, ◌&&◌, List, [], ◌∷◌, ◌++◌, length, take, Some, None, Ok, Err, Option, Result, ◌==◌, ◌≢◌, nat_le, slice_set}
use Rattle.std.specs.List.{flat_map, AllByRecursion}
use Rattle.std.specs.Option.{ok_or, option_or}
use Rattle.account.specs.Accounts.{checked}
use Rattle.account.specs.declared.account.Account.{Account}
use Rattle.account.specs.declared.refusal.Refusal.{Refusal}
use Rattle.account.specs.declared.refusal.Refusal.TheVariants.{Malformed, Contradiction}
use Rattle.account.specs.Parts.{part_ok}
use Rattle.items.specs.AccountItems.{account_bytes, account_at, part_at, tally_at}
use Rattle.items.specs.Items.{kind_at, body_at}
use Rattle.numbers.specs.Numbers.{number_bytes, number_at}
use Rattle.numbers.specs.Reading.{Reading, and_then, Bytes}
use Rattle.items.specs.Writing.{put, item_of}
use Rattle.store.specs.Bottoms.{in_range, bottom}
use Rattle.store.specs.Meaning.{Meaning, Record, version_ok}
use Rattle.journal.specs.declared.entry.Entry.{Entry}
use Rattle.journal.specs.declared.skim.Skimmed.{Skimmed}

-- AN ENTRY

-- the version, and then the account as an item
abbrev pub entry_bytes : Entry → List ℕ
entry_bytes e = number_bytes e.version ++ account_bytes (item_of e.part e.account)

abbrev pub version_at : Reading ℕ
version_at bs p = and_then (number_at bs p) (λ v. cond (version_ok v.0) (Ok v) (Err (Malformed p)))

-- the whole and lawful entry at a place
unfoldable pub entry_at : Reading Entry
entry_at bs p =
    and_then (version_at bs p) (λ v. and_then (account_at bs v.1) (λ i. and_then (ok_or (checked i.0.tally) Contradiction)
    (λ a. Ok (record { part = i.0.part; version = v.0; account = a }, i.1))))

-- ALL ENTRIES

-- the entries from a place on, and where they end
pub record Scan : Type 0 where
  pub entries : List Entry
  pub end : ℕ

abbrev pub ended : ℕ → Scan
ended p = record { entries = []; end = p }

-- the entry that was read and those after it; none ends the scan
abbrev pub onward : ℕ → (ℕ → Scan) → Result (Entry × ℕ) Refusal → Scan
onward p more (Ok e) = record { entries = e.0 ∷ (more e.1).entries; end = (more e.1).end }
onward p more (Err _) = ended p

-- at most k entries from p on
unfoldable pub scan_from : ℕ → List ℕ → ℕ → Scan
scan_from zero bs p = ended p
scan_from (suc k) bs p = onward p (λ q. scan_from k bs q) (entry_at bs p)

-- each entry takes a byte at least, so these are all
abbrev pub scan : List ℕ → Scan
scan bs = scan_from (length bs) bs 0

-- the place where the entries end; before it they stand one after another, as they were written
abbrev pub Ends : List ℕ → ℕ → Type 0
Ends bs end = (end ≡ (scan bs).end) × (take end bs ≡ flat_map entry_bytes (scan bs).entries)

-- THE JOURNAL

-- the bytes that a journal uses
abbrev pub front_of : List ℕ → List ℕ
front_of bs = take 65536 bs

abbrev pub entries_of : List ℕ → List Entry
entries_of bs = (scan (front_of bs)).entries

abbrev pub end_of : List ℕ → ℕ
end_of bs = (scan (front_of bs)).end

-- an entry takes at most 376 bytes, and a zero byte follows it: so many remain from the end on
abbrev pub has_room : List ℕ → Bool
has_room bs = nat_le 377 (length (front_of bs) - end_of bs)

-- what an entry says of part p
abbrev pub record_of : Entry → ℕ → Option Record
record_of e p = cond (p == e.part) (Some (record { version = e.version; account = e.account })) None

-- the latest entry of a part counts
abbrev pub latest : List Entry → ℕ → Option Record
latest [] p = None
latest (e ∷ es) p = option_or (latest es p) (record_of e p)

abbrev pub journal_meaning : List ℕ → Meaning
journal_meaning bs = bottom (latest (entries_of bs)) (has_room bs) (has_room bs)

-- the bytes of a journal that is started: a zero byte in front, if there is a byte, since no entry has version 0
abbrev pub started : List ℕ → List ℕ
started bs = slice_set bs 0 0

-- the bytes after a put: the new entry and a zero byte stand from the end on; a put that is refused leaves all as they were
abbrev pub put_bytes : List ℕ → ℕ → ℕ → Account → List ℕ
put_bytes bs p v a =
    cond (in_range p v && has_room bs) (put bs (end_of bs) (entry_bytes (record { part = p; version = v; account = a }) ++ 0 ∷ [])) bs

-- PASSING OVER ENTRIES

-- what stands before an entry's numbers, and where the next entry begins
abbrev pub skim_at : List ℕ → ℕ → Result Skimmed Refusal
skim_at bs p =
    and_then (number_at bs p) (λ v. and_then (kind_at bs v.1) (λ k. and_then (body_at bs k.0 k.1) (λ b. and_then (part_at bs b.from)
    (λ n. Ok (record { part = n.0; version = v.0; numbers = n.1; next = b.end })))))

-- the account of an entry that was passed over
abbrev pub account_told : List ℕ → Skimmed → Result Account Refusal
account_told bs s = and_then (tally_at bs s.numbers) (λ t. ok_or (checked t.0) Contradiction)

-- and its record
abbrev pub told : List ℕ → Skimmed → Result Record Refusal
told bs s = and_then (account_told bs s) (λ a. Ok (record { version = s.version; account = a }))

-- THE ENTRIES STAND ONE AFTER ANOTHER

pub record EntryFits (e : Entry) : Type 0 where
  pub version : version_ok e.version ≡ true
  pub part : part_ok e.part ≡ true

-- the entries are lawful, they are what stands before the end, and none begins there
pub record Kept (bs : List ℕ) : Type 0 where
  pub lawful : AllByRecursion EntryFits (entries_of bs)
  pub before : take (end_of bs) bs ≡ flat_map entry_bytes (entries_of bs)
  pub after : (e : Entry) (q : ℕ) → entry_at (front_of bs) (end_of bs) ≢ Ok (e, q)

abbrev pub EntriesStand : Type 0
EntriesStand = (bs : List ℕ) → Bytes bs → Kept bs

-- lawful entries that were written, with a zero byte after them, read back
abbrev pub EntriesReadBack : Type 0
EntriesReadBack =
    (es : List Entry) (rest : List ℕ) → AllByRecursion EntryFits es → length (flat_map entry_bytes es) < 65536 → entries_of (flat_map entry_bytes es ++ 0 ∷ rest) ≡ es

abbrev pub StartedIsEmpty : Type 0
StartedIsEmpty = (bs : List ℕ) → entries_of (started bs) ≡ []
