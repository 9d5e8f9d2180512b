-- What the slots of a table mean.
use Rattle.std.specs.Prelude.{ℕ, Bool, true, false, cond, not, ◌||◌, List, [], ◌∷◌, ◌++◌, length, take, drop, replicate, is_some, Some, None, Option, ◌==◌, slice_set, position}
use Rattle.std.specs.Option.{option_map, option_or}
use Rattle.account.specs.declared.account.Account.{Account}
use Rattle.account.specs.declared.tally.Row.{Row}
use Rattle.account.specs.Accounts.{checked}
use Rattle.store.specs.Bottoms.{in_range, bottom}
use Rattle.store.specs.Meaning.{Meaning, Record}
use Rattle.table.specs.declared.slot.Slot.{Slot}

-- the account of a used slot; one with other numbers or without a lawful account is unused
unfoldable pub account_of : Slot → Option Account
account_of s = cond (in_range s.part s.version) (checked s.tally) None

abbrev pub used : Slot → Bool
used s = is_some (account_of s)

abbrev pub unused : Slot → Bool
unused s = not (used s)

-- the account of a slot that holds part p
abbrev pub held : ℕ → Slot → Option Account
held p s = cond (s.part == p) (account_of s) None

abbrev pub holds : ℕ → Slot → Bool
holds p s = is_some (held p s)

-- its record
abbrev pub record_of : ℕ → Slot → Option Record
record_of p s = option_map (λ x. record { version = s.version; account = x }) (held p s)

-- the record of part p: the front slot that holds it counts
abbrev pub at : List Slot → ℕ → Option Record
at [] p = None
at (s ∷ ss) p = option_or (record_of p s) (at ss p)

abbrev pub any_unused : List Slot → Bool
any_unused [] = false
any_unused (s ∷ ss) = unused s || any_unused ss

-- the slot for a record of part p: the front one that holds it, else the front one that is unused
abbrev pub spot_of : List Slot → ℕ → Option ℕ
spot_of ss p = option_or (position (holds p) ss) (position unused ss)

-- the slots that a table uses
abbrev pub front_of : List Slot → List Slot
front_of ss = take 64 ss

abbrev pub table_meaning : List Slot → Meaning
table_meaning ss = bottom (at (front_of ss)) true (any_unused (front_of ss))

-- a slot written at a place, if there is one
abbrev pub written : List Slot → Option ℕ → Slot → List Slot
written ss None s = ss
written ss (Some k) s = slice_set ss k s

abbrev pub slot_of : ℕ → ℕ → Account → Slot
slot_of p v x = record { part = p; version = v; tally = x.tally }

-- the slots after a put: the slot that was found is the new record's; a put that is refused leaves all as they were
abbrev pub put_slots : List Slot → ℕ → ℕ → Account → List Slot
put_slots ss p v x = cond (in_range p v) (written ss (spot_of (front_of ss) p) (slot_of p v x)) ss

abbrev pub no_counts : Row
no_counts = record { counts = replicate 8 0 }

abbrev pub empty : Slot
empty = record { part = 0; version = 0; tally = record { reserve = 0; rows = replicate 8 no_counts; issued = no_counts } }

-- the slots of an empty table: those that it uses are empty
abbrev pub emptied : List Slot → List Slot
emptied ss = replicate (length (front_of ss)) empty ++ drop 64 ss
