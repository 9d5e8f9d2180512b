-- What is seen of a depot, and what a call may leave of it.
use Rattle.std.specs.Prelude.{◌≡◌, ℕ, ◌-◌, Bool, cond, ◌&&◌, List, replicate, Some, None, Option, ◌==◌, nat_le, slice_index_or, slice_set}
use Rattle.account.specs.declared.account.Account.{Account}
use Rattle.store.specs.Meaning.{Meaning, Took}
use Rattle.depot.specs.Tills.{draft_in}
use Rattle.depot.specs.declared.depot.Depot.{Depot}
use Rattle.depot.specs.declared.draft.Draft.{Draft}
use Rattle.depot.specs.declared.slip.Slip.{Slip}

pub record View : Type 0 where
  pub number : ℕ
  pub tills : List (Option Draft)
  pub openings : ℕ
  pub store : Meaning

-- a depot over any kind of store, by what such a store means
abbrev pub view : {S : Type 0} → (S → Meaning) → Depot S → View
view meaning d = record { number = d.number.number; tills = d.tills; openings = d.openings; store = meaning d.store }

-- a depot as it is made: all four tills idle, none opened yet
abbrev pub fresh_view : ℕ → Meaning → View
fresh_view n m = record { number = n; tills = replicate 4 None; openings = 0; store = m }

-- tills are numbered 1 to 4
abbrev pub till_ok : ℕ → Bool
till_ok k = nat_le 1 k && nat_le k 4

abbrev pub till_of : List (Option Draft) → ℕ → Option Draft
till_of ts k = slice_index_or ts (k - 1) None

abbrev pub with_till : List (Option Draft) → ℕ → Option Draft → List (Option Draft)
with_till ts k t = slice_set ts (k - 1) t

-- the draft that a slip names, by the depot's number and tills: depot, till, serial and version agree
abbrev pub draft_at : ℕ → List (Option Draft) → Slip → Option Draft
draft_at n ts s = cond (s.depot == n && till_ok s.till) (draft_in (till_of ts s.till) s) None

abbrev pub draft_of : View → Slip → Option Draft
draft_of v s = draft_at v.number v.tills s

-- one put that is taken
pub record Put : Type 0 where
  pub part : ℕ
  pub version : ℕ
  pub account : Account

-- the store afterwards: as it was, or with that record put
abbrev pub Stored : Meaning → Option Put → Meaning → Type 0
Stored m None n = n ≡ m
Stored m (Some p) n = Took m p.part p.version p.account n

-- what a call leaves: these tills, this count of openings, and the store as it was or with one put
pub record Leaves (v : View) (ts : List (Option Draft)) (n : ℕ) (put : Option Put) (w : View) : Type 0 where
  pub number : w.number ≡ v.number
  pub tills : w.tills ≡ ts
  pub openings : w.openings ≡ n
  pub store : Stored v.store put w.store
