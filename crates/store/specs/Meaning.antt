-- What a store means: the promise of every store, and all that a depot knows of the one below it.
use Rattle.std.specs.Prelude.{◌≡◌, ℕ, ◌≤◌, Bool, true, false, cond, not, ◌&&◌, List, [], ◌∷◌, is_some, IfSome, Some, None, Ok, Err, Option, Result, ◌==◌, nat_le}
use Rattle.account.specs.Parts.{last_part}
use Rattle.account.specs.declared.account.Account.{Account}
use Rattle.account.specs.declared.refusal.Refusal.{Refusal}
use Rattle.account.specs.declared.refusal.Refusal.TheVariants.{OutOfRange, StoreRefused}
use Rattle.account.specs.Tallies.{limit}
use Rattle.account.specs.Refusals.{Check, refuse, unless}

-- what is kept of a part
pub record Record : Type 0 where
  pub version : ℕ
  pub account : Account

pub record Meaning : Type 0 where
  -- the greatest part that may have a record
  pub greatest : ℕ
  pub records : ℕ → Option Record
  -- the two answers: records may be replaced, parts may get their first record
  pub rewrites : Bool
  pub takes_new : Bool
  -- the layer that would refuse a put, and the store's own layer
  pub refusing : ℕ
  pub layer : ℕ

abbrev pub part_ok : Meaning → ℕ → Bool
part_ok m p = nat_le 1 p && nat_le p m.greatest

abbrev pub version_ok : ℕ → Bool
version_ok v = nat_le 1 v && nat_le v limit

-- the ranges that every store keeps
pub record Sound (m : Meaning) : Type 0 where
  pub small : m.greatest ≤ last_part
  pub inside : (p : ℕ) → part_ok m p ≡ false → m.records p ≡ None
  pub versions : (p : ℕ) → IfSome (m.records p) (λ k. version_ok k.version ≡ true)
  pub refuser : m.refusing ≤ limit
  pub own : m.layer ≤ limit

-- looking up: the version, and what stands in the caller's place afterwards
abbrev pub version_in : Option Record → Option ℕ
version_in None = None
version_in (Some k) = Some k.version

abbrev pub account_in : Option Record → Account → Account
account_in None x = x
account_in (Some k) x = k.account

-- would a put of the part be taken, and which layer refuses it otherwise
abbrev pub allows : Meaning → ℕ → Bool
allows m p = cond (is_some (m.records p)) m.rewrites m.takes_new

abbrev pub refuser : Meaning → ℕ → ℕ
refuser m p = m.refusing

abbrev pub put_checks : Meaning → ℕ → ℕ → List Check
put_checks m p v = refuse (not (part_ok m p && version_ok v)) OutOfRange ∷ refuse (not (allows m p)) (StoreRefused (refuser m p)) ∷ []

abbrev pub put_answer : Meaning → ℕ → ℕ → Result Unit Refusal
put_answer m p v = unless (put_checks m p v) tt

abbrev pub with_record : (ℕ → Option Record) → ℕ → ℕ → Account → ℕ → Option Record
with_record f p v x q = cond (q == p) (Some (record { version = v; account = x })) (f q)

-- A put that is taken: that part's record is the new one. The two answers and the refuser's layer are the store's own.
pub record Took (m : Meaning) (p v : ℕ) (x : Account) (n : Meaning) : Type 0 where
  pub greatest : n.greatest ≡ m.greatest
  pub records : n.records ≡ with_record m.records p v x
  pub layer : n.layer ≡ m.layer

-- what a put leaves, by its answer: a refused one leaves the store as it was
abbrev pub After : Meaning → ℕ → ℕ → Account → Result Unit Refusal → Meaning → Type 0
After m p v x (Ok _) n = Took m p v x n
After m p v x (Err _) n = n ≡ m
