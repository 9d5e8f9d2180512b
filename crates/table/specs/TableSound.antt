-- A table is sound: a slot that holds a part is in range.
use Rattle.std.specs.Prelude.{◌≡◌, ℕ, Bool, true, false, cond, List, [], ◌∷◌, Some, None, Option, OnSome, ◌==◌, refl}
use Rattle.std.proofs.lemmas.Bool.{eqb-true}
use Rattle.std.specs.Option.{option_map, option_or}
use Rattle.account.specs.declared.account.Account.{Account}
use Rattle.account.specs.Accounts.{checked}
use Rattle.store.specs.BottomSound.{bottom_sound}
use Rattle.store.specs.Bottoms.{in_range, Ranged}
use Rattle.store.specs.Meaning.{Record, Sound}
use Rattle.table.specs.declared.slot.Slot.{Slot}
use Rattle.table.specs.Tables.{account_of, held, at, any_unused, front_of, table_meaning}

abbrev Held : ℕ → ℕ → Option Account → Type 0
Held p v o = OnSome o (in_range p v ≡ true)

held_by : (p v : ℕ) (b r : Bool) (o : Option Account) → (b ≡ true → r ≡ true → in_range p v ≡ true) → Held p v (cond b (cond r o None) None)
held_by p v true true None h = tt
held_by p v true true (Some x) h = h refl refl
held_by p v true false o h = tt
held_by p v false r o h = tt

held-inside : (p : ℕ) (s : Slot) → Held p s.version (held p s)
unfolding account_of
held-inside p s =
    held_by p s.version (s.part == p) (in_range s.part s.version) (checked s.tally) (λ b r. rw (eqb-true s.part p b) at r)

kept_by : (p v : ℕ) (o : Option Account) (r : Option Record) → Held p v o → Ranged p r → Ranged p (option_or (option_map (λ x. record { version = v; account = x }) o) r)
kept_by p v None r h g = g
kept_by p v (Some x) r h g = h

at-inside : (p : ℕ) (ss : List Slot) → Ranged p (at ss p)
at-inside p [] = tt
at-inside p (s ∷ ss) = kept_by p s.version (held p s) (at ss p) (held-inside p s) (at-inside p ss)

pub table_sound : (ss : List Slot) → Sound (table_meaning ss)
table_sound ss = bottom_sound (at (front_of ss)) true (any_unused (front_of ss)) (λ p. at-inside p (front_of ss))
