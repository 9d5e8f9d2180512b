-- A lawful tally checks to its account.
use Rattle.std.proofs.Common.{◌≡◌, Bool, true, false, ◌&&◌, Some, None, sym, refl}
use mathlib.Core.Bool.{Bool-set}
use Rattle.std.proofs.lemmas.Bool.{both_ways, and_from, and_left, and_right}
use Rattle.account.specs.Tallies.{counter_of}
use Rattle.account.specs.Lawful.{shaped, ranged, covered, lawful}
use Rattle.account.specs.Accounts.{checked, checked_by}
use Rattle.account.specs.declared.account.Account.{Account}
use Rattle.account.specs.declared.tally.Tally.{Tally}

by_law : (t : Tally) (h : lawful t ≡ true) (b : Bool) (e : lawful t ≡ b) → checked_by t b e ≡ Some (record { tally = t; law = h })
by_law t h true e = λ i. Some (record { tally = t; law = Bool-set (lawful t) true e h i })
by_law t h false e = absurd (both_ways (lawful t) e h)

pub checked-lawful : (t : Tally) (h : lawful t ≡ true) → checked t ≡ Some (record { tally = t; law = h })
unfolding checked
checked-lawful t h = by_law t h (lawful t) refl

pub checked_unlawful : (t : Tally) → lawful t ≡ false → checked t ≡ None
unfolding checked
checked_unlawful t h = go (lawful t) refl h
  where
    go : (b : Bool) (e : lawful t ≡ b) → b ≡ false → checked_by t b e ≡ None
    go true e f = absurd (both_ways true f refl)
    go false e f = refl

pub checked-account : (a : Account) → checked a.tally ≡ Some a
checked-account a = checked-lawful a.tally a.law

-- the two tests that make a tally lawful
pub tests_pass : (t : Tally) → true ≡ (shaped t && ranged (counter_of t)) → true ≡ covered (counter_of t) → lawful t ≡ true
unfolding lawful
tests_pass t p q = and_from (shaped t && ranged (counter_of t)) (covered (counter_of t)) (sym p) (sym q)

pub ranged-fails : (t : Tally) → false ≡ (shaped t && ranged (counter_of t)) → None ≡ checked t
unfolding lawful
ranged-fails t p = sym (checked_unlawful t (and_left (shaped t && ranged (counter_of t)) (covered (counter_of t)) (sym p)))

pub covered-fails : (t : Tally) → false ≡ covered (counter_of t) → None ≡ checked t
unfolding lawful
covered-fails t p = sym (checked_unlawful t (and_right (shaped t && ranged (counter_of t)) (covered (counter_of t)) (sym p)))
