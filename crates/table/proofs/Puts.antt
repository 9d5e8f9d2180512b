-- What a put comes to, over the whole list of slots.
use Rattle.std.proofs.Common.{◌≡◌, ℕ, ◌<◌, Bool, true, cond, not, eqb, List, length, set, is_some, Some, None, Ok, Err, Option, Result, sym, refl, ap, ◌∙◌, arith, length-take}
use mathlib.Core.Path.{fun_ext}
use lib.Seq.{take-set-lt}
use Rattle.std.proofs.lemmas.Bool.{cond-true}
use Rattle.std.proofs.lemmas.Bool.Decides.{nat_tests}
use Rattle.std.specs.Option.{option_map}
use Rattle.account.specs.declared.account.Account.{Account}
use Rattle.account.specs.declared.tally.Tally.{Tally}
use Rattle.account.specs.declared.refusal.Refusal.{Refusal}
use Rattle.account.specs.declared.refusal.Refusal.TheVariants.{OutOfRange, StoreRefused}
use Rattle.account.proofs.Checked.{checked-account}
use Rattle.store.specs.Bottoms.{in_range}
use Rattle.store.specs.Meaning.{allows, put_answer, with_record, After}
use Rattle.table.specs.declared.slot.Slot.{Slot}
use Rattle.table.specs.Tables.{account_of, record_of, at, any_unused, spot_of, front_of, table_meaning, written, slot_of, put_slots}
use Rattle.table.proofs.Spots.{Aimed, aimed, spot_within, at_set}

-- a put that leaves the slots ys and answers r
pub record Puts (xs : List Slot) (p v : ℕ) (x : Account) (r : Result Unit Refusal) (ys : List Slot) : Type 0 where
  pub answer : r ≡ put_answer (table_meaning xs) p v
  pub after : After (table_meaning xs) p v x r (table_meaning ys)
  pub slots : ys ≡ put_slots xs p v x

-- the slot that was found is one of those that the table uses
module _ (xs : List Slot) (p k : ℕ) (e : Some k ≡ spot_of (front_of xs) p) where
  aim : Aimed p (front_of xs) (Some k)
  aim = rw (← e) at (aimed p (front_of xs))

  pub spot_inside : (k < length xs) × (k < 64)
  spot_inside =
      let h = spot_within p (front_of xs) k aim.0 in
      let l = length-take 64 xs in
      (omega arith, omega arith)

module _ (xs : List Slot) (p v : ℕ) (x : Account) (fit : in_range p v ≡ true) where
  by_spot : (o : Option ℕ) → o ≡ spot_of (front_of xs) p → written xs o (slot_of p v x) ≡ put_slots xs p v x
  by_spot o e =
      ap (λ z. written xs z (slot_of p v x)) e ∙ sym (cond-true (in_range p v) (written xs (spot_of (front_of xs) p) (slot_of p v x)) xs fit)

  answer_by : (b : Bool) → allows (table_meaning xs) p ≡ b → cond (not b) (Err (StoreRefused 0)) (Ok tt) ≡ put_answer (table_meaning xs) p v
  answer_by b e = sym (ap (λ f. cond (not f) (Err OutOfRange) (cond (not (allows (table_meaning xs) p)) (Err (StoreRefused 0)) (Ok tt))) fit
      ∙ ap (λ f. cond (not f) (Err (StoreRefused 0)) (Ok tt)) e)

  -- no slot was found
  pub put_full : None ≡ spot_of (front_of xs) p → Puts xs p v x (Err (StoreRefused 0)) xs
  put_full e =
      let none : Aimed p (front_of xs) None = rw (← e) at (aimed p (front_of xs)) in
      record {
        answer = answer_by _ (ap (λ o. cond (is_some o) true (any_unused (front_of xs))) none.0 ∙ none.1);
        after = refl;
        slots = by_spot None e;
      }

  -- the record of the new slot
  new-account : account_of (slot_of p v x) ≡ Some x
  unfolding account_of
  new-account = cond-true (in_range p v) _ None fit ∙ checked-account x

  by_part : (q : ℕ) → option_map (λ y. record { version = v; account = y }) (cond (eqb p q) (Some x) None) ≡ with_record (λ _. None) p v x q
  by_part q = grind (arith, nat_tests)

  new_record : (q : ℕ) → record_of q (slot_of p v x) ≡ with_record (λ _. None) p v x q
  new_record q = ap (λ o. option_map (λ y. record { version = v; account = y }) (cond (eqb p q) o None)) new-account ∙ by_part q

  module _ (k : ℕ) (e : Some k ≡ spot_of (front_of xs) p) where
    new-records : (q : ℕ) → at (front_of (set xs k (slot_of p v x))) q ≡ with_record (at (front_of xs)) p v x q
    new-records q =
        ap (λ ss. at ss q) (take-set-lt 64 xs k (slot_of p v x) (spot_inside xs p k e).1)
        ∙ at_set p v x (slot_of p v x) new_record q (front_of xs) k (aim xs p k e).0

    pub put_there : (t : Tally) → t ≡ x.tally → Puts xs p v x (Ok tt) (set xs k (record { part = p; version = v; tally = t }))
    put_there t is = rw is (record {
      answer = answer_by _ (aim xs p k e).1;
      after = record { greatest = refl; records = fun_ext new-records; layer = refl };
      slots = by_spot (Some k) e;
    })
