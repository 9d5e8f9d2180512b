-- A journal keeps the ranges of a store, whatever its bytes are.
use Rattle.std.specs.Prelude.{◌≡◌, ℕ, zero, suc, Bool, true, false, cond, List, [], ◌∷◌, take, Some, None, Ok, Err, Option, Result, ◌==◌, refl}
use Rattle.std.proofs.Common.{ap, sym, subst}
use Rattle.std.proofs.lemmas.Bool.{and_from, eqb-true}
use Rattle.std.specs.Option.{ok_or, option_or}
use Rattle.std.specs.List.{AllByRecursion}
use Rattle.account.specs.Accounts.{checked}
use Rattle.account.specs.declared.refusal.Refusal.{Refusal}
use Rattle.account.specs.declared.refusal.Refusal.TheVariants.{Malformed, Contradiction}
use Rattle.account.specs.Parts.{part_ok}
use Rattle.items.specs.AccountItems.{part_at, tally_at, numbers_at, of_account, in_body, account_at}
use Rattle.items.specs.Items.{kind_at, body_at}
use Rattle.numbers.specs.Numbers.{number_at}
use Rattle.items.specs.declared.item.AccountItem.{AccountItem}
use Rattle.items.specs.declared.item.Kind.TheVariants.{Account}
use Rattle.numbers.proofs.Stands.{then_inv, ok_same, passed}
use Rattle.store.specs.Bottoms.{Ranged}
use Rattle.store.specs.BottomSound.{bottom_sound}
use Rattle.store.specs.Meaning.{Record, Sound, version_ok}
use Rattle.journal.specs.declared.entry.Entry.{Entry}
use Rattle.journal.specs.Journals.{EntryFits, version_at, entry_at, onward, scan_from, record_of, latest, entries_of, has_room, journal_meaning}

-- WHAT IS READ IS IN RANGE

part_read : (bs : List ℕ) (p q : ℕ) (i : AccountItem) → numbers_at bs p ≡ Ok (i, q) → part_ok i.part ≡ true
part_read bs p q i h =
    let n = then_inv (part_at bs p) _ (i, q) h in
    let t = then_inv (tally_at bs n.0.1) _ (i, q) n.2 in
    let g = then_inv (number_at bs p) _ n.0 n.1 in
    let ok = passed (part_ok g.0.0) g.0 n.0 (Malformed p) g.2 in
    let same : n.0.0 ≡ i.part = ap (λ (y : AccountItem × ℕ). y.0.part) (ok_same _ _ t.2) in
    let P : ℕ → Type 0 = λ x. part_ok x ≡ true in
    subst P same (subst P (ap (λ (y : ℕ × ℕ). y.0) ok.1) ok.0)

item_read : (bs : List ℕ) (p q : ℕ) (i : AccountItem) → account_at bs p ≡ Ok (i, q) → part_ok i.part ≡ true
unfolding account_at
item_read bs p q i h =
    let k = then_inv (kind_at bs p) _ (i, q) h in
    let o = then_inv (of_account p k.0) _ (i, q) k.2 in
    let b = then_inv (body_at bs Account o.0) (in_body bs) (i, q) o.2 in
    let n = then_inv (numbers_at (take b.0.end bs) b.0.from) _ (i, q) b.2 in
    let last = passed (n.0.1 == b.0.end) n.0 (i, q) (Malformed n.0.1) n.2 in
    let P : AccountItem × ℕ → Type 0 = λ y. part_ok y.0.part ≡ true in
    subst P last.1 (part_read (take b.0.end bs) b.0.from n.0.1 n.0.0 n.1)

pub entry_read : (bs : List ℕ) (p q : ℕ) (e : Entry) → entry_at bs p ≡ Ok (e, q) → EntryFits e
unfolding entry_at
entry_read bs p q e h =
    let v = then_inv (version_at bs p) _ (e, q) h in
    let i = then_inv (account_at bs v.0.1) _ (e, q) v.2 in
    let a = then_inv (ok_or (checked i.0.0.tally) Contradiction) _ (e, q) i.2 in
    let g = then_inv (number_at bs p) _ v.0 v.1 in
    let ok = passed (version_ok g.0.0) g.0 v.0 (Malformed p) g.2 in
    let P : ℕ × ℕ → Type 0 = λ y. version_ok y.0 ≡ true in
    let Q : Entry × ℕ → Type 0 = λ y. EntryFits y.0 in
    subst Q (ok_same _ _ a.2) (record { version = subst P ok.1 ok.0; part = item_read bs v.0.1 i.0.1 i.0.0 i.1 })

-- THE RECORDS

onward_fits : (k : ℕ) (bs : List ℕ) (p : ℕ) (r : Result (Entry × ℕ) Refusal) → entry_at bs p ≡ r → ((q : ℕ) → AllByRecursion EntryFits (scan_from k bs q).entries) → AllByRecursion EntryFits (onward p (λ q. scan_from k bs q) r).entries
onward_fits k bs p (Ok e) h more = (entry_read bs p e.1 e.0 h, more e.1)
onward_fits k bs p (Err _) h more = tt

pub scan_fits : (k : ℕ) (bs : List ℕ) (p : ℕ) → AllByRecursion EntryFits (scan_from k bs p).entries
unfolding scan_from
scan_fits zero bs p = tt
scan_fits (suc k) bs p = onward_fits k bs p (entry_at bs p) refl (λ q. scan_fits k bs q)

or_ranged : (p : ℕ) (a b : Option Record) → Ranged p a → Ranged p b → Ranged p (option_or a b)
or_ranged p None b s t = t
or_ranged p (Some r) b s t = s

record_ranged : (e : Entry) (p : ℕ) (b : Bool) → (p == e.part) ≡ b → EntryFits e → Ranged p (cond b (Some (record { version = e.version; account = e.account })) None)
record_ranged e p true h f =
    let P : ℕ → Type 0 = λ x. part_ok x ≡ true in
    and_from (part_ok p) (version_ok e.version) (subst P (sym (eqb-true p e.part h)) f.part) f.version
record_ranged e p false h f = tt

latest_ranged : (es : List Entry) (p : ℕ) → AllByRecursion EntryFits es → Ranged p (latest es p)
latest_ranged [] p f = tt
latest_ranged (e ∷ es) p f = or_ranged p (latest es p) (record_of e p) (latest_ranged es p f.1) (record_ranged e p (p == e.part) refl f.0)

pub journal_sound : (bs : List ℕ) → Sound (journal_meaning bs)
journal_sound bs = bottom_sound (latest (entries_of bs)) (has_room bs) (has_room bs) (λ p. latest_ranged (entries_of bs) p (scan_fits _ _ 0))
