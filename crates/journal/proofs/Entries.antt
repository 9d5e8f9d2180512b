-- Reading and writing of entries fit each other.
use Rattle.std.proofs.Common.{◌≡◌, ℕ, ◌+◌, ◌<◌, ◌≤◌, true, leb, ◌++◌, length, drop, Ok, sym, ap, ◌∙◌, subst, inl, inr, arith}
use Rattle.std.proofs.lemmas.List.{append_assoc, length-append}
use Rattle.std.proofs.lemmas.Bool.{and_parts, leb-true, cases_Bool}
use Rattle.std.specs.Option.{ok_or}
use Rattle.account.specs.Accounts.{checked}
use Rattle.account.specs.Lawful.{lawful}
use Rattle.account.specs.declared.account.Account.{Account}
use Rattle.account.specs.declared.refusal.Refusal.TheVariants.{Malformed, Contradiction}
use Rattle.account.specs.declared.tally.Tally.{Tally}
use Rattle.account.proofs.Checked.{checked-account, checked-lawful, checked_unlawful}
use Rattle.items.specs.AccountItems.{account_bytes, account_at, ItemFits}
use Rattle.numbers.specs.Numbers.{number_bytes, number_at}
use Rattle.numbers.specs.Reading.{ReadsBack, ReadsOnly, Stand}
use Rattle.items.specs.Writing.{item_of}
use Rattle.items.specs.declared.item.AccountItem.{AccountItem}
use Rattle.items.proofs.AccountCodec.{account_back, account_only}
use Rattle.items.proofs.AccountFits.{account_fits}
use Rattle.numbers.proofs.Codecs.{number_back, number_only}
use Rattle.items.proofs.Lengths.{number_some, number-most, account-most}
use Rattle.numbers.proofs.Stands.{behind, stand_join, then_ok, then_inv, ok_same, passed, never}
use Rattle.store.specs.Meaning.{version_ok}
use Rattle.journal.specs.declared.entry.Entry.{Entry}
use Rattle.journal.specs.Journals.{EntryFits, entry_bytes, version_at, entry_at}
use Rattle.journal.specs.JournalSound.{entry_read}

-- the numbers of a lawful entry
pub version-small : (v : ℕ) → version_ok v ≡ true → v ≤ 1000000000
version-small v h = leb-true v 1000000000 (and_parts (leb 1 v) (leb v 1000000000) h).1

pub item_fits : (e : Entry) → EntryFits e → ItemFits (item_of e.part e.account)
item_fits e f =
    let both = and_parts (leb 1 e.part) (leb e.part 100000) f.part in
    account_fits e.account e.part (leb-true 1 e.part both.0) (leb-true e.part 100000 both.1)

-- how many bytes it takes
pub entry_length : (e : Entry) → length (entry_bytes e) ≡ length (number_bytes e.version) + length (account_bytes (item_of e.part e.account))
entry_length e = length-append (number_bytes e.version) (account_bytes (item_of e.part e.account))

pub entry_some : (e : Entry) → 0 < length (entry_bytes e)
entry_some e = omega (arith, entry_length e, number_some e.version)

pub entry_most : (e : Entry) → EntryFits e → length (entry_bytes e) ≤ 376
entry_most e f = omega (arith, entry_length e, number-most e.version, account-most (item_of e.part e.account) (item_fits e f))

-- THE TWO LAWS

pub entry_back : ReadsBack entry_at entry_bytes EntryFits
unfolding entry_at
entry_back bs rest p e fits stands =
    let one = number_bytes e.version in
    let item = item_of e.part e.account in
    let two = account_bytes item in
    let s₀ : drop p bs ≡ one ++ (two ++ rest) = stands ∙ append_assoc one two rest in
    let p₁ = p + length one in
    let s₁ = behind bs one (two ++ rest) p s₀ in
    let end : p₁ + length two ≡ p + length (one ++ two) = omega (arith, length-append one two) in
    let version : version_at bs p ≡ Ok (e.version, p₁) = then_ok _ (number_back bs _ p e.version (version-small e.version fits.version) s₀) (rw fits.version) in
    then_ok _ version
    (then_ok _ (account_back bs rest p₁ item (item_fits e fits) s₁)
    (then_ok _ (ap (λ o. ok_or o Contradiction) (checked-account e.account)) (ap (λ (q : ℕ). Ok (e, q)) end)))

-- the account of numbers that are lawful has these numbers
checked-tally : (t : Tally) (a : Account) → ok_or (checked t) Contradiction ≡ Ok a → a.tally ≡ t
checked-tally t a h =
    elim (cases_Bool (lawful t)) [
      | inl l ↦
          let e : Ok (record { tally = t; law = l }) ≡ Ok a = sym (ap (λ o. ok_or o Contradiction) (checked-lawful t l)) ∙ h in
          sym (ap (λ (x : Account). x.tally) (ok_same _ _ e))
      | inr l ↦ absurd (never a _ (sym (ap (λ o. ok_or o Contradiction) (checked_unlawful t l)) ∙ h))
    ]

pub entry_only : ReadsOnly entry_at entry_bytes EntryFits
unfolding entry_at
entry_only bs p q e all h =
    let v = then_inv (version_at bs p) _ (e, q) h in
    let i = then_inv (account_at bs v.0.1) _ (e, q) v.2 in
    let item = i.0.0 in
    let a = then_inv (ok_or (checked item.tally) Contradiction) _ (e, q) i.2 in
    let g = then_inv (number_at bs p) _ v.0 v.1 in
    let ok = passed (version_ok g.0.0) g.0 v.0 (Malformed p) g.2 in
    let one : Stand bs p (number_bytes v.0.0) v.0.1 = subst (λ (y : ℕ × ℕ). Stand bs p (number_bytes y.0) y.1) ok.1 (number_only bs p g.0.1 g.0.0 all g.1).1 in
    let two = account_only bs v.0.1 i.0.1 item all i.1 in
    let same : item ≡ item_of item.part a.0 = ap (λ (t : Tally). record { part = item.part; tally = t }) (sym (checked-tally item.tally a.0 a.1)) in
    let three : Stand bs v.0.1 (account_bytes (item_of item.part a.0)) i.0.1 =
    subst (λ (x : AccountItem). Stand bs v.0.1 (account_bytes x) i.0.1) same two.1 in
    let P : Entry × ℕ → Type 0 = λ y. Stand bs p (entry_bytes y.0) y.1 in
    (entry_read bs p q e h, subst P (ok_same _ _ a.2) (stand_join bs p _ _ _ _ one three))
