-- A pass over the entries, and the latest that it finds.
use Rattle.std.proofs.Common.{◌≡◌, ◌≢◌, ℕ, ◌+◌, ◌<◌, ◌≤◌, Bool, true, false, cond, eqb, List, [], ◌∷◌, ◌++◌, length, drop, Some, None, Ok, Err, Option, Result, sym, refl, ap, ◌∙◌, subst, arith}
use Rattle.std.specs.List.{flat_map, AllByRecursion}
use Rattle.std.specs.Option.{ok_or, option_map, option_or}
use Rattle.std.proofs.lemmas.List.{append_assoc, length-append}
use Rattle.std.proofs.lemmas.Bool.Decides.{nat_tests}
use Rattle.account.specs.declared.refusal.Refusal.{Refusal}
use Rattle.account.specs.declared.refusal.Refusal.TheVariants.{Contradiction}
use Rattle.account.proofs.Checked.{checked-account}
use Rattle.items.specs.AccountItems.{tally_bytes, body_bytes, account_bytes}
use Rattle.numbers.specs.Numbers.{number_bytes}
use Rattle.numbers.specs.Reading.{Bytes}
use Rattle.items.specs.Writing.{item_of}
use Rattle.items.proofs.AccountCodec.{s₂, kind_back, body_back, part_back, tally_back}
use Rattle.numbers.proofs.Codecs.{number_back}
use Rattle.items.proofs.Lengths.{account-length}
use Rattle.numbers.proofs.Stands.{behind, then_ok, ok_same, never}
use Rattle.store.specs.Meaning.{Record}
use Rattle.journal.specs.Journals.{EntryFits, entry_bytes, scan, record_of, latest, skim_at, told}
use Rattle.journal.specs.declared.entry.Entry.{Entry}
use Rattle.journal.specs.declared.skim.Skimmed.{Skimmed}
use Rattle.journal.proofs.Entries.{version-small, item_fits, entry_length, entry_some}
use Rattle.journal.proofs.Scans.{scan_stands}

-- PASSING OVER ONE ENTRY

module _ (bs rest : List ℕ) (p : ℕ) (e : Entry) (fits : EntryFits e) (stands : drop p bs ≡ entry_bytes e ++ rest) where
  abbrev one : List ℕ
  one = number_bytes e.version

  abbrev two : List ℕ
  two = account_bytes (item_of e.part e.account)

  abbrev body : List ℕ
  body = body_bytes (item_of e.part e.account)

  abbrev part : List ℕ
  part = number_bytes e.part

  s₀ : drop p bs ≡ one ++ (two ++ rest)
  s₀ = stands ∙ append_assoc one two rest

  s₁ : drop (p + length one) bs ≡ two ++ rest
  s₁ = behind bs one (two ++ rest) p s₀

  -- where the body begins
  abbrev from : ℕ
  from = p + length one + length (number_bytes 1) + length (number_bytes (length body))

  s₃ : drop from bs ≡ part ++ (tally_bytes e.account.tally ++ rest)
  s₃ = s₂ bs rest (p + length one) (item_of e.part e.account) (item_fits e fits) s₁ ∙ append_assoc part (tally_bytes e.account.tally) rest

  abbrev pub passed_over : Skimmed
  passed_over = record { part = e.part; version = e.version; numbers = from + length part; next = p + length (entry_bytes e) }

  pub skim_back : skim_at bs p ≡ Ok passed_over
  skim_back =
      let item = item_of e.part e.account in
      let end : from + length body ≡ p + length (entry_bytes e) = omega (arith, entry_length e, account-length item) in
      then_ok _ (number_back bs (two ++ rest) p e.version (version-small e.version fits.version) s₀)
      (then_ok _ (kind_back bs rest (p + length one) item (item_fits e fits) s₁)
      (then_ok _ (body_back bs rest (p + length one) item (item_fits e fits) s₁)
      (then_ok _ (part_back bs _ from e.part fits.part s₃)
      (ap (λ (q : ℕ). Ok (record { part = e.part; version = e.version; numbers = from + length part; next = q })) end))))

  pub told_back : told bs passed_over ≡ Ok (record { version = e.version; account = e.account })
  told_back =
      let s₄ = behind bs part (tally_bytes e.account.tally ++ rest) from s₃ in
      let numbers = tally_back bs rest (from + length part) e.account.tally (item_fits e fits).tally s₄ in
      then_ok _ (then_ok _ numbers (ap (λ o. ok_or o Contradiction) (checked-account e.account))) refl

-- THE LOOP

-- the pass has come to a place, and found is the latest entry of the part before it
pub record Passed (bs : List ℕ) (part place : ℕ) (found : Option Skimmed) : Type 0 where
  pub left : List Entry
  pub fits : AllByRecursion EntryFits left
  pub rest : List ℕ
  pub stands : drop place bs ≡ flat_map entry_bytes left ++ rest
  pub ends : place + length (flat_map entry_bytes left) ≡ (scan bs).end
  pub so_far : option_map Ok (latest (scan bs).entries part) ≡ option_or (option_map Ok (latest left part)) (option_map (told bs) found)

or_none : {X : Type 0} (a : Option X) → a ≡ option_or a None
or_none None = refl
or_none (Some x) = refl

pub passed_none : (bs : List ℕ) (part : ℕ) → Bytes bs → Passed bs part 0 None
passed_none bs part all =
    let s = scan_stands bs all (length bs) 0 in
    record {
      left = (scan bs).entries;
      fits = s.0;
      rest = drop (scan bs).end bs;
      stands = s.1.here;
      ends = sym s.1.after;
      so_far = or_none (option_map Ok (latest (scan bs).entries part));
    }

-- one entry more
or_next : {X Y : Type 0} (f : X → Y) (a b : Option X) (c : Option Y) → option_or (option_map f (option_or a b)) c ≡ option_or (option_map f a) (option_or (option_map f b) c)
or_next f None b c = refl
or_next f (Some x) b c = refl

told-next : (bs : List ℕ) (b : Bool) (s : Skimmed) (r : Record) (found : Option Skimmed) → told bs s ≡ Ok r
    → option_or (option_map Ok (cond b (Some r) None)) (option_map (told bs) found) ≡ option_map (told bs) (cond b (Some s) found)
told-next bs true s r found h = ap (λ (x : Result Record Refusal). Some x) (sym h)
told-next bs false s r found h = refl

-- the later of what was found of part p and an entry, if that is the part's
abbrev pub later : Option Skimmed → Skimmed → ℕ → Option Skimmed
later found s p = cond (eqb p s.part) (Some s) found

-- what the next step of the pass comes to
pub record Steps (bs : List ℕ) (part place : ℕ) (found : Option Skimmed) : Type 0 where
  pub entry : Skimmed
  pub skims : skim_at bs place ≡ Ok entry
  pub more : Passed bs part entry.next (later found entry part)

module _ (bs : List ℕ) (part place : ℕ) (found : Option Skimmed) where
  step_by : (left : List Entry) (rest : List ℕ) → AllByRecursion EntryFits left → drop place bs ≡ flat_map entry_bytes left ++ rest → place + length (flat_map entry_bytes left) ≡ (scan bs).end
      → option_map Ok (latest (scan bs).entries part) ≡ option_or (option_map Ok (latest left part)) (option_map (told bs) found) → place < (scan bs).end → Steps bs part place found
  step_by [] rest fits stands ends so_far h = absurd (let z : place + 0 ≡ (scan bs).end = ends in omega arith)
  step_by (e ∷ es) rest fits stands ends so_far h =
      let here : drop place bs ≡ entry_bytes e ++ (flat_map entry_bytes es ++ rest) = stands ∙ append_assoc (entry_bytes e) (flat_map entry_bytes es) rest in
      let s = passed_over bs (flat_map entry_bytes es ++ rest) place e fits.0 here in
      let len = length-append (entry_bytes e) (flat_map entry_bytes es) in
      record {
        entry = s;
        skims = skim_back bs (flat_map entry_bytes es ++ rest) place e fits.0 here;
        more = record {
          left = es;
          fits = fits.1;
          rest = rest;
          stands = behind bs (entry_bytes e) (flat_map entry_bytes es ++ rest) place here;
          ends = omega (arith, ends);
          so_far = so_far
              ∙ or_next Ok (latest es part) (record_of e part) (option_map (told bs) found)
              ∙ ap (option_or (option_map Ok (latest es part))) (told-next bs (eqb part e.part) s (record { version = e.version; account = e.account }) found (told_back bs (flat_map entry_bytes es ++ rest) place e fits.0 here));
        };
      }

  pub steps : Passed bs part place found → place < (scan bs).end → Steps bs part place found
  steps h l = step_by h.left h.rest h.fits h.stands h.ends h.so_far l

  all_by : (left : List Entry) → place + length (flat_map entry_bytes left) ≡ (scan bs).end
      → option_map Ok (latest (scan bs).entries part) ≡ option_or (option_map Ok (latest left part)) (option_map (told bs) found) → (scan bs).end ≤ place
      → option_map (told bs) found ≡ option_map Ok (latest (scan bs).entries part)
  all_by [] ends so_far h = sym so_far
  all_by (e ∷ es) ends so_far h = absurd (omega (arith, entry_some e, length-append (entry_bytes e) (flat_map entry_bytes es), ends))

  pub passed_all : Passed bs part place found → (scan bs).end ≤ place → option_map (told bs) found ≡ option_map Ok (latest (scan bs).entries part)
  passed_all h l = all_by h.left h.ends h.so_far l

-- what a skim in the loop tells
module _ (bs : List ℕ) (part place : ℕ) (found : Option Skimmed) (so_far : Passed bs part place found) (l : place < (scan bs).end) where
  pub never_fails : (f : Refusal) → skim_at bs place ≡ Err f → ⊥
  never_fails f h = let s = steps bs part place found so_far l in never s.entry f (sym h ∙ s.skims)

  module _ (entry : Skimmed) (h : skim_at bs place ≡ Ok entry) where
    more : Passed bs part entry.next (later found entry part)
    more =
        let s = steps bs part place found so_far l in
        let P : Skimmed → Type 0 = λ x. Passed bs part x.next (later found x part) in
        subst P (ok_same _ _ (sym s.skims ∙ h)) s.more

    pub passed_same : entry.part ≡ part → Passed bs part entry.next (Some entry)
    passed_same e = subst (Passed bs part entry.next) (grind (arith, nat_tests)) more

    pub passed_other : entry.part ≢ part → Passed bs part entry.next found
    passed_other e = subst (Passed bs part entry.next) (grind (arith, nat_tests)) more
