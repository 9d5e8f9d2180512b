-- The scan of a journal: what stands before its end, and what reads back.
use Rattle.std.proofs.Common.{◌≡◌, ℕ, zero, suc, ◌+◌, ◌<◌, ◌≤◌, List, [], ◌∷◌, ◌++◌, length, get_or, take, drop, Ok, Err, Result, sym, refl, ap, ◌∙◌, arith, w8, Fits}
use Rattle.std.specs.List.{flat_map, AllByRecursion}
use Rattle.std.specs.Option.{ok_or}
use Rattle.std.proofs.ByRecursion.{All-from_get_or}
use Rattle.std.proofs.lemmas.List.{append_assoc, length-append, length-drop, take_at}
use Rattle.account.specs.declared.refusal.Refusal.{Refusal}
use Rattle.account.specs.declared.refusal.Refusal.TheVariants.{Malformed, Contradiction}
use Rattle.account.specs.Accounts.{checked}
use Rattle.items.specs.AccountItems.{account_at}
use Rattle.numbers.specs.Numbers.{number_bytes}
use Rattle.numbers.specs.Reading.{and_then, Bytes, Stand}
use Rattle.numbers.proofs.Codecs.{number_back}
use Rattle.numbers.proofs.Stands.{behind, stand_join, then_ok, never}
use Rattle.journal.specs.declared.entry.Entry.{Entry}
use Rattle.journal.specs.Journals.{EntryFits, entry_bytes, version_at, entry_at, Scan, ended, onward, scan_from, scan, Ends}
use Rattle.journal.proofs.Entries.{entry_some, entry_back, entry_only}

-- the bytes of a slice
pub all_bytes : (bs : List ℕ) → ((i : ℕ) → Fits w8 (get_or bs i 0)) → Bytes bs
all_bytes bs fit = All-from_get_or _ bs 0 (λ i _. omega (arith, fit i))

-- an entry takes some of the bytes
pub entry_takes : (bs : List ℕ) (p q : ℕ) (e : Entry) → Bytes bs → entry_at bs p ≡ Ok (e, q) → (p < q) × (q ≤ length bs)
entry_takes bs p q e all h =
    let s = (entry_only bs p q e all h).1 in
    let some = entry_some e in
    let lens : length (drop p bs) ≡ length (entry_bytes e) + length (drop q bs) = ap length s.here ∙ length-append (entry_bytes e) (drop q bs) in
    let a = length-drop p bs in
    let b = length-drop q bs in
    (omega (arith, s.after), omega (arith, s.after))

-- WHAT A SCAN FINDS

abbrev pub Scanned : List ℕ → ℕ → Scan → Type 0
Scanned bs p s = AllByRecursion EntryFits s.entries × Stand bs p (flat_map entry_bytes s.entries) s.end

abbrev pub NoEntry : List ℕ → ℕ → Type 0
NoEntry bs p = (e : Entry) (q : ℕ) → entry_at bs p ≡ Ok (e, q) → ⊥

module _ (bs : List ℕ) (all : Bytes bs) where
  onward_stands : (p : ℕ) (more : ℕ → Scan) (r : Result (Entry × ℕ) Refusal) → entry_at bs p ≡ r → ((q : ℕ) → Scanned bs q (more q)) → Scanned bs p (onward p more r)
  onward_stands p more (Ok e) h rest =
      let only = entry_only bs p e.1 e.0 all h in
      let later = rest e.1 in
      ((only.0, later.0), stand_join bs p e.1 (more e.1).end (entry_bytes e.0) (flat_map entry_bytes (more e.1).entries) only.1 later.1)
  onward_stands p more (Err _) h rest = (tt, record { here = refl; after = omega arith })

  pub scan_stands : (k p : ℕ) → Scanned bs p (scan_from k bs p)
  unfolding scan_from
  scan_stands zero p = (tt, record { here = refl; after = omega arith })
  scan_stands (suc k) p = onward_stands p (λ q. scan_from k bs q) (entry_at bs p) refl (λ q. scan_stands k q)

  onward_ends : (p : ℕ) (more : ℕ → Scan) (r : Result (Entry × ℕ) Refusal) → entry_at bs p ≡ r → ((q : ℕ) → p < q → NoEntry bs (more q).end) → NoEntry bs (onward p more r).end
  onward_ends p more (Ok e) h rest = rest e.1 (entry_takes bs p e.1 e.0 all h).0
  onward_ends p more (Err f) h rest = λ e q k. never (e, q) f (sym h ∙ k)

  pub scan_ends : (k p : ℕ) → length bs ≤ k + p → NoEntry bs (scan_from k bs p).end
  unfolding scan_from
  scan_ends zero p h = λ e q k. let t = entry_takes bs p q e all k in omega (arith, t.0, t.1)
  scan_ends (suc k) p h = onward_ends p (λ q. scan_from k bs q) (entry_at bs p) refl (λ q l. scan_ends k q (omega arith))

-- WHAT READS BACK

pub stop : (k : ℕ) (bs : List ℕ) (p : ℕ) (f : Refusal) → entry_at bs p ≡ Err f → scan_from k bs p ≡ ended p
unfolding scan_from
stop zero bs p f e = refl
stop (suc k) bs p f e = ap (onward p (λ q. scan_from k bs q)) e

step : (k : ℕ) (bs : List ℕ) (p : ℕ) (e : Entry × ℕ) → entry_at bs p ≡ Ok e → scan_from (suc k) bs p ≡ onward p (λ q. scan_from k bs q) (Ok e)
unfolding scan_from
step k bs p e h = ap (onward p (λ q. scan_from k bs q)) h

-- no entry has version 0
pub zero_ends : (bs rest : List ℕ) (p : ℕ) → drop p bs ≡ 0 ∷ rest → entry_at bs p ≡ Err (Malformed p)
unfolding entry_at number_bytes
zero_ends bs rest p h =
    let none : version_at bs p ≡ Err (Malformed p) = then_ok _ (number_back bs rest p 0 (omega arith) h) refl in
    let F : ℕ × ℕ → Result (Entry × ℕ) Refusal = λ v. and_then (account_at bs v.1) (λ i. and_then (ok_or (checked i.0.tally) Contradiction) (λ a. Ok (record { part = i.0.part; version = v.0; account = a }, i.1))) in
    ap (λ (v : Result (ℕ × ℕ) Refusal). and_then v F) none

module _ (bs rest : List ℕ) (f : Refusal) where
  pub scan_back : (es : List Entry) (k p : ℕ) → AllByRecursion EntryFits es → drop p bs ≡ flat_map entry_bytes es ++ rest → length es ≤ k
      → entry_at bs (p + length (flat_map entry_bytes es)) ≡ Err f → scan_from k bs p ≡ record { entries = es; end = p + length (flat_map entry_bytes es) }
  scan_back [] k p fits stands enough ends =
      let same : p + 0 ≡ p = omega arith in
      stop k bs p f (ap (entry_at bs) (sym same) ∙ ends) ∙ ap ended (sym same)
  scan_back (e ∷ es) zero p fits stands enough ends = absurd (let z : suc (length es) ≤ 0 = enough in omega arith)
  scan_back (e ∷ es) (suc k) p fits stands enough ends =
      let here : drop p bs ≡ entry_bytes e ++ (flat_map entry_bytes es ++ rest) = stands ∙ append_assoc (entry_bytes e) (flat_map entry_bytes es) rest in
      let q = p + length (entry_bytes e) in
      let end : q + length (flat_map entry_bytes es) ≡ p + length (entry_bytes e ++ flat_map entry_bytes es) = omega (arith, length-append (entry_bytes e) (flat_map entry_bytes es)) in
      let later = scan_back es k q fits.1 (behind bs (entry_bytes e) (flat_map entry_bytes es ++ rest) p here) (omega arith) (ap (entry_at bs) end ∙ ends) in
      step k bs p (e, q) (entry_back bs (flat_map entry_bytes es ++ rest) p e fits.0 here)
      ∙ ap (λ (s : Scan). record { entries = e ∷ s.entries; end = s.end }) later
      ∙ ap (λ (n : ℕ). record { entries = e ∷ es; end = n }) end

-- each entry takes a byte at least
pub entries_few : (es : List Entry) → length es ≤ length (flat_map entry_bytes es)
entries_few [] = omega arith
entries_few (e ∷ es) = omega (arith, entries_few es, entry_some e, length-append (entry_bytes e) (flat_map entry_bytes es))

-- THE LOOP THAT FINDS THE END

-- it has come to place p, and the rest has the same end
pub record Walked (bs : List ℕ) (p : ℕ) : Type 0 where
  pub all : Bytes bs
  pub left : ℕ
  pub enough : length bs ≤ left + p
  pub inside : p ≤ length bs
  pub same : (scan_from left bs p).end ≡ (scan bs).end

pub walked_none : (bs : List ℕ) → Bytes bs → Walked bs 0
walked_none bs all = record { all = all; left = length bs; enough = omega arith; inside = omega arith; same = refl }

fewer : (k : ℕ) (bs : List ℕ) (p q : ℕ) (e : Entry) → 0 < k → entry_at bs p ≡ Ok (e, q) → (j : ℕ) × (k ≡ suc j) × ((scan_from k bs p).end ≡ (scan_from j bs q).end)
fewer zero bs p q e l h = absurd (let z : 0 < 0 = l in omega arith)
fewer (suc k) bs p q e l h = (k, refl, ap (λ (s : Scan). s.end) (step k bs p (e, q) h))

pub walked_more : (bs : List ℕ) (p q : ℕ) (e : Entry) → entry_at bs p ≡ Ok (e, q) → Walked bs p → Walked bs q
walked_more bs p q e h w =
    let t = entry_takes bs p q e w.all h in
    let j = fewer w.left bs p q e (omega (arith, w.enough, t.0, t.1)) h in
    record { all = w.all; left = j.0; enough = omega (arith, w.enough, j.1, t.0); inside = t.1; same = sym j.2 ∙ w.same }

pub walked_all : (bs : List ℕ) (p : ℕ) (f : Refusal) → entry_at bs p ≡ Err f → Walked bs p → Ends bs p
walked_all bs p f h w =
    let end : p ≡ (scan bs).end = sym (ap (λ (s : Scan). s.end) (stop w.left bs p f h)) ∙ w.same in
    let stands = (scan_stands bs w.all (length bs) 0).1 in
    (end, ap (take p) stands.here ∙ take_at (flat_map entry_bytes (scan bs).entries) (drop (scan bs).end bs) p (omega (arith, stands.after)))
