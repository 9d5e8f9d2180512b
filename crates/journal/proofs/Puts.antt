-- What a put that is taken comes to.
use Rattle.std.proofs.Common.{◌≡◌, ℕ, ◌+◌, ◌-◌, ◌<◌, ◌≤◌, Bool, true, false, cond, not, ◌&&◌, eqb, List, [], ◌∷◌, ◌++◌, length, take, drop, set, is_some, Some, Ok, Err, Option, sym, refl, ap, ◌∙◌, subst, arith}
use mathlib.Core.Path.{fun_ext}
use Rattle.std.specs.List.{flat_map, AllByRecursion}
use Rattle.std.specs.Option.{option_or}
use Rattle.std.proofs.ByRecursion.{All-push}
use Rattle.std.proofs.lemmas.List.{append_assoc, length-append, length-take, length_push, take_at, drop_at, flat_map_more}
use Rattle.std.proofs.lemmas.Bool.{and_parts, leb-true, cond-true}
use Rattle.account.specs.declared.refusal.Refusal.TheVariants.{Malformed, OutOfRange, StoreRefused}
use Rattle.account.specs.Parts.{part_ok}
use Rattle.items.specs.Writing.{put}
use Rattle.items.proofs.Puts.{put_next, length-put}
use Rattle.store.specs.Bottoms.{in_range}
use Rattle.store.specs.Meaning.{Record, Took, with_record, version_ok, allows, put_answer}
use Rattle.journal.specs.declared.entry.Entry.{Entry}
use Rattle.journal.specs.Journals.{EntryFits, Scan, Ends, entry_bytes, entry_at, scan, front_of, entries_of, end_of, has_room, record_of, latest, journal_meaning, put_bytes}
use Rattle.journal.specs.JournalSound.{scan_fits}
use Rattle.journal.proofs.Entries.{entry_most}
use Rattle.journal.proofs.Fronts.{set_put, put_front}
use Rattle.journal.proofs.Scans.{scan_back, zero_ends, entries_few}

-- THE ANSWER

same_both : (b x : Bool) → cond b x x ≡ x
same_both true x = refl
same_both false x = refl

pub put_taken : (bs : List ℕ) (p v : ℕ) → (in_range p v && has_room bs) ≡ true → Ok tt ≡ put_answer (journal_meaning bs) p v
put_taken bs p v taken =
    let m = journal_meaning bs in
    let both = and_parts (in_range p v) (has_room bs) taken in
    let room : allows m p ≡ true = same_both (is_some (m.records p)) (has_room bs) ∙ both.1 in
    sym (ap (λ f. cond (not f) (Err OutOfRange) (cond (not (allows m p)) (Err (StoreRefused 0)) (Ok tt))) both.0 ∙ ap (λ f. cond (not f) (Err (StoreRefused 0)) (Ok tt)) room)

-- THE BYTES AND WHAT THEY MEAN

module _ (bs : List ℕ) (end : ℕ) (new : Entry) (ends : Ends (front_of bs) end) (taken : (in_range new.part new.version && has_room bs) ≡ true) where
  pub fits : EntryFits new
  fits =
      let ranges = and_parts (part_ok new.part) (version_ok new.version) (and_parts (in_range new.part new.version) (has_room bs) taken).0 in
      record { version = ranges.1; part = ranges.0 }

  front-room : end + 377 ≤ length (front_of bs)
  front-room = omega (arith, leb-true 377 (length (front_of bs) - end_of bs) (and_parts (in_range new.part new.version) (has_room bs) taken).1, ends.0)

  pub room : end + length (entry_bytes new) < length bs
  room = omega (arith, front-room, length-take 65536 bs, entry_most new fits)

  abbrev front : List ℕ
  front = front_of bs

  abbrev es : List Entry
  es = entries_of bs

  lawful : AllByRecursion EntryFits es
  lawful = scan_fits (length front) front 0

  -- the new end
  abbrev new_last : ℕ
  new_last = end + length (entry_bytes new)

  more : flat_map entry_bytes (es ++ new ∷ []) ≡ flat_map entry_bytes es ++ entry_bytes new
  more = sym (flat_map_more entry_bytes [] es new)

  end_is : end ≡ length (flat_map entry_bytes es)
  end_is = omega (arith, ap length ends.1, length-take end front, front-room)

  new-end : length (flat_map entry_bytes (es ++ new ∷ [])) ≡ new_last
  new-end = ap length more ∙ length-append (flat_map entry_bytes es) (entry_bytes new) ∙ ap (λ (n : ℕ). n + length (entry_bytes new)) (sym end_is)

  abbrev rest : List ℕ
  rest = drop (end + length (entry_bytes new ++ 0 ∷ [])) front

  abbrev marked : List ℕ
  marked = put front end (entry_bytes new ++ 0 ∷ [])

  stands : marked ≡ flat_map entry_bytes (es ++ new ∷ []) ++ 0 ∷ rest
  stands =
      ap (λ (z : List ℕ). z ++ ((entry_bytes new ++ 0 ∷ []) ++ rest)) ends.1
      ∙ ap (λ (z : List ℕ). flat_map entry_bytes es ++ z) (append_assoc (entry_bytes new) (0 ∷ []) rest)
      ∙ sym (append_assoc (flat_map entry_bytes es) (entry_bytes new) (0 ∷ rest))
      ∙ ap (λ (z : List ℕ). z ++ 0 ∷ rest) (sym more)

  few : length (es ++ new ∷ []) ≤ length marked
  few = omega (arith, entries_few (es ++ new ∷ []), ap length stands, length-append (flat_map entry_bytes (es ++ new ∷ [])) (0 ∷ rest))

  ended : entry_at marked (0 + length (flat_map entry_bytes (es ++ new ∷ []))) ≡ Err (Malformed (0 + length (flat_map entry_bytes (es ++ new ∷ []))))
  ended =
      let n = length (flat_map entry_bytes (es ++ new ∷ [])) in
      let e : 0 + n ≡ n = omega arith in
      zero_ends marked rest (0 + n) (ap (drop (0 + n)) stands ∙ drop_at (flat_map entry_bytes (es ++ new ∷ [])) (0 ∷ rest) (0 + n) (sym e))

  scanned : scan marked ≡ record { entries = es ++ new ∷ []; end = new_last }
  scanned =
      scan_back marked (0 ∷ rest) _ (es ++ new ∷ []) (length marked) 0 (All-push EntryFits es new lawful fits) stands few ended
      ∙ ap (λ (n : ℕ). record { entries = es ++ new ∷ []; end = n }) (omega (arith, new-end))

  front-after : front_of (put_bytes bs new.part new.version new.account) ≡ marked
  front-after =
      let mark = entry_bytes new ++ 0 ∷ [] in
      let len = length_push (entry_bytes new) 0 in
      ap (take 65536) (cond-true (in_range new.part new.version && has_room bs) (put bs (end_of bs) mark) bs taken ∙ ap (λ (n : ℕ). put bs n mark) (sym ends.0))
      ∙ put_front bs 65536 end mark (omega (arith, front-room, entry_most new fits))

  new-scan : scan (front_of (put_bytes bs new.part new.version new.account)) ≡ record { entries = es ++ new ∷ []; end = new_last }
  new-scan = ap scan front-after ∙ scanned

  end_moves : Ends (front_of (put_bytes bs new.part new.version new.account)) new_last
  end_moves = (
    sym (ap (λ (s : Scan). s.end) new-scan),
    ap (take new_last) (front-after ∙ stands) ∙ take_at (flat_map entry_bytes (es ++ new ∷ [])) (0 ∷ rest) new_last new-end
        ∙ ap (λ (s : Scan). flat_map entry_bytes s.entries) (sym new-scan),
  )

  -- the new entry is the latest of its part
  or_cond : (b : Bool) (r : Record) (o d : Option Record) → option_or (cond b (Some r) o) d ≡ cond b (Some r) (option_or o d)
  or_cond true r o d = refl
  or_cond false r o d = refl

  latest_push : (xs : List Entry) (q : ℕ) → latest (xs ++ new ∷ []) q ≡ with_record (latest xs) new.part new.version new.account q
  latest_push [] q = refl
  latest_push (x ∷ xs) q =
      ap (λ o. option_or o (record_of x q)) (latest_push xs q) ∙ or_cond (eqb q new.part) (record { version = new.version; account = new.account }) (latest xs q) (record_of x q)

  meaning_after : Took (journal_meaning bs) new.part new.version new.account (journal_meaning (put_bytes bs new.part new.version new.account))
  meaning_after = record {
    greatest = refl;
    records = fun_ext (λ q. ap (λ (s : Scan). latest s.entries q) new-scan ∙ latest_push es q);
    layer = refl;
  }

  -- the zero byte behind the entry
  module _ (zs : List ℕ) (next : ℕ) (wrote : zs ≡ put bs end (entry_bytes new)) (at : next ≡ end + length (entry_bytes new)) where
    pub zero-inside : next < length zs
    zero-inside =
        let long : length zs ≡ length bs = ap length wrote ∙ length-put bs end (entry_bytes new) (omega (arith, room)) in
        omega (arith, room)

    bytes_after : set zs next 0 ≡ put_bytes bs new.part new.version new.account
    bytes_after =
        put_next bs zs (set zs next 0) end next (entry_bytes new) (0 ∷ []) (omega (arith, room)) at wrote (set_put zs next 0 zero-inside)
        ∙ ap (λ (n : ℕ). put bs n (entry_bytes new ++ 0 ∷ [])) ends.0
        ∙ sym (cond-true (in_range new.part new.version && has_room bs) (put bs (end_of bs) (entry_bytes new ++ 0 ∷ [])) bs taken)

    pub appended : Ends (front_of (set zs next 0)) next × (set zs next 0 ≡ put_bytes bs new.part new.version new.account) × Took (journal_meaning bs) new.part new.version new.account (journal_meaning (set zs next 0))
    appended =
        let P : List ℕ → ℕ → Type 0 = λ x n. Ends (front_of x) n × (x ≡ put_bytes bs new.part new.version new.account) × Took (journal_meaning bs) new.part new.version new.account (journal_meaning x) in
        subst (λ (x : List ℕ). P x next) (sym bytes_after) (subst (P (put_bytes bs new.part new.version new.account)) (sym at) (end_moves, refl, meaning_after))
