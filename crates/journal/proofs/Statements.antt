-- The entries stand one after another before the end, and read back.
use Rattle.std.proofs.Common.{◌≡◌, ℕ, ◌+◌, ◌≤◌, List, [], ◌∷◌, ◌++◌, length, take, drop, sym, refl, ap, ◌∙◌, arith}
use Rattle.std.specs.List.{flat_map}
use Rattle.std.proofs.ByRecursion.{All-take}
use Rattle.std.proofs.lemmas.List.{append_assoc, length-append, length_push, length-take, take-take, take_at, take-append-drop, drop_at}
use Rattle.journal.specs.Journals.{Scan, entry_bytes, scan_from, scan, ended, Ends, front_of, started, entries_of, end_of, EntriesStand, EntriesReadBack, StartedIsEmpty}
use Rattle.journal.proofs.Scans.{scan_stands, scan_ends, scan_back, zero_ends, entries_few, stop}

pub entries_stand_lem : EntriesStand
entries_stand_lem bs all =
    let front = front_of bs in
    let fit = All-take _ 65536 bs all in
    let s = scan_stands front fit (length front) 0 in
    let end = end_of bs in
    let es = flat_map entry_bytes (entries_of bs) in
    let lens : length front ≡ length es + length (drop end front) = ap length s.1.here ∙ length-append es (drop end front) in
    let inside : end ≤ 65536 = omega (arith, lens, length-take 65536 bs, s.1.after) in
    record {
      lawful = s.0;
      before = sym (take-take end 65536 bs inside) ∙ ap (take end) s.1.here ∙ take_at es (drop end front) end (omega (arith, s.1.after));
      after = scan_ends front fit (length front) 0 (omega arith);
    }

pub entries_read_back : EntriesReadBack
entries_read_back es rest fits short =
    let bytes = flat_map entry_bytes es in
    let whole = bytes ++ 0 ∷ rest in
    let front = front_of whole in
    let n = length bytes + 1 in
    let marked = bytes ++ 0 ∷ [] in
    let begins : take n front ≡ marked =
    take-take n 65536 whole (omega arith) ∙ ap (take n) (sym (append_assoc bytes (0 ∷ []) rest)) ∙ take_at marked rest n (length_push bytes 0) in
    let stands : front ≡ bytes ++ 0 ∷ drop n front =
    sym (take-append-drop n front) ∙ ap (λ (x : List ℕ). x ++ drop n front) begins ∙ append_assoc bytes (0 ∷ []) (drop n front) in
    let few : length es ≤ length front = omega (arith, entries_few es, ap length stands, length-append bytes (0 ∷ drop n front)) in
    let here : drop (0 + length bytes) front ≡ 0 ∷ drop n front = ap (drop (0 + length bytes)) stands ∙ drop_at bytes (0 ∷ drop n front) (0 + length bytes) (omega arith) in
    ap (λ (s : Scan). s.entries) (scan_back front (0 ∷ drop n front) _ es (length front) 0 fits stands few (zero_ends front (drop n front) (0 + length bytes) here))

-- a journal that is started ends at its first byte
started-scan : (bs : List ℕ) → scan (front_of (started bs)) ≡ ended 0
unfolding scan_from
started-scan [] = refl
started-scan (b ∷ bs) =
    let front = 0 ∷ take 65535 bs in
    stop (length front) front 0 _ (zero_ends front (take 65535 bs) 0 refl)

pub started_ends : (bs : List ℕ) → Ends (front_of (started bs)) 0
started_ends bs = (ap (λ (s : Scan). s.end) (sym (started-scan bs)), ap (λ (s : Scan). flat_map entry_bytes s.entries) (sym (started-scan bs)))

pub started_is_empty_lem : StartedIsEmpty
started_is_empty_lem bs = ap (λ (s : Scan). s.entries) (started-scan bs)
