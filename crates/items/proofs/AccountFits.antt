-- Every account fits an item.
use Rattle.std.proofs.Common.{◌≡◌, ℕ, ◌+◌, ◌<◌, ◌≤◌, true, ◌&&◌, leb, length, get_or, subst, arith}
use Rattle.std.proofs.ByRecursion.{All-from_get_or}
use Rattle.std.proofs.lemmas.Bool.{and_parts, leb-true}
use Rattle.account.specs.Lawful.{each, shaped, within, ranged, covered, lawful}
use Rattle.account.specs.Tallies.{limit, no_row, count, row, handed, issued_by, counter_of}
use Rattle.account.specs.declared.account.Account.{Account}
use Rattle.account.specs.declared.tally.Row.{Row}
use Rattle.account.specs.declared.tally.Tally.{Tally}
use Rattle.account.proofs.Each.{each-here}
use Rattle.account.proofs.Limits.{within-here}
use Rattle.account.proofs.Places.{count_at, row_at}
use Rattle.account.proofs.Tabled.{shape}
use Rattle.numbers.specs.Numbers.{NumberFits}
use Rattle.items.specs.AccountItems.{RowFits, TallyFits, ItemFits}
use Rattle.items.specs.Laws.{AccountsReadBack}
use Rattle.items.specs.Writing.{item_of}
use Rattle.items.proofs.AccountCodec.{one_back}

row_fits : (r : Row) → length r.counts ≡ 8 → within (count r) ≡ true → RowFits r
row_fits r long small = (
  long,
  All-from_get_or NumberFits r.counts 0 (λ j h. subst NumberFits (count_at r j) (within-here (count r) small (j + 1) (omega arith) (omega arith))),
)

pub tally_fits : (t : Tally) → shaped t ≡ true → ranged (counter_of t) ≡ true → TallyFits t
unfolding ranged
tally_fits t shapely small =
    let s = shape t shapely in
    let both = and_parts (leb t.reserve limit && each 8 (λ i. within (handed t i))) (within (issued_by t)) small in
    let front = and_parts (leb t.reserve limit) (each 8 (λ i. within (handed t i))) both.0 in
    let one : (i : ℕ) → i < length t.rows → RowFits (get_or t.rows i no_row) = λ i h.
    subst RowFits (row_at t i)
    (row_fits (row t (i + 1)) (s.counts (i + 1) (omega arith) (omega (arith, s.rows))) (each-here 8 (λ k. within (handed t k)) front.1 (i + 1) (omega arith) (omega (arith, s.rows)))) in
    record {
      reserve = leb-true t.reserve limit front.0;
      rows = (s.rows, All-from_get_or RowFits t.rows no_row one);
      issued = row_fits t.issued s.issued both.1;
    }

pub account_fits : (a : Account) (part : ℕ) → 1 ≤ part → part ≤ 100000 → ItemFits (record { part = part; tally = a.tally })
unfolding lawful
account_fits a part least most =
    let t = a.tally in
    let both = and_parts (shaped t && ranged (counter_of t)) (covered (counter_of t)) a.law in
    let front = and_parts (shaped t) (ranged (counter_of t)) both.0 in
    record { least = least; most = most; tally = tally_fits t front.0 front.1 }

pub accounts_read_back : AccountsReadBack
accounts_read_back part a ok =
    let both = and_parts (leb 1 part) (leb part 100000) ok in
    one_back (item_of part a) (account_fits a part (leb-true 1 part both.0) (leb-true part 100000 both.1))
