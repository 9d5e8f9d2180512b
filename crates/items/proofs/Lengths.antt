-- How many bytes rows and items take, at most.
use Rattle.std.proofs.Common.{◌≡◌, ℕ, zero, suc, ◌+◌, ◌/◌, ◌<◌, ◌≤◌, ltb, ◌++◌, length, inl, inr, arith}
use Rattle.std.specs.List.{flat_map}
use Rattle.std.proofs.lemmas.List.{length-append}
use Rattle.std.proofs.lemmas.Bool.{cases_Bool, lt-ltb}
use Rattle.account.specs.declared.tally.Row.{Row}
use Rattle.items.specs.AccountItems.{RowFits, ItemFits, row_bytes, tally_bytes, body_bytes, account_bytes}
use Rattle.numbers.specs.Numbers.{NumberFits, groups, number_bytes}
use Rattle.items.specs.declared.item.AccountItem.{AccountItem}
use Rattle.numbers.proofs.Codecs.{many-most}
use Rattle.numbers.proofs.Numbers.{groups_some, room}
use Rattle.numbers.specs.Numbers.{number_at}
use Rattle.items.specs.AccountItems.{row_at}

groups-most : (k n : ℕ) → length (groups k n) ≤ suc k
groups-most zero n = omega arith
groups-most (suc k) n =
    let i = groups-most k (n / 128) in
    elim (cases_Bool (ltb n 128)) [ inl e ↦ rw e (omega arith) | inr e ↦ rw e (omega arith) ]

-- a number below 128 to the power of k + 1 takes at most k + 1 bytes, however many it might take
groups-within : (k j n : ℕ) → n < room k → length (groups j n) ≤ suc k
groups-within k zero n h = omega arith
groups-within zero (suc j) n h = rw (lt-ltb n 128 h) (omega arith)
groups-within (suc k) (suc j) n h =
    let i = groups-within k j (n / 128) (omega arith) in
    elim (cases_Bool (ltb n 128)) [ inl e ↦ rw e (omega arith) | inr e ↦ rw e (omega arith) ]

pub number-most : (n : ℕ) → length (number_bytes n) ≤ 5
unfolding number_bytes
number-most n = groups-most 4 n

pub number_some : (n : ℕ) → 0 < length (number_bytes n)
unfolding number_bytes
number_some n = groups_some 4 n

number-within : (k n : ℕ) → n < room k → length (number_bytes n) ≤ suc k
unfolding number_bytes
number-within k n h = groups-within k 4 n h

pub row-most : (r : Row) → RowFits r → length (row_bytes r) ≤ 40
row-most r fits =
    let most = many-most number_at number_bytes NumberFits 5 (λ n _. number-most n) r.counts fits.1 in
    omega (arith, fits.0)

pub body-length : (i : AccountItem) → length (body_bytes i)
    ≡ length (number_bytes i.part) + (length (number_bytes i.tally.reserve) + (length (flat_map row_bytes i.tally.rows) + length (row_bytes i.tally.issued)))
body-length i =
    let t = i.tally in
    let a = length-append (number_bytes i.part) (tally_bytes t) in
    let b = length-append (number_bytes t.reserve) (flat_map row_bytes t.rows ++ row_bytes t.issued) in
    let c = length-append (flat_map row_bytes t.rows) (row_bytes t.issued) in
    omega arith

-- a part takes at most three bytes, every other number at most five
pub body-most : (i : AccountItem) → ItemFits i → length (body_bytes i) ≤ 368
body-most i fits =
    let t = i.tally in
    let part = number-within 2 i.part (omega (arith, fits.most)) in
    let reserve = number-most t.reserve in
    let rows = many-most row_at row_bytes RowFits 40 row-most t.rows fits.tally.rows.1 in
    let issued = row-most t.issued fits.tally.issued in
    omega (arith, body-length i, fits.tally.rows.0)

pub body_some : (i : AccountItem) → 0 < length (body_bytes i)
body_some i = omega (arith, body-length i, number_some i.part)

pub account-length : (i : AccountItem) → length (account_bytes i) ≡ length (number_bytes 1) + (length (number_bytes (length (body_bytes i))) + length (body_bytes i))
unfolding account_bytes
account-length i =
    let a = length-append (number_bytes 1) (number_bytes (length (body_bytes i)) ++ body_bytes i) in
    let b = length-append (number_bytes (length (body_bytes i))) (body_bytes i) in
    omega arith

pub account-most : (i : AccountItem) → ItemFits i → length (account_bytes i) ≤ 371
account-most i fits =
    let body = body-most i fits in
    omega (arith, account-length i, number-within 0 1 (omega arith), number-within 1 (length (body_bytes i)) (omega arith))
