-- The item of an account: its body is the part, the reserve, the eight rows, and the goods issued.
use Rattle.std.specs.Prelude.{◌≡◌, ℕ, ◌≤◌, cond, List, ◌++◌, length, take, Ok, Err, Result, ◌==◌}
use Rattle.std.specs.List.{flat_map, AllByRecursion}
use Rattle.account.specs.Parts.{last_part, part_ok}
use Rattle.account.specs.declared.refusal.Refusal.{Refusal}
use Rattle.account.specs.declared.refusal.Refusal.TheVariants.{Malformed, OtherKind}
use Rattle.account.specs.declared.tally.Row.{Row}
use Rattle.account.specs.declared.tally.Tally.{Tally}
use Rattle.items.specs.Items.{item_bytes, kind_at, body_at}
use Rattle.numbers.specs.Numbers.{NumberFits, number_bytes, number_at}
use Rattle.numbers.specs.Reading.{Reading, and_then, many}
use Rattle.items.specs.declared.item.AccountItem.{AccountItem}
use Rattle.items.specs.declared.item.Body.{Body}
use Rattle.items.specs.declared.item.Kind.{Kind}
use Rattle.items.specs.declared.item.Kind.TheVariants.{Account, Remark}

-- WRITING

abbrev pub row_bytes : Row → List ℕ
row_bytes r = flat_map number_bytes r.counts

-- the reserve, R(1, 1) to R(8, 8) row by row, and U(1) to U(8)
abbrev pub tally_bytes : Tally → List ℕ
tally_bytes t = number_bytes t.reserve ++ (flat_map row_bytes t.rows ++ row_bytes t.issued)

abbrev pub body_bytes : AccountItem → List ℕ
body_bytes i = number_bytes i.part ++ tally_bytes i.tally

unfoldable pub account_bytes : AccountItem → List ℕ
account_bytes i = item_bytes Account (body_bytes i)

-- READING

abbrev pub as_row : Result (List ℕ × ℕ) Refusal → Result (Row × ℕ) Refusal
as_row r = and_then r (λ g. Ok (record { counts = g.0 }, g.1))

-- eight counts
abbrev pub row_at : Reading Row
row_at bs p = as_row (many number_at 8 bs p)

abbrev pub tally_at : Reading Tally
tally_at bs p =
    and_then (number_at bs p) (λ m. and_then (many row_at 8 bs m.1) (λ r. and_then (row_at bs r.1)
    (λ u. Ok (record { reserve = m.0; rows = r.0; issued = u.0 }, u.1))))

abbrev pub part_at : Reading ℕ
part_at bs p = and_then (number_at bs p) (λ g. cond (part_ok g.0) (Ok g) (Err (Malformed p)))

abbrev pub numbers_at : Reading AccountItem
numbers_at bs p = and_then (part_at bs p) (λ n. and_then (tally_at bs n.1) (λ t. Ok (record { part = n.0; tally = t.0 }, t.1)))

-- an account is asked for
abbrev pub of_account : ℕ → Kind × ℕ → Result ℕ Refusal
of_account p k = elim k.0 [ Account ↦ Ok k.1 | Remark ↦ Err (OtherKind p) ]

-- the numbers of a body are all of it
abbrev pub in_body : List ℕ → Body → Result (AccountItem × ℕ) Refusal
in_body bs b =
    and_then (numbers_at (take b.end bs) b.from) (λ i. cond (i.1 == b.end) (Ok i) (Err (Malformed i.1)))

-- the account item at a place: kind and length, then a whole body, then its numbers
unfoldable pub account_at : Reading AccountItem
account_at bs p = and_then (kind_at bs p) (λ k. and_then (of_account p k) (λ q. and_then (body_at bs Account q) (in_body bs)))

-- the one account item that the bytes are
abbrev pub only_account : List ℕ → Result AccountItem Refusal
only_account bs = and_then (account_at bs 0) (λ i. cond (i.1 == length bs) (Ok i.0) (Err (Malformed i.1)))

-- WHAT FITS AN ITEM

abbrev pub RowFits : Row → Type 0
RowFits r = (length r.counts ≡ 8) × AllByRecursion NumberFits r.counts

pub record TallyFits (t : Tally) : Type 0 where
  pub reserve : NumberFits t.reserve
  pub rows : (length t.rows ≡ 8) × AllByRecursion RowFits t.rows
  pub issued : RowFits t.issued

pub record ItemFits (i : AccountItem) : Type 0 where
  pub least : 1 ≤ i.part
  pub most : i.part ≤ last_part
  pub tally : TallyFits i.tally
