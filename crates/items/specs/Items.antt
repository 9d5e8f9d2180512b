-- An item is a kind, the byte count of its body, and the body.
use Rattle.std.specs.Prelude.{ℕ, ◌+◌, cond, List, ◌++◌, length, Some, None, Ok, Err, Option, Result, ◌==◌, nat_le}
use Rattle.account.specs.Tallies.{limit}
use Rattle.account.specs.declared.refusal.Refusal.{Refusal}
use Rattle.account.specs.declared.refusal.Refusal.TheVariants.{CutShort, Malformed}
use Rattle.numbers.specs.Numbers.{number_bytes, number_at}
use Rattle.numbers.specs.Reading.{Reading, and_then}
use Rattle.items.specs.declared.item.Body.{Body}
use Rattle.items.specs.declared.item.Kind.{Kind}
use Rattle.items.specs.declared.item.Kind.TheVariants.{Account, Remark}

-- the number of a kind
abbrev pub number_of : Kind → ℕ
number_of Account = 1
number_of Remark = 2

-- the kind that has a number
abbrev pub kind_numbered : ℕ → Option Kind
kind_numbered n = cond (n == number_of Account) (Some Account) (cond (n == number_of Remark) (Some Remark) None)

-- the most bytes that a body may have
abbrev pub most_bytes : Kind → ℕ
most_bytes Account = limit
most_bytes Remark = 200

-- WRITING

abbrev pub item_bytes : Kind → List ℕ → List ℕ
item_bytes kind body = number_bytes (number_of kind) ++ (number_bytes (length body) ++ body)

-- READING

-- another number than these is malformed
abbrev pub kind_of : ℕ → ℕ × ℕ → Result (Kind × ℕ) Refusal
kind_of p k = elim (kind_numbered k.0) [ Some kind ↦ Ok (kind, k.1) | None ↦ Err (Malformed p) ]

-- the kind at a place
abbrev pub kind_at : Reading Kind
kind_at bs p = and_then (number_at bs p) (kind_of p)

-- the byte count of a body at a place
abbrev pub length_at : Kind → Reading ℕ
length_at kind bs p = and_then (number_at bs p) (λ l. cond (nat_le l.0 (most_bytes kind)) (Ok l) (Err (Malformed p)))

-- a body of so many bytes from a place on, if the bytes hold it whole
abbrev pub whole_body : List ℕ → ℕ × ℕ → Result Body Refusal
whole_body bs l =
    cond (nat_le (l.1 + l.0) (length bs)) (Ok (record { from = l.1; end = l.1 + l.0 })) (Err (CutShort (length bs)))

-- the body whose byte count stands at a place
abbrev pub body_at : List ℕ → Kind → ℕ → Result Body Refusal
body_at bs kind p = and_then (length_at kind bs p) (whole_body bs)
