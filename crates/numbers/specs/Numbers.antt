-- A number is written in groups of seven bits, lowest first, with the top bit set on every byte but its last.
use Rattle.std.specs.Prelude.{ℕ, zero, suc, ◌+◌, ◌*◌, ◌/◌, ◌%◌, ◌≤◌, cond, List, [], ◌∷◌, ◌++◌, length, drop, Some, None, Ok, Err, Option, Result, ◌==◌, nat_le, nat_lt}
use Rattle.account.specs.Tallies.{limit}
use Rattle.account.specs.declared.refusal.Refusal.{Refusal}
use Rattle.account.specs.declared.refusal.Refusal.TheVariants.{CutShort, Malformed}
use Rattle.numbers.specs.declared.number.Fault.{Fault}
use Rattle.numbers.specs.declared.number.Fault.TheVariants.{Short, Wrong}

-- the numbers that are written
abbrev pub NumberFits : ℕ → Type 0
NumberFits n = n ≤ limit

-- WRITING

-- n in at most k + 1 groups, and in no more than it needs
abbrev pub groups : ℕ → ℕ → List ℕ
groups zero n = n ∷ []
groups (suc k) n = cond (nat_lt n 128) (n ∷ []) ((128 + n % 128) ∷ groups k (n / 128))

-- the bytes of a number
unfoldable pub number_bytes : ℕ → List ℕ
number_bytes n = groups 4 n

-- what a writer answers: how many bytes the number takes, where there is room
abbrev pub room_for : List ℕ → ℕ → Option ℕ
room_for out n = cond (nat_lt (length out) (length (number_bytes n))) None (Some (length (number_bytes n)))

-- what it leaves: the number's bytes at the front and the rest as it was, or all as it was
abbrev pub written : List ℕ → ℕ → List ℕ
written out n = cond (nat_lt (length out) (length (number_bytes n))) out (number_bytes n ++ drop (length (number_bytes n)) out)

-- READING

-- the value and how many bytes it took
abbrev pub Got : Type 0
Got = Result (ℕ × ℕ) Fault

-- one more group below those read: a last group of zero was not the shortest form
abbrev pub above : ℕ → Got → Got
above low (Ok g) = cond (g.0 == 0) (Err Wrong) (Ok (low + 128 * g.0, suc g.1))
above low (Err e) = Err e

-- a number of at most k + 1 groups at the front of the bytes
abbrev pub grouped : ℕ → List ℕ → Got
grouped k [] = Err Short
grouped zero (b ∷ bs) = cond (nat_lt b 128) (Ok (b, 1)) (Err Wrong)
grouped (suc k) (b ∷ bs) = cond (nat_lt b 128) (Ok (b, 1)) (above (b % 128) (grouped k bs))

abbrev pub in_range : ℕ → Got → Got
in_range most (Ok g) = cond (nat_le g.0 most) (Ok g) (Err Wrong)
in_range most (Err e) = Err e

-- the number at the front of the bytes
unfoldable pub front_number : List ℕ → Got
front_number bs = in_range limit (grouped 4 bs)

abbrev pub refusal_at : ℕ → Fault → Refusal
refusal_at p Short = CutShort p
refusal_at p Wrong = Malformed p

-- the answer with the place after the number, or the refusal with the place of its first byte
abbrev pub placed : ℕ → Got → Result (ℕ × ℕ) Refusal
placed p (Ok g) = Ok (g.0, p + g.1)
placed p (Err e) = Err (refusal_at p e)

-- the number at place p
abbrev pub number_at : List ℕ → ℕ → Result (ℕ × ℕ) Refusal
number_at bs p = placed p (front_number (drop p bs))
