-- What a window over a store means, by the meaning of that store.
use Rattle.std.specs.Prelude.{ℕ, ◌+◌, ◌-◌, min, cond, ◌&&◌, Some, None, Option, nat_le}
use Rattle.account.specs.Tallies.{limit}
use Rattle.store.specs.Meaning.{Meaning, Record}

-- the greatest part: no more than the width, and none that lies past the greatest below
abbrev pub last_seen : Meaning → ℕ → ℕ → ℕ
last_seen m offset width = min (m.greatest - offset) width

-- part p is part p + offset below
abbrev pub part_below : Meaning → ℕ → ℕ → ℕ → Option ℕ
part_below m offset width p = cond (nat_le 1 p && nat_le p (last_seen m offset width)) (Some (p + offset)) None

-- and its record is that part's
abbrev pub records_seen : Meaning → ℕ → ℕ → ℕ → Option Record
records_seen m offset width p = cond (nat_le 1 p && nat_le p (last_seen m offset width)) (m.records (p + offset)) None

-- one layer higher, as long as there is a number for it; the two answers and who refuses come from below
abbrev pub seen : Meaning → ℕ → ℕ → Meaning
seen m offset width = record {
  greatest = last_seen m offset width;
  records = records_seen m offset width;
  rewrites = m.rewrites;
  takes_new = m.takes_new;
  refusing = m.refusing;
  layer = min (m.layer + 1) limit;
}
