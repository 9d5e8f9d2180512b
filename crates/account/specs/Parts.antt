-- Parts are numbered from 1.
use Rattle.std.specs.Prelude.{ℕ, Bool, ◌&&◌, nat_le}

-- the greatest part
abbrev pub last_part : ℕ
last_part = 100000

abbrev pub part_ok : ℕ → Bool
part_ok n = nat_le 1 n && nat_le n last_part
