-- What the stores at the bottom have in common.
use Rattle.std.specs.Prelude.{◌≡◌, ℕ, Bool, true, ◌&&◌, IfSome, Option}
use Rattle.account.specs.Parts.{last_part, part_ok}
use Rattle.store.specs.Meaning.{Meaning, Record, version_ok}

-- the numbers that a record may have
abbrev pub in_range : ℕ → ℕ → Bool
in_range p v = part_ok p && version_ok v

-- the meaning of a bottom store: its layer is 0, and it is itself that refuses
abbrev pub bottom : (ℕ → Option Record) → Bool → Bool → Meaning
bottom records rewrites takes_new = record {
  greatest = last_part;
  records = records;
  rewrites = rewrites;
  takes_new = takes_new;
  refusing = 0;
  layer = 0;
}

-- a record of part p, if there is one, is in range
abbrev pub Ranged : ℕ → Option Record → Type 0
Ranged p o = IfSome o (λ k. in_range p k.version ≡ true)
