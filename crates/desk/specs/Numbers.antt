-- The depots of a desk by number.
use Rattle.std.specs.Prelude.{ℕ, cond, Ok, Err, Result, ◌==◌}
use Rattle.account.specs.declared.refusal.Refusal.{Refusal}
use Rattle.account.specs.declared.refusal.Refusal.TheVariants.{OutOfRange}
use Rattle.desk.specs.declared.which.Which.{Which}
use Rattle.desk.specs.declared.which.Which.TheVariants.{One, Two, Three}

abbrev pub number_at : Which → ℕ
number_at One = 1
number_at Two = 2
number_at Three = 3

-- the depot that a number names: another number than 1, 2 and 3 is out of range
abbrev pub which : ℕ → Result Which Refusal
which n = cond (n == 1) (Ok One) (cond (n == 2) (Ok Two) (cond (n == 3) (Ok Three) (Err OutOfRange)))
