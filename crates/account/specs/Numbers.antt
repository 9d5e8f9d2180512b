-- The numbers of depots.
use Rattle.std.specs.Prelude.{ℕ, Bool, not, ◌&&◌, List, [], ◌∷◌, map, Ok, Err, Result, nat_le}
use Rattle.account.specs.Refusals.{refuse, unless}
use Rattle.account.specs.declared.depot_number.DepotNumber.{DepotNumber}
use Rattle.account.specs.declared.refusal.Refusal.{Refusal}
use Rattle.account.specs.declared.refusal.Refusal.TheVariants.{OutOfRange}

-- a depot is numbered 1 to 8
abbrev pub number_ok : ℕ → Bool
number_ok n = nat_le 1 n && nat_le n 8

abbrev pub number_answer : ℕ → Result ℕ Refusal
number_answer n = unless (refuse (not (number_ok n)) OutOfRange ∷ []) n

abbrev pub number_in : Result DepotNumber Refusal → Result ℕ Refusal
number_in (Ok d) = Ok d.number
number_in (Err e) = Err e

abbrev pub numbers : List DepotNumber → List ℕ
numbers ds = map (λ (d : DepotNumber). d.number) ds
