use Rattle.numbers.proofs.Numbers.{Reads}
use Rattle.numbers.proofs.number.front_number.Given as goal

-- what is left to read, above what was read, is the whole
abbrev pub invariant-loop-i : goal.invariant-loop-i
invariant-loop-i l = Reads l.bytes l.i l.weight l.value
