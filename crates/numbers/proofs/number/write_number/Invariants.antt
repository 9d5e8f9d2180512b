use Rattle.numbers.proofs.Numbers.{Writes}
use Rattle.numbers.proofs.number.write_number.Given as goal

abbrev pub invariant-loop-byte : goal.invariant-loop-byte
invariant-loop-byte l = Writes l.byte-items l.byte-index l.left l.n
