use Rattle.grammar.proofs.Numbers.{Sofar}
use Rattle.grammar.proofs.fields.number.Given as goal

abbrev pub invariant-loop-b : goal.invariant-loop-b
invariant-loop-b l = Sofar l.field l.b-index l.n
