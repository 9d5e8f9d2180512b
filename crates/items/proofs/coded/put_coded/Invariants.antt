use Rattle.items.proofs.Puts.{Wrote}
use Rattle.items.proofs.coded.put_coded.Given as goal

abbrev pub invariant-loop-value : goal.invariant-loop-value
invariant-loop-value g l = Wrote g.E.Coded.written l.initial.buffer l.buffer l.place l.values l.value-index l.next
