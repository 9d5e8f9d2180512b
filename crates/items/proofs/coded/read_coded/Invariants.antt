use Rattle.items.proofs.Many.{Counted}
use Rattle.items.proofs.coded.read_coded.Given as goal

abbrev pub invariant-loop-slot : goal.invariant-loop-slot
invariant-loop-slot g l = Counted g.E.Coded.reading 8 l.bytes l.place l.slot-items l.slot-index l.next
