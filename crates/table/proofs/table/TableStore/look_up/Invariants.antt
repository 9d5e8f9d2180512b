use Rattle.std.proofs.Common.{◌≡◌}
use Rattle.table.proofs.Walks.{Looked}
use Rattle.table.proofs.table.TableStore.look_up.Given as goal

-- so far nothing is copied
abbrev pub invariant-loop-slot : goal.invariant-loop-slot
invariant-loop-slot l = Looked l.part l.front l.slot-index × (l.into ≡ l.initial.into)
