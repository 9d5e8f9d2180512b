use Rattle.std.proofs.Common.{◌-◌, length}
use Rattle.journal.proofs.Scans.{Walked}
use Rattle.journal.proofs.entry.find_end.Given as goal

abbrev pub invariant-loop-next : goal.invariant-loop-next
invariant-loop-next l = Walked l.bytes l.end

abbrev pub decreases-loop-next : goal.decreases-loop-next
decreases-loop-next l = length l.bytes - l.end
