use Rattle.std.proofs.Common.{◌-◌}
use Rattle.journal.proofs.Finds.{Passed}
use Rattle.journal.proofs.skim.find_latest.Given as goal

abbrev pub invariant-loop-place : goal.invariant-loop-place
invariant-loop-place l = Passed l.bytes l.part l.place l.found

abbrev pub decreases-loop-place : goal.decreases-loop-place
decreases-loop-place l = l.end - l.place
