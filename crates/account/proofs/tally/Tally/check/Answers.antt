use Rattle.std.proofs.Common.{sym}
use Rattle.account.proofs.Checked.{checked-lawful, tests_pass, ranged-fails, covered-fails}
use Rattle.account.proofs.tally.Tally.check.Goals.{else-ranged-via-then-ranged+else-covered, else-ranged-via-else-ranged}
use Rattle.account.proofs.tally.Tally.check.Goals as goal

pub invariant_of-result : goal.invariant_of-result
invariant_of-result c = record { law = tests_pass c.args.self c.if-ranged.ensures c.if-covered.ensures }

pub returns-then-covered : goal.returns-then-covered
returns-then-covered c = sym (checked-lawful c.args.self _)

pub returns-else-ranged : goal.returns-else-ranged
returns-else-ranged c =
    elim c.else-ranged.branch [ else-ranged-via-then-ranged+else-covered w ↦ covered-fails c.args.self w.if-covered.ensures | else-ranged-via-else-ranged w ↦ ranged-fails c.args.self w.if-ranged.ensures ]
