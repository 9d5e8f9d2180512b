use Rattle.std.proofs.Common.{sym, arith, rules}
use Rattle.journal.proofs.Finds.{passed_none, passed_same, passed_other, passed_all, never_fails}
use Rattle.journal.proofs.Scans.{all_bytes}
use Rattle.journal.proofs.skim.find_latest.Goals as goal

pub loop-place-init : goal.loop-place-init
loop-place-init c = passed_none _ _ (all_bytes _ c.type_inv.bytes)

pub unreachable-requires : goal.unreachable-requires
unreachable-requires c =
    never_fails _ _ _ _ c.loop-place.invariant (omega (arith, c.requires.0, c.loop-place-test.true)) _ (sym c.in_default.ensures)

pub loop-place-preserved-then-entry-part : goal.loop-place-preserved-then-entry-part
loop-place-preserved-then-entry-part c =
    let h = passed_same _ _ _ _ c.loop-place.invariant (omega (arith, c.requires.0, c.loop-place-test.true)) _ (sym c.in-Ok.ensures) c.if-entry-part.true in
    search rules

pub loop-place-preserved : goal.loop-place-preserved
loop-place-preserved c =
    let h = passed_other _ _ _ _ c.loop-place.invariant (omega (arith, c.requires.0, c.loop-place-test.true)) _ (sym c.in-Ok.ensures) c.if-entry-part.false in
    search rules

pub returns : goal.returns
returns c = passed_all _ _ _ _ c.loop-place.invariant (omega (arith, c.requires.0, c.loop-place-test.false))
