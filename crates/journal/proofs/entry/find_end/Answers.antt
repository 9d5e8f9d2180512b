use Rattle.std.proofs.Common.{sym, arith}
use Rattle.journal.proofs.Scans.{all_bytes, walked_none, walked_more, walked_all, entry_takes}
use Rattle.journal.proofs.entry.find_end.Goals as goal

pub loop-next-init : goal.loop-next-init
loop-next-init c = walked_none _ (all_bytes _ c.type_inv.bytes)

pub loop-next-smaller : goal.loop-next-smaller
loop-next-smaller c =
    let after = entry_takes _ _ _ _ c.loop-next.invariant.all (sym c.in-Ok.ensures) in
    omega (arith, after.0, after.1)

pub loop-next-preserved : goal.loop-next-preserved
loop-next-preserved c = walked_more _ _ _ _ (sym c.in-Ok.ensures) c.loop-next.invariant

pub returns : goal.returns
returns c = walked_all _ _ _ (sym c.in_default.ensures) c.loop-next.invariant
