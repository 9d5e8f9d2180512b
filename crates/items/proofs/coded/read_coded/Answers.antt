use Rattle.std.proofs.Common.{replicate, sym, refl}
use Rattle.std.proofs.lemmas.Result.{err_from_is_err_and}
use Rattle.items.proofs.Many.{counted_none, counted_more, counted_err, counted_all}
use Rattle.items.proofs.coded.read_coded.Goals as goal

pub loop-slot-init : goal.loop-slot-init
loop-slot-init g c = counted_none g.E.Coded.reading 8 _ _ (replicate 8 c.NONE-values.result) refl

pub returns-in_err-slot : goal.returns-in_err-slot
returns-in_err-slot g c =
    let p = err_from_is_err_and c.from_residual.result c.from_residual.ensures.1 in
    rw (p.1, p.2) (sym (counted_err g.E.Coded.reading 8 _ _ _ _ _ c.loop-slot-test.true _ (sym c.in_err-slot.ensures) c.loop-slot.invariant))

pub loop-slot-preserved : goal.loop-slot-preserved
loop-slot-preserved g c =
    counted_more g.E.Coded.reading 8 _ _ _ _ _ c.loop-slot-test.true _ _ (sym c.in_ok-slot.ensures) c.loop-slot.invariant

pub returns : goal.returns
returns g c = sym (counted_all g.E.Coded.reading 8 _ _ _ _ _ c.loop-slot-test.false c.loop-slot.invariant)
