use Rattle.std.proofs.Common.{vec_items}
use Rattle.desk.specs.Desks.{desk_view}
use Rattle.desk.proofs.Feeding.{feeding_none, feeding_more, feeding_all}
use Rattle.desk.proofs.desk.Desk.feed.Goals as goal

pub loop-b-init : goal.loop-b-init
loop-b-init c = feeding_none (desk_view c.args.self.now) (vec_items c.args.begun.now) c.args.bytes.now (vec_items c.args.out.now)

pub loop-b-preserved : goal.loop-b-preserved
loop-b-preserved c = feeding_more _ _ _ _ _ _ _ _ c.loop-b.invariant c.loop-b-test.true _ _ _ c.in_ok-take.ensures

pub returns : goal.returns
returns c = feeding_all _ _ _ _ _ _ _ _ c.loop-b.invariant c.loop-b-test.false
