use Rattle.std.proofs.Common.{◌<◌, sym, rules}
use Rattle.table.proofs.Puts.{put_full, put_there, spot_inside}
use Rattle.table.proofs.table.TableStore.put.Goals as goal

pub returns-in_default : goal.returns-in_default
returns-in_default c =
    let h = put_full c.args.self.now.slots.now c.args.part c.args.version c.args.account.now (sym c.if-not-in_range.ensures) c.in_default.ensures in
    search rules

pub offset_bounds-self-spot : goal.offset_bounds-self-spot
offset_bounds-self-spot c =
    let h : c.in-Some.spot < 64 = (spot_inside c.args.self.now.slots.now c.args.part c.in-Some.spot c.in-Some.ensures).1 in
    search rules

pub bounds-self-spot : goal.bounds-self-spot
bounds-self-spot c = (spot_inside c.args.self.now.slots.now c.args.part c.in-Some.spot c.in-Some.ensures).0

pub returns : goal.returns
returns c =
    let h = put_there c.args.self.now.slots.now c.args.part c.args.version c.args.account.now (sym c.if-not-in_range.ensures) c.in-Some.spot c.in-Some.ensures c.tally.result c.tally.ensures in
    search rules
