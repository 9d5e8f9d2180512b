use Rattle.std.proofs.Common.{vec_items}
use Rattle.desk.specs.Desks.{desk_view}
use Rattle.desk.proofs.Feeding.{Feeding}
use Rattle.desk.proofs.desk.Desk.feed.Given as goal

abbrev pub invariant-loop-b : goal.invariant-loop-b
invariant-loop-b l = Feeding (desk_view l.initial.self) (vec_items l.initial.begun) l.bytes (vec_items l.initial.out) l.b-index (desk_view l.self) (vec_items l.begun) (vec_items l.out)
