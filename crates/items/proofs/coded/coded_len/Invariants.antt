use Rattle.std.proofs.Common.{◌≡◌, ◌*◌, ◌≤◌, length, take}
use Rattle.std.specs.List.{flat_map}
use Rattle.items.proofs.coded.coded_len.Given as goal

abbrev pub invariant-loop-value : goal.invariant-loop-value
invariant-loop-value g l =
    (l.total ≡ length (flat_map g.E.Coded.written (take l.value-index l.values))) × (l.total ≤ g.E.Coded.most * l.value-index)
