use Rattle.std.proofs.Common.{◌≡◌, ◌-◌, length}
use Rattle.parcel.proofs.list.Given as goal

abbrev pub invariant-loop-handed : goal.invariant-loop-handed
invariant-loop-handed l = l.reader.parcel.now ≡ l.parcel

-- what is left of the parcel
abbrev pub decreases-loop-handed : goal.decreases-loop-handed
decreases-loop-handed l = length l.parcel - l.reader.place.at
