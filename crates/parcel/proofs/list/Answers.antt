use Rattle.std.proofs.Common.{◌≡◌, Some, Ok, length, ap, rules, arith}
use Rattle.items.specs.Parcels.{seen, next_item}
use Rattle.items.proofs.Handing.{next_is}
use Rattle.parcel.proofs.list.Goals as goal

pub loop-handed-smaller : goal.loop-handed-smaller
loop-handed-smaller c =
    let reader = c.loop-handed.reader in
    let next : next_item reader.parcel.now reader.place.at ≡ Ok (Some (seen c.in-Ok-Some.handed)) = search rules in
    let took = next_is reader.parcel.now reader.place.at (seen c.in-Ok-Some.handed) next in
    omega (arith, took.0, took.1, c.next_item.ensures.stands, ap length c.loop-handed.invariant)
