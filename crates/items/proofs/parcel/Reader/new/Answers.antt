use Rattle.std.proofs.Common.{refl}
use Rattle.items.proofs.Handing.{items_are_the_parcel}
use Rattle.items.proofs.parcel.Reader.new.Goals as goal

pub returns : goal.returns
returns c = record { at = refl; of = refl; law = items_are_the_parcel }
