use Rattle.std.proofs.Common.{rules}
use Rattle.journal.proofs.journal.Journal.has_room.Goals as goal

pub returns : goal.returns
returns c = let e = c.args.self.now.ends.0 in search rules
