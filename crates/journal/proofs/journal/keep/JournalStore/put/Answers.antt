use Rattle.std.proofs.Common.{sym}
use Rattle.std.proofs.lemmas.Bool.{and_from}
use Rattle.journal.proofs.Puts.{put_taken}
use Rattle.journal.proofs.journal.keep.JournalStore.put.Goals as goal

pub returns-clause-answer : goal.returns-clause-answer
returns-clause-answer c =
    put_taken _ c.args.part c.args.version (and_from _ _ (sym c.if-not-in_range.ensures) (sym c.if-not-has_room.ensures))
