use Rattle.journal.proofs.Writes.{entry_written}
use Rattle.journal.proofs.entry.write_entry.Goals as goal

pub returns-clause-bytes : goal.returns-clause-bytes
returns-clause-bytes c =
    entry_written _ _ _ c.requires.fits c.requires.room c.in-Some.used c.in-Some.ensures.answer c.write_number.new.out c.write_number.ensures.bytes _ c.write_account.ensures.bytes
