use Rattle.items.proofs.AccountCodec.{account_back}
use Rattle.items.proofs.AccountFits.{accounts_read_back}
use Rattle.items.proofs.RemarkCodec.{remarks_read_back}
use Rattle.items.proofs.laws.written_reads_back.Goals as goal

pub returns : goal.returns
returns c = record { items = account_back; accounts = accounts_read_back; remarks = remarks_read_back }
