use Rattle.items.proofs.AccountCodec.{account_only, one_only}
use Rattle.items.proofs.RemarkCodec.{remarks_read_only}
use Rattle.items.proofs.laws.only_written_is_read.Goals as goal

pub returns : goal.returns
returns c = record { items = account_only; accounts = one_only; remarks = remarks_read_only }
