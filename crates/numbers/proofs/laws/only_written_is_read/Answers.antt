use Rattle.numbers.proofs.Codecs.{number_only}
use Rattle.numbers.proofs.laws.only_written_is_read.Goals as goal

pub returns : goal.returns
returns c = number_only
