use Rattle.numbers.proofs.Codecs.{number_back}
use Rattle.numbers.proofs.laws.written_reads_back.Goals as goal

pub returns : goal.returns
returns c = number_back
