use Rattle.std.proofs.Common.{arith}
use Rattle.items.proofs.Lengths.{number-most}
use Rattle.items.proofs.coded.U32Coded.len.Goals as goal

pub returns-clause-within : goal.returns-clause-within
returns-clause-within c = omega (arith, number-most c.args.self, c.number_len.ensures)
