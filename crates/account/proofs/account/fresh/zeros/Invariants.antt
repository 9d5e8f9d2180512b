use Rattle.std.proofs.Common.{replicate}
use Rattle.account.specs.Tallies.{no_row, row_of}
use Rattle.account.proofs.Tabled.{Filling}
use Rattle.account.proofs.account.fresh.zeros.Given as goal

abbrev pub invariant-loop-i : goal.invariant-loop-i
invariant-loop-i l = Filling no_row (λ k. row_of (λ j. 0)) (replicate 8 l.issued) l.i l.rows
