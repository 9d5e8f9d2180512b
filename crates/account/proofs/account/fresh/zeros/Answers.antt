use Rattle.std.proofs.Common.{ℕ, replicate, refl, arith}
use Rattle.account.specs.Tallies.{no_row, row_of}
use Rattle.account.specs.declared.tally.Row.{Row}
use Rattle.account.proofs.Fresh.{cut_zeros}
use Rattle.account.proofs.Tabled.{filling_none, filling_more, filling_all}
use Rattle.account.proofs.account.fresh.zeros.Goals as goal

abbrev zeros : ℕ → Row
zeros k = row_of (λ j. 0)

pub loop-i-init : goal.loop-i-init
loop-i-init c = filling_none no_row zeros (replicate 8 c.cut-issued.result)

pub loop-i-preserved : goal.loop-i-preserved
loop-i-preserved c =
    filling_more no_row zeros (replicate 8 c.cut-issued.result) c.loop-i.i _ _ c.loop-i.invariant refl c.loop-i-test.true (cut_zeros c.cut.result c.loop-i.i (omega arith) c.cut.ensures)

pub returns : goal.returns
returns c =
    let rows = filling_all no_row zeros (replicate 8 c.cut-issued.result) c.loop-i.i _ c.loop-i.invariant (omega arith) in
    let issued = cut_zeros c.cut-issued.result 8 (omega arith) c.cut-issued.ensures in
    λ i. record { reserve = c.args.reserve; rows = rows i; issued = issued i }
