use Rattle.std.proofs.Common.{◌≡◌, min, length, arith, rules}
use Rattle.table.proofs.Emptied.{empty_all}
use Rattle.table.proofs.table.clear.Goals as goal

pub returns : goal.returns
returns c =
    let least : c.min-used.result ≡ min (length c.args.slots.now) 64 = omega (arith, c.min-used.ensures) in
    let filled = c.fill.ensures.after (λ y h. search rules) in
    search (rules, empty_all)
