-- Rows, tallies and accounts are compared number by number.
use Rattle.std.specs.Prelude.{Bool, ◌&&◌, ◌==◌, nat_eq}
use Rattle.std.specs.Cmp.Lexicographic.{pointwise}
use Rattle.account.specs.declared.account.Account.{Account}
use Rattle.account.specs.declared.tally.Row.{Row}
use Rattle.account.specs.declared.tally.Tally.{Tally}

abbrev pub row_eq : Row → Row → Bool
row_eq r s = pointwise nat_eq r.counts s.counts

abbrev pub tally_eq : Tally → Tally → Bool
tally_eq t u = t.reserve == u.reserve && (pointwise row_eq t.rows u.rows && row_eq t.issued u.issued)

abbrev pub account_eq : Account → Account → Bool
account_eq a b = tally_eq a.tally b.tally
