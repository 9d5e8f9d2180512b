use Rattle.std.proofs.Common.{ℤ, nat_abs, Ok, sym, ap, ◌∙◌}
use Rattle.account.specs.Bookings.{free_told, account_after}
use Rattle.account.proofs.Accepted.{booking-lawful, account_is}
use Rattle.account.proofs.account.Account.book.Goals as goal

pub invariant_of-self : goal.invariant_of-self
invariant_of-self c =
    let a = c.args.self.now in
    let d = c.args.depot in
    record { law = booking-lawful a.tally a.law d.number d.least d.most c.args.entry _ (sym c.in_ok-tally.ensures) }

pub returns : goal.returns
returns c =
    let a = c.args.self.now in
    let d = c.args.depot in
    let e = c.in_ok-tally.ensures in
    record { answer = ap (λ (z : ℤ). Ok (nat_abs z)) c.free.ensures ∙ ap (free_told d.number) e; after = account_is _ _ a ∙ ap (account_after a) e }
