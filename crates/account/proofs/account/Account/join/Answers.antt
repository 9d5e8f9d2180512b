use Rattle.std.proofs.Common.{◌≡◌, true, sym, ap, ◌∙◌, subst}
use Rattle.account.specs.Lawful.{covered, lawful}
use Rattle.account.specs.Tallies.{counter_of}
use Rattle.account.specs.declared.tally.Tally.{Tally}
use Rattle.account.proofs.Merges.{join_lawful}
use Rattle.account.proofs.account.Account.join.Goals as goal

pub invariant_of-result : goal.invariant_of-result
invariant_of-result c =
    let a = c.args.self.now in
    let b = c.args.other.now in
    let covers = c.if-not-covered.ensures ∙ ap (λ (v : Tally). covered (counter_of v)) c.joined-tally.ensures in
    record { law = subst (λ (v : Tally). lawful v ≡ true) (sym c.joined-tally.ensures) (join_lawful a.tally b.tally a.law b.law covers) }
