use Rattle.std.proofs.Common.{ℕ, ◌+◌, ◌-◌, get_or, set, ap, ◌∙◌}
use Rattle.account.specs.Tallies.{no_row}
use Rattle.account.specs.declared.tally.Tally.{Tally}
use Rattle.account.proofs.Tabled.{shape, handed-raised}
use Rattle.account.proofs.tally.Tally.with_handed.Goals as goal

pub returns : goal.returns
returns c =
    let t = c.args.self.now in
    let p = c.args.from in
    let q = c.args.to in
    let n = c.args.amount in
    let raise : ℕ → ℕ → Tally = λ i j. let counts = (get_or t.rows i no_row).counts in record { reserve = t.reserve; rows = set t.rows i (record { counts = set counts j (get_or counts j 0 + n) }); issued = t.issued } in
    ap (λ (i : ℕ). raise i c.index-2.result) c.index.ensures.place ∙ ap (raise (p.number - 1)) c.index-2.ensures.place ∙ handed-raised t (shape t c.requires.shape) p.number n p.least p.most q.number q.least q.most
