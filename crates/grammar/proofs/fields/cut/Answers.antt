use Rattle.std.proofs.Common.{◌≡◌, sym, ◌∙◌, rules, tests}
use Rattle.std.proofs.lemmas.Iterator.{YieldsList-from_slice}
use Rattle.std.proofs.lemmas.Iterator.Search.{position_from_yields_List}
use Rattle.std.specs.List.{position}
use Rattle.grammar.proofs.Cuts.{space, cut_at, cut_none}
use Rattle.grammar.proofs.fields.cut.Goals as goal
use Rattle.grammar.proofs.fields.cut.Goals.{After-position}

found : (c : After-position) → c.position.result ≡ position space c.args.bytes.now
found c = position_from_yields_List space _ _ c.position.result c.position.ensures.ran (YieldsList-from_slice c.args.bytes.now cc) (λ x b q k. search (rules, tests))

pub returns-in-Some : goal.returns-in-Some
returns-in-Some c = cut_at c.args.bytes.now c.in-Some.end (sym c.in-Some.is ∙ found (goal.at.returns-in-Some c).After-position)

pub returns-in-None : goal.returns-in-None
returns-in-None c = cut_none c.args.bytes.now (sym c.in-None.is ∙ found (goal.at.returns-in-None c).After-position)
