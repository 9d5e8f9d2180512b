use Rattle.grammar.proofs.Cuts.{none_behind}
use Rattle.grammar.proofs.fields.Fields.is_empty.Goals as goal

pub returns : goal.returns
returns c = none_behind c.args.self.now.rest _ c.is_none.ensures
