use Rattle.std.proofs.Common.{sym, ◌∙◌, rules}
use Rattle.depot.specs.Views.{view}
use Rattle.depot.proofs.Books.{book_answers}
use Rattle.depot.proofs.depot.Depot.book.Goals as goal

pub returns-in_err-free : goal.returns-in_err-free
returns-in_err-free g c =
    let there = sym c.draft.ensures ∙ c.in_ok-draft.ensures.ok_part in
    let answer = book_answers (view g.S.Store.meaning c.args.self.now) c.args.slip.now c.args.entry c.in_ok-draft.draft there in
    search rules
