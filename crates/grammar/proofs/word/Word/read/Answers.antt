use Rattle.std.proofs.Common.{◌≡◌, get_or, sym, refl, ◌∙◌}
use borrow.Author.Tests.{both_ways}
use Rattle.std.proofs.lemmas.Slice.Eq.{slice_eq-Decides}
use Rattle.std.proofs.lemmas.List.{at_drop_all}
use Rattle.grammar.specs.declared.word.Word.TheVariants.{Create}
use Rattle.grammar.specs.Grammar.{text, words, word_of}
use Rattle.grammar.proofs.Words.{spelled, spelled-here, spelled_more}
use Rattle.grammar.proofs.word.Word.read.Goals as goal
use Rattle.std.proofs.lemmas.Bool.Decides.{Decides-eqb}

pub loop-word-init : goal.loop-word-init
unfolding word_of
loop-word-init c = refl

pub returns-then-eq : goal.returns-then-eq
returns-then-eq c =
    let e = (slice_eq-Decides Decides-eqb _ _ _ c.eq.ensures).0 c.if-eq.true ∙ c.text.ensures in
    sym (spelled-here c.args.bytes.now c.loop-word.word-index c.loop-word-test.true e) ∙ c.loop-word.invariant

pub loop-word-preserved : goal.loop-word-preserved
loop-word-preserved c =
    let other : c.args.bytes.now ≡ text (get_or words c.loop-word.word-index Create) → ⊥ = λ e. both_ways c.eq.result c.if-eq.false ((slice_eq-Decides Decides-eqb _ _ _ c.eq.ensures).1 (e ∙ sym c.text.ensures)) in
    sym (spelled_more c.args.bytes.now c.loop-word.word-index c.loop-word-test.true other) ∙ c.loop-word.invariant

pub returns : goal.returns
returns c = sym (at_drop_all (spelled c.args.bytes.now) words c.loop-word.word-index c.loop-word-test.false) ∙ c.loop-word.invariant
