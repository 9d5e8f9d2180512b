use Rattle.std.proofs.Common.{◌≡◌, drop}
use Rattle.grammar.specs.Grammar.{words, word_of}
use Rattle.grammar.proofs.Words.{spelled}
use Rattle.grammar.proofs.word.Word.read.Given as goal

abbrev pub invariant-loop-word : goal.invariant-loop-word
invariant-loop-word l = spelled l.bytes (drop l.word-index words) ≡ word_of l.bytes
