-- Which word the bytes spell.
use Rattle.std.proofs.Common.{◌≡◌, ℕ, ◌+◌, ◌<◌, true, false, List, ◌∷◌, length, get_or, drop, Some, Option, ◌∙◌, ⊎_elim}
use Rattle.std.specs.List.{find}
use Rattle.std.specs.Str.{bytes_eq}
use Rattle.std.proofs.lemmas.Slice.Eq.{bytes_eq-Decides}
use Rattle.std.proofs.lemmas.List.{at_drop_more}
use Rattle.std.proofs.lemmas.Bool.{cases_Bool}
use Rattle.grammar.specs.declared.word.Word.{Word}
use Rattle.grammar.specs.declared.word.Word.TheVariants.{Create}
use Rattle.grammar.specs.Grammar.{text, words}

-- the first of the words that the bytes spell
abbrev pub spelled : List ℕ → List Word → Option Word
spelled bs ws = find (λ w. bytes_eq bs (text w)) ws

module _ (bs : List ℕ) (w : Word) (ws : List Word) where
  pub spelled_first : bs ≡ text w → spelled bs (w ∷ ws) ≡ Some w
  spelled_first e = let t : bytes_eq bs (text w) ≡ true = (bytes_eq-Decides bs (text w)).1 e in rw t

  pub spelled-later : (bs ≡ text w → ⊥) → spelled bs (w ∷ ws) ≡ spelled bs ws
  spelled-later h =
      ⊎_elim (λ e. absurd (h ((bytes_eq-Decides bs (text w)).0 e))) (λ (e : bytes_eq bs (text w) ≡ false). rw e)
      (cases_Bool (bytes_eq bs (text w)))

module _ (bs : List ℕ) (i : ℕ) (lt : i < length words) where
  pub spelled-here : bs ≡ text (get_or words i Create) → spelled bs (drop i words) ≡ Some (get_or words i Create)
  spelled-here e = at_drop_more (spelled bs) words i Create lt ∙ spelled_first bs _ _ e

  pub spelled_more : (bs ≡ text (get_or words i Create) → ⊥) → spelled bs (drop i words) ≡ spelled bs (drop (i + 1) words)
  spelled_more h = at_drop_more (spelled bs) words i Create lt ∙ spelled-later bs _ _ h
