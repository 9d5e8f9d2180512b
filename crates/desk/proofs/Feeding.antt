-- One byte more of a piece of input.
use Rattle.std.proofs.Common.{◌≡◌, ℕ, ◌+◌, ◌<◌, ◌≤◌, Bool, true, false, eqb, List, [], ◌∷◌, ◌++◌, length, get_or, drop, MatchBool, sym, refl, ap, ◌∙◌, append_assoc, append-nil}
use Rattle.std.proofs.lemmas.List.{at_drop_more, at_drop_all}
use Rattle.grammar.specs.Answers.{answer_bytes}
use Rattle.desk.specs.Desks.{DeskView, line_answer, Lined}
use Rattle.desk.specs.Feeds.{Cut, with_line, cut, Answers, none, next, Ends, Goes, Taken, Fed}

-- lines before those of a cut
abbrev pub after_lines : List (List ℕ) → Cut → Cut
after_lines ls c = record { lines = ls ++ c.lines; rest = c.rest }

-- what holds after some bytes: these lines are answered, and the bytes left give the others
pub record Feeding (y : DeskView) (begun0 bytes out0 : List ℕ) (i : ℕ) (z : DeskView) (begun out : List ℕ) : Type 0 where
  pub lines : List (List ℕ)
  pub printed : List ℕ
  pub answered : Answers y lines printed z
  pub left : cut begun0 bytes ≡ after_lines lines (cut begun (drop i bytes))
  pub appended : out ≡ out0 ++ printed

module _ (y : DeskView) (begun0 bytes out0 : List ℕ) where
  pub feeding_none : Feeding y begun0 bytes out0 0 y begun0 out0
  feeding_none = record { lines = []; printed = []; answered = none y; left = refl; appended = sym (append-nil out0) }

  module _ (i : ℕ) (z : DeskView) (begun out : List ℕ) (s : Feeding y begun0 bytes out0 i z begun out) (within : i < length bytes) where
    -- a byte of a line
    feeding_byte : eqb (get_or bytes i 0) 10 ≡ false → Feeding y begun0 bytes out0 (i + 1) z (begun ++ get_or bytes i 0 ∷ []) out
    unfolding cut
    feeding_byte e =
        let here : cut begun (drop i bytes) ≡ cut (begun ++ get_or bytes i 0 ∷ []) (drop (i + 1) bytes) = at_drop_more (cut begun) bytes i 0 within ∙ rw e refl in
        record { lines = s.lines; printed = s.printed; answered = s.answered; left = s.left ∙ ap (after_lines s.lines) here; appended = s.appended }

    -- a line feed
    feeding_line : eqb (get_or bytes i 0) 10 ≡ true → (w : DeskView) (out' : List ℕ) → Lined z begun w → out' ≡ out ++ answer_bytes (line_answer z begun) → Feeding y begun0 bytes out0 (i + 1) w [] out'
    unfolding cut
    feeding_line e w out' l p =
        let here : cut begun (drop i bytes) ≡ with_line begun (cut [] (drop (i + 1) bytes)) = at_drop_more (cut begun) bytes i 0 within ∙ rw e refl in
        record {
          lines = s.lines ++ begun ∷ [];
          printed = s.printed ++ answer_bytes (line_answer z begun);
          answered = next begun w s.answered l;
          left = rw append_assoc (s.left ∙ ap (after_lines s.lines) here);
          appended = p ∙ rw (s.appended, append_assoc);
        }

    feeding_at : (w : DeskView) (begun' out' : List ℕ) → (t : Bool) → eqb (get_or bytes i 0) 10 ≡ t → MatchBool t (Ends z begun out w begun' out') (Goes z begun (get_or bytes i 0) out w begun' out') → Feeding y begun0 bytes out0 (i + 1) w begun' out'
    feeding_at w begun' out' true e h = rw h.emptied (feeding_line e w out' h.lined h.appended)
    feeding_at w begun' out' false e h = rw (h.desk, h.longer, h.same) (feeding_byte e)

    pub feeding_more : (w : DeskView) (begun' out' : List ℕ) → Taken z begun (get_or bytes i 0) out w begun' out' → Feeding y begun0 bytes out0 (i + 1) w begun' out'
    feeding_more w begun' out' h = feeding_at w begun' out' (eqb (get_or bytes i 0) 10) refl h

  pub feeding_all : (i : ℕ) (z : DeskView) (begun out : List ℕ) → Feeding y begun0 bytes out0 i z begun out → length bytes ≤ i → Fed y begun0 bytes out0 z begun out
  unfolding cut
  feeding_all i z begun out s h =
      let all : cut begun0 bytes ≡ after_lines s.lines (record { lines = []; rest = begun }) = s.left ∙ ap (after_lines s.lines) (at_drop_all (cut begun) bytes i h) in
      let lines : s.lines ≡ (cut begun0 bytes).lines = sym (ap (λ (c : Cut). c.lines) all ∙ append-nil s.lines) in
      record { printed = s.printed; answered = rw (← lines) s.answered; rest = sym (ap (λ (c : Cut). c.rest) all); appended = s.appended }
