-- Input that comes in pieces: the lines that end in a piece are answered, and the rest is kept.
use Rattle.std.specs.Prelude.{◌≡◌, ℕ, cond, List, [], ◌∷◌, ◌++◌, MatchBool, ◌==◌}
use Rattle.grammar.specs.Answers.{answer_bytes}
use Rattle.desk.specs.Desks.{DeskView, line_answer, Lined}

-- lines, and what is begun behind the last of them
pub record Cut : Type 0 where
  pub lines : List (List ℕ)
  pub rest : List ℕ

abbrev pub with_line : List ℕ → Cut → Cut
with_line line c = record { lines = line ∷ c.lines; rest = c.rest }

-- bytes cut at each line feed, where the first line begins with what was begun before
unfoldable pub cut : List ℕ → List ℕ → Cut
cut begun [] = record { lines = []; rest = begun }
cut begun (b ∷ bs) = cond (b == 10) (with_line begun (cut [] bs)) (cut (begun ++ b ∷ []) bs)

-- the desk answers lines one after another, and this is what is printed
pub data Answers : DeskView → List (List ℕ) → List ℕ → DeskView → Type 0 where
  none : (y : DeskView) → Answers y [] [] y
  next : {y z : DeskView} {lines : List (List ℕ)} {printed : List ℕ} (line : List ℕ) (w : DeskView) → Answers y lines printed z → Lined z line w → Answers y (lines ++ line ∷ []) (printed ++ answer_bytes (line_answer z line)) w

-- one byte of input: a line feed ends the line, any other byte belongs to it
pub record Ends (y : DeskView) (begun out : List ℕ) (z : DeskView) (begun' out' : List ℕ) : Type 0 where
  pub lined : Lined y begun z
  pub emptied : begun' ≡ []
  pub appended : out' ≡ out ++ answer_bytes (line_answer y begun)

pub record Goes (y : DeskView) (begun : List ℕ) (b : ℕ) (out : List ℕ) (z : DeskView) (begun' out' : List ℕ) : Type 0 where
  pub desk : z ≡ y
  pub longer : begun' ≡ begun ++ b ∷ []
  pub same : out' ≡ out

abbrev pub Taken : DeskView → List ℕ → ℕ → List ℕ → DeskView → List ℕ → List ℕ → Type 0
Taken y begun b out z begun' out' = MatchBool (b == 10) (Ends y begun out z begun' out') (Goes y begun b out z begun' out')

-- a piece of input: its lines are answered in order, the answers appended, and the rest is begun
pub record Fed (y : DeskView) (begun bytes out : List ℕ) (z : DeskView) (begun' out' : List ℕ) : Type 0 where
  pub printed : List ℕ
  pub answered : Answers y (cut begun bytes).lines printed z
  pub rest : begun' ≡ (cut begun bytes).rest
  pub appended : out' ≡ out ++ printed
