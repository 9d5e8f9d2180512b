-- The bytes of a printed answer.
use Rattle.std.specs.Prelude.{ℕ, List, [], ◌∷◌, ◌++◌, Ok, Err, Result, codes, decimal}
use Rattle.account.specs.Refusals.{number_of}
use Rattle.account.specs.declared.refusal.Refusal.{Refusal}

-- a word, a space and a number
abbrev pub answer_text : Result ℕ Refusal → List ℕ
answer_text (Ok n) = codes "ok " ++ decimal n
answer_text (Err e) = codes "no " ++ decimal (number_of e)

-- and a line feed
abbrev pub answer_bytes : Result ℕ Refusal → List ℕ
answer_bytes r = answer_text r ++ 10 ∷ []
