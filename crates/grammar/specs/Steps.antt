-- What the steps of reading a line answer.
use Rattle.std.specs.Prelude.{ℕ, List, [], Option}
use Rattle.std.specs.Borrow.{Bor}
use Rattle.std.specs.Option.{option_map_or}
use Rattle.grammar.specs.declared.fields.Fields.{Fields}
use Rattle.grammar.specs.Grammar.{fields}

-- the fields behind a space, if there is one
abbrev pub behind : Option (Bor (List ℕ)) → List (List ℕ)
behind rest = option_map_or (λ bs. fields bs.now) rest []

abbrev pub left : Fields → List (List ℕ)
left fs = behind fs.rest
