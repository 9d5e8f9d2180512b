-- Where a field ends.
use Rattle.std.proofs.Common.{count_by, not, Bool, ◌≤◌, ◌≡◌, ℕ, ◌+◌, ◌-◌, true, false, [], ◌∷◌, List, length, take, drop, Some, None, Option, eqb, sym, refl, arith}
use Rattle.std.specs.Borrow.{Bor}
use Rattle.std.specs.List.{position, position_or_len}
use Rattle.std.specs.Option.{is_some}
use Rattle.std.proofs.lemmas.Bool.Decides.{nat_tests}
use Rattle.std.proofs.lemmas.List.{take_rest}
use Rattle.std.proofs.lemmas.List.Elements.{All-from_get_or}
use Rattle.std.proofs.lemmas.List.Quantifiers.{position-Some}
use Rattle.std.proofs.lemmas.List.Splits.{length-slice_split, slice_split_first, slice_split_none}
use Rattle.std.proofs.lemmas.List.Sums.{fails_before_first, position_or_len_is}
use Rattle.grammar.specs.Grammar.{fields, no_more}
use Rattle.grammar.specs.Steps.{behind}

-- is the byte a space?
abbrev pub space : ℕ → Bool
space b = eqb b 32

module _ (bs : List ℕ) where
  -- the first field ends at the first space
  pub cut_at : (i : ℕ) → Some i ≡ position space bs → fields bs ≡ take i bs ∷ fields (take (length bs - (i + 1)) (drop (i + 1) bs))
  unfolding fields
  cut_at i e =
      let k = position-Some space bs i 0 (sym e) in
      let first : position_or_len space bs ≡ i = position_or_len_is space bs i 0 (omega (arith, k.0)) k.2 (λ _. k.1) in
      rw take_rest (rw first at (slice_split_first space bs 0 (omega (arith, first, k.0))))

  -- or with the line
  pub cut_none : None ≡ position space bs → fields bs ≡ bs ∷ []
  unfolding fields
  cut_none e =
      let end : length bs ≤ position_or_len space bs = grind (arith, nat_tests) in
      slice_split_none space bs (All-from_get_or (λ b. space b ≡ false) bs 0 (λ i lt. fails_before_first space bs i 0 (omega (arith, end))))

  pub some_field : no_more (fields bs) ≡ false
  unfolding fields
  some_field = at _ (length-slice_split space bs)
    where
      at : (fs : List (List ℕ)) → length fs ≡ count_by space bs + 1 → no_more fs ≡ false
      at [] e = absurd (omega arith)
      at (f ∷ fs) e = refl

pub none_behind : (rest : Option (Bor (List ℕ))) (b : Bool) → is_some rest ≡ not b → b ≡ no_more (behind rest)
none_behind None true e = refl
none_behind None false e = cc
none_behind (Some bs) true e = cc
none_behind (Some bs) false e = sym (some_field bs.now)
