-- Which fields are numbers.
use Rattle.std.proofs.Common.{rules, ◌≡◌, ℕ, ◌+◌, ◌-◌, ◌*◌, ◌^◌, ◌<◌, ◌≤◌, true, false, leb, List, length, get_or, take, Some, None, sym, ap, ◌∙◌, arith, le-leb}
use Rattle.std.specs.Char.{is_ascii_digit}
use Rattle.std.specs.Int.{IsInRange}
use Rattle.std.specs.List.{list_all}
use Rattle.std.specs.Str.Parse.{digits_value as value, AllDigits}
use Rattle.std.proofs.lemmas.Int.Digits.{digits_value_more, digits_more}
use Rattle.std.proofs.lemmas.List.{length-take, take_all}
use Rattle.std.proofs.lemmas.List.Folds.{list_all_at}
use Rattle.std.proofs.lemmas.Str.{digit_value_digit}
use Rattle.std.proofs.lemmas.Str.Parse.{IsNumeralModel, numerals_by_value, IsDigitsTest, tells_digits, digits_value_short}
use Rattle.grammar.specs.Grammar.{digits_value, number_of}

pub digits : IsDigitsTest (λ ds. list_all is_ascii_digit ds ≡ true)
digits = search rules

pub own : IsNumeralModel (λ ds. list_all is_ascii_digit ds ≡ true) (value 10)
own = numerals_by_value _ digits

module _ (f : List ℕ) where
  pub number_other : list_all is_ascii_digit f ≡ false → number_of f ≡ None
  unfolding digits_value
  number_other e = grind arith

  pub number_at : (i : ℕ) → i < length f → is_ascii_digit (get_or f i 0) ≡ false → number_of f ≡ None
  number_at i lt other = number_other (list_all_at is_ascii_digit f i 0 lt other)

  pub number_is : 0 < length f → length f ≤ 10 → list_all is_ascii_digit f ≡ true → number_of f ≡ Some (value 10 f)
  unfolding digits_value
  number_is some short e =
      let a : leb 1 (length f) ≡ true = le-leb 1 (length f) (omega arith) in
      let b : leb (length f) 10 ≡ true = le-leb (length f) 10 short in
      rw (a, b, e)

-- n is the number that the first i digits of f write
pub record Sofar (f : List ℕ) (i n : ℕ) : Type 0 where
  pub is : n ≡ value 10 (take i f)
  pub all : AllDigits 10 (take i f)

module _ (f : List ℕ) (i n : ℕ) (h : Sofar f i n) where
  pub sofar_small : i ≤ 18 → n < 10 ^ 18
  sofar_small short = omega (arith, h.is, digits_value_short (numerals_by_value _ tells_digits) (take i f) 18 h.all (simp length-take (omega arith)))

  pub sofar_more : i < length f → IsInRange 48 57 (get_or f i 0) → Sofar f (i + 1) (10 * n + (get_or f i 0 - 48))
  sofar_more lt d =
      let v = digit_value_digit (get_or f i 0) d in
      record { is = omega (arith, h.is, digits_value_more 10 f i lt); all = digits_more 10 f i lt h.all (omega arith) }

  pub sofar_all : length f ≤ i → 0 < length f → length f ≤ 10 → number_of f ≡ Some n
  sofar_all end some short =
      let e : take i f ≡ f = take_all i f end in
      let d : AllDigits 10 f = rw e at h.all in
      let v : n ≡ value 10 f = rw e at h.is in
      number_is f some short (own.from f d) ∙ ap (λ x. Some x) (sym v)
