-- A command is read back from its printed form.
use Rattle.std.proofs.Common.{get_or, false, not, ne_eqb, ⊎_elim, ◌≡◌, ℕ, ◌^◌, ◌<◌, true, List, [], ◌∷◌, ◌++◌, map, Some, decimal, Option, sym, refl, ap, ◌∙◌, append-nil, arith}
use Rattle.std.specs.List.{flat_map, list_all, All, AllByRecursion}
use Rattle.std.specs.Char.{is_ascii_digit}
use Rattle.std.proofs.lemmas.Bool.{cases_Bool, true≢false}
use Rattle.std.proofs.lemmas.List.Elements.{All-from_get_or}
use Rattle.std.proofs.lemmas.List.Folds.{list_all_at}
use Rattle.std.proofs.lemmas.List.Splits.{slice_split_at, slice_split_none}
use Rattle.std.proofs.lemmas.Fmt.{decimal_nonempty, length-decimal-le, digits_decimal, digits_value-decimal}
use Rattle.grammar.specs.declared.command.Deed.{Deed}
use Rattle.grammar.specs.declared.command.Deed.TheVariants as deed
use Rattle.grammar.specs.declared.word.Word.{Word}
use Rattle.grammar.specs.declared.word.Word.TheVariants.{Create, Open, In, Out, Give, File, Drop, Restart, Send, Recv, Stock, Own, Ask}
use Rattle.grammar.specs.Grammar.{text, word_of, number_of, fields, and_then, of_one, of_two, of_three, at, asked, command_in, command_of, said, word, numbers, ReadsBack}
use Rattle.grammar.proofs.Cuts.{space}
use Rattle.grammar.proofs.Numbers.{digits, own, number_is}

-- n has at most ten digits
abbrev Short : ℕ → Type 0
Short n = n < 10 ^ 10

number_back : (n : ℕ) → Short n → number_of (decimal n) ≡ Some n
number_back n h =
    number_is (decimal n) (decimal_nonempty n (omega arith)) (length-decimal-le 10 n (omega arith) h (omega arith)) (digits_decimal own n (omega arith))
    ∙ ap (λ x. Some x) (digits_value-decimal own n (omega arith))

-- there is no space in the bytes
abbrev Unspaced : List ℕ → Type 0
Unspaced bs = list_all (λ b. not (space b)) bs ≡ true

unspaced : (bs : List ℕ) → Unspaced bs → All (λ b. space b ≡ false) bs
unspaced bs e = All-from_get_or (λ b. space b ≡ false) bs 0 (λ i lt. ⊎_elim (λ (t : space (get_or bs i 0) ≡ true). absurd (true≢false (sym e ∙ list_all_at (λ b. not (space b)) bs i 0 lt (rw t refl)))) (λ n. n) (cases_Bool (space (get_or bs i 0))))

digits_unspaced : (ds : List ℕ) → list_all is_ascii_digit ds ≡ true → Unspaced ds
digits_unspaced [] e = refl
digits_unspaced (d ∷ ds) e = let k = digits.parts d ds e in let n : space d ≡ false = ne_eqb d 32 (λ s. omega arith) in rw (n, digits_unspaced ds k.1)

-- each printed number is a field
fields_back : (front : List ℕ) (ns : List ℕ) → Unspaced front → AllByRecursion Short ns → fields (front ++ flat_map (λ f. 32 ∷ f) (map decimal ns)) ≡ front ∷ map decimal ns
unfolding fields
fields_back front [] p h = rw append-nil (slice_split_none space front (unspaced front p))
fields_back front (n ∷ ns) p h =
    slice_split_at space front 32 (decimal n ++ flat_map (λ f. 32 ∷ f) (map decimal ns)) (unspaced front p) refl
    ∙ ap (λ fs. front ∷ fs) (fields_back (decimal n) ns (digits_unspaced (decimal n) (digits_decimal own n (omega (arith, h.0)))) h.1)

-- a word is spelled by its letters alone
word_back : (w : Word) → (word_of (text w) ≡ Some w) × Unspaced (text w)
unfolding word_of
word_back Create = (refl, refl)
word_back Open = (refl, refl)
word_back In = (refl, refl)
word_back Out = (refl, refl)
word_back Give = (refl, refl)
word_back File = (refl, refl)
word_back Drop = (refl, refl)
word_back Restart = (refl, refl)
word_back Send = (refl, refl)
word_back Recv = (refl, refl)
word_back Stock = (refl, refl)
word_back Own = (refl, refl)
word_back Ask = (refl, refl)

then_back : {X : Type 0} (more : ℕ → Option X) (n : ℕ) → Short n → and_then (number_of (decimal n)) more ≡ more n
then_back more n h = ap (λ o. and_then o more) (number_back n h)

module _ {X : Type 0} where
  one_back : (make : ℕ → X) (a : ℕ) → AllByRecursion Short (a ∷ []) → of_one make (map decimal (a ∷ [])) ≡ Some (make a)
  one_back make a h = then_back _ a h.0

  two_back : (make : ℕ → ℕ → X) (a b : ℕ) → AllByRecursion Short (a ∷ b ∷ []) → of_two make (map decimal (a ∷ b ∷ [])) ≡ Some (make a b)
  two_back make a b h = then_back _ a h.0 ∙ one_back (make a) b h.1

  three_back : (make : ℕ → ℕ → ℕ → X) (a b c : ℕ) → AllByRecursion Short (a ∷ b ∷ c ∷ []) → of_three make (map decimal (a ∷ b ∷ c ∷ [])) ≡ Some (make a b c)
  three_back make a b c h = then_back _ a h.0 ∙ two_back (make a) b c h.1

asked_back : (d : ℕ) (x : Deed) → AllByRecursion Short (d ∷ (said x).1) → asked (said x).0 (map decimal (d ∷ (said x).1)) ≡ Some (at d x)
asked_back d (deed.Create part reserve) h = three_back _ d part reserve h
asked_back d (deed.Open part) h = two_back _ d part h
asked_back d (deed.TakeIn amount) h = two_back _ d amount h
asked_back d (deed.Issue amount) h = two_back _ d amount h
asked_back d (deed.HandOver amount to) h = three_back _ d amount to h
asked_back d deed.File h = one_back _ d h
asked_back d deed.DropDraft h = one_back _ d h
asked_back d deed.Restart h = one_back _ d h
asked_back d (deed.Send part) h = two_back _ d part h
asked_back d (deed.Receive item) h = two_back _ d item h
asked_back d (deed.Stock part) h = two_back _ d part h
asked_back d (deed.OwnFree part) h = two_back _ d part h
asked_back d (deed.Advise part amount) h = three_back _ d part amount h

pub reads_back : ReadsBack
unfolding command_of
reads_back c h =
    let w = word c in
    let ns = numbers c in
    ap command_in (fields_back (text w) ns (word_back w).1 h)
    ∙ ap (λ o. and_then o (λ v. asked v (map decimal ns))) (word_back w).0
    ∙ asked_back c.depot c.deed h
