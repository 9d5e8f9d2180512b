-- What a line that is read as a command looks like.
use Rattle.std.proofs.Common.{append-nil, Bool, ◌≡◌, ℕ, true, false, List, [], ◌∷◌, ◌++◌, map, Some, None, Option, sym, refl, ap, ◌∙◌, subst, ⊎_elim, arith}
use Rattle.std.specs.List.{find, flat_map, join_with_byte}
use Rattle.std.specs.Str.{bytes_eq}
use Rattle.std.proofs.lemmas.List.Splits.{join_with_byte-slice_split}
use Rattle.std.proofs.lemmas.Slice.Eq.{bytes_eq-Decides}
use Rattle.std.proofs.lemmas.Bool.{cases_Bool}
use Rattle.grammar.specs.declared.command.Command.{Command}
use Rattle.grammar.specs.declared.word.Word.{Word}
use Rattle.grammar.specs.declared.word.Word.TheVariants.{Create, Open, In, Out, Give, File, Drop, Restart, Send, Recv, Stock, Own, Ask}
use Rattle.grammar.specs.Grammar.{text, words, word_of, number_of, fields, and_then, first_number, tail, of_none, of_one, of_two, of_three, asked, command_in, command_of, word, numbers, spaced, ReadsOnly}

none_some : {X : Type 0} (y : X) → None ≡ Some y → ⊥
none_some y e = let z : ◌≡◌ {A = ℕ} 0 1 = cc in omega arith

-- the line that has these fields
joined : (f : List ℕ) (fs : List (List ℕ)) → join_with_byte 32 (f ∷ fs) ≡ f ++ flat_map (λ g. 32 ∷ g) fs
joined f [] = sym (append-nil f)
joined f (g ∷ fs) = ap (λ l. f ++ 32 ∷ l) (joined g fs)

-- the first that passes a test passes it
find_passes : {X : Type 0} (test : X → Bool) (xs : List X) (x : X) → find test xs ≡ Some x → test x ≡ true
find_passes test [] x e = absurd (none_some x e)
find_passes test (y ∷ ys) x e =
    ⊎_elim (λ (t : test y ≡ true). let same : y ≡ x = (let e' = rw t at e in cc) in subst (λ z. test z ≡ true) same t) (λ (t : test y ≡ false). find_passes test ys x (rw t at e)) (cases_Bool (test y))

word_only : (bs : List ℕ) (w : Word) → word_of bs ≡ Some w → bs ≡ text w
unfolding word_of
word_only bs w e = (bytes_eq-Decides bs (text w)).0 (find_passes (λ v. bytes_eq bs (text v)) words w e)

then_only : {A B : Type 0} (o : Option A) (f : A → Option B) (y : B) → and_then o f ≡ Some y → (x : A) × (o ≡ Some x) × (f x ≡ Some y)
then_only None f y e = absurd (none_some y e)
then_only (Some x) f y e = (x, refl, e)

-- a statement on what fields give, and the numbers that they write
abbrev About : Type 0 → Type 1
About X = X → List (Option ℕ) → Type 0

-- what holds of all that is made of as many numbers holds of y, which the fields give
module _ {X : Type 0} (y : X) where
  none_only : (fs : List (List ℕ)) (P : About X) (made : X) → of_none made fs ≡ Some y → P made [] → P y (map number_of fs)
  none_only [] P made e p = let same : made ≡ y = cc in subst (λ x. P x []) same p
  none_only (f ∷ fs) P made e p = absurd (none_some y e)

  number_only : (fs : List (List ℕ)) (P : About X) (more : ℕ → List (List ℕ) → Option X) → and_then (first_number fs) (λ n. more n (tail fs)) ≡ Some y → ((n : ℕ) (gs : List (List ℕ)) → more n gs ≡ Some y → P y (Some n ∷ map number_of gs)) → P y (map number_of fs)
  number_only [] P more e p = absurd (none_some y e)
  number_only (f ∷ gs) P more e p =
      let k = then_only (number_of f) (λ n. more n gs) y e in
      subst (λ o. P y (o ∷ map number_of gs)) (sym k.1) (p k.0 gs k.2)

  one_only : (fs : List (List ℕ)) (P : About X) (make : ℕ → X) → of_one make fs ≡ Some y → ((a : ℕ) → P (make a) (Some a ∷ [])) → P y (map number_of fs)
  one_only fs P make e p = number_only fs P _ e (λ n gs e'. none_only gs (λ x ns. P x (Some n ∷ ns)) (make n) e' (p n))

  two_only : (fs : List (List ℕ)) (P : About X) (make : ℕ → ℕ → X) → of_two make fs ≡ Some y → ((a b : ℕ) → P (make a b) (Some a ∷ Some b ∷ [])) → P y (map number_of fs)
  two_only fs P make e p = number_only fs P _ e (λ n gs e'. one_only gs (λ x ns. P x (Some n ∷ ns)) (make n) e' (p n))

  three_only : (fs : List (List ℕ)) (P : About X) (make : ℕ → ℕ → ℕ → X) → of_three make fs ≡ Some y → ((a b c : ℕ) → P (make a b c) (Some a ∷ Some b ∷ Some c ∷ [])) → P y (map number_of fs)
  three_only fs P make e p = number_only fs P _ e (λ n gs e'. two_only gs (λ x ns. P x (Some n ∷ ns)) (make n) e' (p n))

-- c has the word w and the numbers ns
abbrev Says : Word → About Command
Says w c ns = (w ≡ word c) × (ns ≡ map (λ n. Some n) (numbers c))

asked_only : (w : Word) (fs : List (List ℕ)) (c : Command) → asked w fs ≡ Some c → Says w c (map number_of fs)
asked_only Create fs c e = three_only c fs (Says Create) _ e (λ d part reserve. (refl, refl))
asked_only Open fs c e = two_only c fs (Says Open) _ e (λ d part. (refl, refl))
asked_only In fs c e = two_only c fs (Says In) _ e (λ d amount. (refl, refl))
asked_only Out fs c e = two_only c fs (Says Out) _ e (λ d amount. (refl, refl))
asked_only Give fs c e = three_only c fs (Says Give) _ e (λ d amount to. (refl, refl))
asked_only File fs c e = one_only c fs (Says File) _ e (λ d. (refl, refl))
asked_only Drop fs c e = one_only c fs (Says Drop) _ e (λ d. (refl, refl))
asked_only Restart fs c e = one_only c fs (Says Restart) _ e (λ d. (refl, refl))
asked_only Send fs c e = two_only c fs (Says Send) _ e (λ d part. (refl, refl))
asked_only Recv fs c e = two_only c fs (Says Recv) _ e (λ d item. (refl, refl))
asked_only Stock fs c e = two_only c fs (Says Stock) _ e (λ d part. (refl, refl))
asked_only Own fs c e = two_only c fs (Says Own) _ e (λ d part. (refl, refl))
asked_only Ask fs c e = three_only c fs (Says Ask) _ e (λ d part amount. (refl, refl))

-- c, which the fields give, is what the line of them says
says_only : (fs : List (List ℕ)) (c : Command) → command_in fs ≡ Some c → (gs : List (List ℕ)) × (join_with_byte 32 fs ≡ spaced (word c) gs) × (map number_of gs ≡ map (λ n. Some n) (numbers c))
says_only [] c e = absurd (none_some c e)
says_only (f ∷ fs) c e =
    let k = then_only (word_of f) (λ w. asked w fs) c e in
    let a = asked_only k.0 fs c k.2 in
    (fs, joined f fs ∙ ap (λ t. t ++ flat_map (λ g. 32 ∷ g) fs) (word_only f k.0 k.1 ∙ ap text a.0), a.1)

pub reads_only : ReadsOnly
unfolding command_of fields
reads_only line c e = let k = says_only (fields line) c e in (k.0, sym (join_with_byte-slice_split 32 line) ∙ k.1, k.2)
