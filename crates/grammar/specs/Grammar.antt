-- The grammar of a line: a command word and its numbers, with a single space before each number.
use Rattle.std.specs.Prelude.{◌≡◌, ℕ, ◌^◌, ◌<◌, Bool, true, false, cond, ◌&&◌, List, [], ◌∷◌, ◌++◌, map, length, Some, None, codes, decimal, Option, ◌==◌, nat_le}
use Rattle.std.specs.Char.{is_ascii_digit}
use Rattle.std.specs.List.{find, flat_map, list_all, slice_split, AllByRecursion}
use Rattle.std.specs.Str.Parse.{digits_value as value}
use Rattle.std.specs.Str.{bytes_eq}
use Rattle.grammar.specs.declared.command.Command.{Command}
use Rattle.grammar.specs.declared.command.Deed.{Deed}
use Rattle.grammar.specs.declared.command.Deed.TheVariants as deed
use Rattle.grammar.specs.declared.word.Word.{Word}
use Rattle.grammar.specs.declared.word.Word.TheVariants.{Create, Open, In, Out, Give, File, Drop, Restart, Send, Recv, Stock, Own, Ask}

-- how each word is written
abbrev pub text : Word → List ℕ
text Create = codes "create"
text Open = codes "open"
text In = codes "in"
text Out = codes "out"
text Give = codes "give"
text File = codes "file"
text Drop = codes "drop"
text Restart = codes "restart"
text Send = codes "send"
text Recv = codes "recv"
text Stock = codes "stock"
text Own = codes "own"
text Ask = codes "ask"

abbrev pub words : List Word
words = Create ∷ Open ∷ In ∷ Out ∷ Give ∷ File ∷ Drop ∷ Restart ∷ Send ∷ Recv ∷ Stock ∷ Own ∷ Ask ∷ []

-- the word that the bytes spell
unfoldable pub word_of : List ℕ → Option Word
word_of bs = find (λ w. bytes_eq bs (text w)) words

-- the number that decimal digits write
unfoldable pub digits_value : List ℕ → Option ℕ
digits_value bs = cond (list_all is_ascii_digit bs) (Some (value 10 bs)) None

-- a number is 1 to 10 decimal digits, which may begin with zeros
abbrev pub number_of : List ℕ → Option ℕ
number_of bs = cond (nat_le 1 (length bs) && nat_le (length bs) 10) (digits_value bs) None

-- the fields of a line: what stands between its spaces
unfoldable pub fields : List ℕ → List (List ℕ)
fields line = slice_split (λ b. b == 32) line

abbrev pub and_then : {X Y : Type 0} → Option X → (X → Option Y) → Option Y
and_then None f = None
and_then (Some x) f = f x

abbrev pub first_number : List (List ℕ) → Option ℕ
first_number [] = None
first_number (f ∷ fs) = number_of f

abbrev pub tail : List (List ℕ) → List (List ℕ)
tail [] = []
tail (f ∷ fs) = fs

abbrev pub no_more : List (List ℕ) → Bool
no_more [] = true
no_more (f ∷ fs) = false

abbrev pub first_word : List (List ℕ) → Option Word
first_word [] = None
first_word (f ∷ fs) = word_of f

-- what is made of none, one, two or three fields, each a number, where there is no field more
abbrev pub of_none : {X : Type 0} → X → List (List ℕ) → Option X
of_none made fs = cond (no_more fs) (Some made) None

abbrev pub of_one : {X : Type 0} → (ℕ → X) → List (List ℕ) → Option X
of_one make fs = and_then (first_number fs) (λ n. of_none (make n) (tail fs))

abbrev pub of_two : {X : Type 0} → (ℕ → ℕ → X) → List (List ℕ) → Option X
of_two make fs = and_then (first_number fs) (λ n. of_one (make n) (tail fs))

abbrev pub of_three : {X : Type 0} → (ℕ → ℕ → ℕ → X) → List (List ℕ) → Option X
of_three make fs = and_then (first_number fs) (λ n. of_two (make n) (tail fs))

abbrev pub at : ℕ → Deed → Command
at d x = record { depot = d; deed = x }

-- what each word asks with the fields behind it: the depot comes first
abbrev pub asked : Word → List (List ℕ) → Option Command
asked Create fs = of_three (λ d part reserve. at d (deed.Create part reserve)) fs
asked Open fs = of_two (λ d part. at d (deed.Open part)) fs
asked In fs = of_two (λ d amount. at d (deed.TakeIn amount)) fs
asked Out fs = of_two (λ d amount. at d (deed.Issue amount)) fs
asked Give fs = of_three (λ d amount to. at d (deed.HandOver amount to)) fs
asked File fs = of_one (λ d. at d deed.File) fs
asked Drop fs = of_one (λ d. at d deed.DropDraft) fs
asked Restart fs = of_one (λ d. at d deed.Restart) fs
asked Send fs = of_two (λ d part. at d (deed.Send part)) fs
asked Recv fs = of_two (λ d item. at d (deed.Receive item)) fs
asked Stock fs = of_two (λ d part. at d (deed.Stock part)) fs
asked Own fs = of_two (λ d part. at d (deed.OwnFree part)) fs
asked Ask fs = of_three (λ d part amount. at d (deed.Advise part amount)) fs

abbrev pub command_in : List (List ℕ) → Option Command
command_in fs = and_then (first_word fs) (λ w. asked w (tail fs))

-- the command that a line is: any other line is none
unfoldable pub command_of : List ℕ → Option Command
command_of line = command_in (fields line)

-- the word of a deed, and its numbers behind the depot's
abbrev pub said : Deed → Word × List ℕ
said (deed.Create part reserve) = (Create, part ∷ reserve ∷ [])
said (deed.Open part) = (Open, part ∷ [])
said (deed.TakeIn amount) = (In, amount ∷ [])
said (deed.Issue amount) = (Out, amount ∷ [])
said (deed.HandOver amount to) = (Give, amount ∷ to ∷ [])
said deed.File = (File, [])
said deed.DropDraft = (Drop, [])
said deed.Restart = (Restart, [])
said (deed.Send part) = (Send, part ∷ [])
said (deed.Receive item) = (Recv, item ∷ [])
said (deed.Stock part) = (Stock, part ∷ [])
said (deed.OwnFree part) = (Own, part ∷ [])
said (deed.Advise part amount) = (Ask, part ∷ amount ∷ [])

abbrev pub word : Command → Word
word c = (said c.deed).0

abbrev pub numbers : Command → List ℕ
numbers c = c.depot ∷ (said c.deed).1

-- a word, and each field with a space before it
abbrev pub spaced : Word → List (List ℕ) → List ℕ
spaced w fs = text w ++ flat_map (λ f. 32 ∷ f) fs

-- the printed form of a command: its numbers without leading zeros
abbrev pub printed : Command → List ℕ
printed c = spaced (word c) (map decimal (numbers c))

-- every number has at most ten digits
abbrev pub Fits_line : Command → Type 0
Fits_line c = AllByRecursion (λ n. n < 10 ^ 10) (numbers c)

-- every command is read back from its printed form
abbrev pub ReadsBack : Type 0
ReadsBack = (c : Command) → Fits_line c → command_of (printed c) ≡ Some c

-- a line that is read as a command is the command's word and, behind a space each, digits that write its numbers
abbrev pub ReadsOnly : Type 0
ReadsOnly =
    (line : List ℕ) (c : Command) → command_of line ≡ Some c →
    (fs : List (List ℕ)) × (line ≡ spaced (word c) fs) × (map number_of fs ≡ map (λ n. Some n) (numbers c))
