-- The numbers of the refusals, and which of several is answered.
use Rattle.std.specs.Prelude.{ℕ, Bool, true, cond, ◌&&◌, List, [], ◌∷◌, Some, None, Ok, Err, Option, Result, nat_lt}
use Rattle.account.specs.declared.refusal.Refusal.{Refusal}
use Rattle.account.specs.declared.refusal.Refusal.TheVariants.{OutOfRange, CutShort, Malformed, OtherKind, NoAccount, AccountExists, TillTaken, NoDraft, OwnDepot, NotEnoughFree, OtherReserve, Contradiction, LimitPassed, VersionMoved, StoreRefused, NoRoom, UnknownLine}

abbrev pub number_of : Refusal → ℕ
number_of OutOfRange = 1
number_of (CutShort place) = 2
number_of (Malformed place) = 3
number_of (OtherKind place) = 4
number_of NoAccount = 5
number_of AccountExists = 6
number_of TillTaken = 7
number_of NoDraft = 8
number_of OwnDepot = 9
number_of NotEnoughFree = 10
number_of OtherReserve = 11
number_of Contradiction = 12
number_of LimitPassed = 13
number_of VersionMoved = 14
number_of (StoreRefused layer) = 15
number_of NoRoom = 16
number_of UnknownLine = 17

-- a condition, and the refusal that it gives
pub record Check : Type 0 where
  pub fails : Bool
  pub refusal : Refusal

abbrev pub refuse : Bool → Refusal → Check
refuse b e = record { fails = b; refusal = e }

-- the first refusal whose condition holds, else the answer
abbrev pub unless : {X : Type 0} → List Check → X → Result X Refusal
unless [] x = Ok x
unless (c ∷ cs) x = cond c.fails (Err c.refusal) (unless cs x)

-- what a call needs that may be absent: refused without it, else checked further
abbrev pub given : {X : Type 0} → Option X → Refusal → (X → List Check) → List Check
given None e more = refuse true e ∷ []
given (Some x) e more = more x

-- the numbers ascend, so that the first that fits is the lowest that fits
abbrev pub ascend_from : ℕ → List Check → Bool
ascend_from n [] = true
ascend_from n (c ∷ cs) = nat_lt n (number_of c.refusal) && ascend_from (number_of c.refusal) cs

abbrev pub ascend : List Check → Bool
ascend cs = ascend_from 0 cs

-- one thing where a call is accepted, another where it is refused
abbrev pub by_answer : {X Y : Type 0} → Result X Refusal → Y → Y → Y
by_answer (Ok x) accepted refused = accepted
by_answer (Err e) accepted refused = refused
