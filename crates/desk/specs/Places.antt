-- One depot at the desk, with the slip that the program keeps for it.
use Rattle.std.specs.Prelude.{◌≡◌, ℕ, Some, None, Option, Result}
use Rattle.account.specs.declared.refusal.Refusal.{Refusal}
use Rattle.depot.specs.Views.{View, view, fresh_view}
use Rattle.depot.specs.declared.slip.Slip.{Slip}
use Rattle.grammar.specs.declared.command.Deed.{Deed}
use Rattle.season.specs.Calls.{reply_to, Does}
use Rattle.season.specs.declared.call.Call.{Call}
use Rattle.store.specs.Meaning.{Meaning}
use Rattle.desk.specs.Deeds.{call_of, left_by, answer_to, kept, read_answer}
use Rattle.desk.specs.declared.place.Place.{Place}

pub record PlaceView : Type 0 where
  pub depot : View
  pub slip : Option Slip

-- a place over any kind of store, by what such a store means
abbrev pub place : {S : Type 0} → (S → Meaning) → Place S → PlaceView
place meaning p = record { depot = view meaning p.depot; slip = p.pocket.slip }

-- a depot on a store, with no slip yet
abbrev pub fresh_place : ℕ → Meaning → PlaceView
fresh_place n m = record { depot = fresh_view n m; slip = None }

-- the answer: the depot's reply to the line's call, or what is read where it makes none
abbrev pub answer_by : View → Deed → Option Call → Result ℕ Refusal
answer_by v d None = read_answer v d
answer_by v d (Some c) = answer_to (reply_to v c)

abbrev pub deed_answer : PlaceView → Deed → Result ℕ Refusal
deed_answer p d = answer_by p.depot d (call_of p.slip d)

-- what is left: the depot after that call, and the slip after its reply
pub record Called (p : PlaceView) (d : Deed) (c : Call) (q : PlaceView) : Type 0 where
  pub depot : Does p.depot c q.depot
  pub slip : q.slip ≡ kept (left_by p.slip d) (reply_to p.depot c)

-- where no call is made the depot stays; a line that lacks its slip leaves none behind
pub record Stays (p : PlaceView) (d : Deed) (q : PlaceView) : Type 0 where
  pub depot : q.depot ≡ p.depot
  pub slip : q.slip ≡ left_by p.slip d

abbrev pub served_by : PlaceView → Deed → Option Call → PlaceView → Type 0
served_by p d None q = Stays p d q
served_by p d (Some c) q = Called p d c q

abbrev pub Served : PlaceView → Deed → PlaceView → Type 0
Served p d q = served_by p d (call_of p.slip d) q
