-- The three depots of a desk, and what a line does there.
use Rattle.std.specs.Prelude.{◌≡◌, ℕ, Bool, true, false, cond, List, Some, None, Ok, Err, MatchBool, Option, Result, ◌≢◌}
use Rattle.account.specs.declared.refusal.Refusal.{Refusal}
use Rattle.account.specs.declared.refusal.Refusal.TheVariants.{UnknownLine}
use Rattle.grammar.specs.Grammar.{command_of}
use Rattle.grammar.specs.declared.command.Command.{Command}
use Rattle.grammar.specs.declared.command.Deed.{Deed}
use Rattle.grammar.specs.declared.command.Deed.TheVariants.{Send, Receive}
use Rattle.store.specs.Meaning.{Meaning}
use Rattle.store.specs.Windows.{seen}
use Rattle.store.specs.declared.window.Window.{Window}
use Rattle.table.specs.Tables.{table_meaning, emptied}
use Rattle.table.specs.declared.slot.Slot.{Slot}
use Rattle.table.specs.declared.table.Table.{Table}
use Rattle.desk.specs.Numbers.{number_at, which}
use Rattle.desk.specs.Places.{PlaceView, place, fresh_place, deed_answer, Served}
use Rattle.desk.specs.declared.desk.Desk.{Desk}
use Rattle.desk.specs.declared.which.Which.{Which}
use Rattle.desk.specs.declared.which.Which.TheVariants.{One, Two, Three}

pub record DeskView : Type 0 where
  pub one : PlaceView
  pub two : PlaceView
  pub three : PlaceView

-- what the two kinds of store mean
abbrev pub on_table : Table → Meaning
on_table t = table_meaning t.slots.now

abbrev pub on_window : Window Table → Meaning
on_window w = seen (on_table w.below) w.offset w.width

abbrev pub desk_view : Desk → DeskView
desk_view d = record { one = place on_table d.one; two = place on_table d.two; three = place on_window d.three }

-- A START

-- three depots on emptied tables; the third sees the parts 1 to 50 of its own
abbrev pub start_view : List Slot → List Slot → List Slot → DeskView
start_view a b c = record {
  one = fresh_place (number_at One) (table_meaning (emptied a));
  two = fresh_place (number_at Two) (table_meaning (emptied b));
  three = fresh_place (number_at Three) (seen (table_meaning (emptied c)) 0 50);
}

-- A LINE

abbrev pub at_place : DeskView → Which → PlaceView
at_place y One = y.one
at_place y Two = y.two
at_place y Three = y.three

-- sending and receiving are no lines of the program yet
abbrev pub is_line : Deed → Bool
is_line (Send part) = false
is_line (Receive item) = false
is_line _ = true

abbrev pub answer_at : DeskView → Result Which Refusal → Deed → Result ℕ Refusal
answer_at y (Ok w) d = deed_answer (at_place y w) d
answer_at y (Err e) d = Err e

abbrev pub command_answer : DeskView → Command → Result ℕ Refusal
command_answer y c = cond (is_line c.deed) (answer_at y (which c.depot) c.deed) (Err UnknownLine)

abbrev pub answer_if : DeskView → Option Command → Result ℕ Refusal
answer_if y None = Err UnknownLine
answer_if y (Some c) = command_answer y c

-- the answer to a line
abbrev pub line_answer : DeskView → List ℕ → Result ℕ Refusal
line_answer y line = answer_if y (command_of line)

-- one place is served, and the others stay
pub record Only (y : DeskView) (w : Which) (d : Deed) (z : DeskView) : Type 0 where
  pub here : Served (at_place y w) d (at_place z w)
  pub others : (x : Which) → (x ≢ w) → at_place z x ≡ at_place y x

abbrev pub served_at : DeskView → Result Which Refusal → Deed → DeskView → Type 0
served_at y (Ok w) d z = Only y w d z
served_at y (Err e) d z = z ≡ y

-- what a command leaves: the depot that it names is served
abbrev pub Commanded : DeskView → Command → DeskView → Type 0
Commanded y c z = MatchBool (is_line c.deed) (served_at y (which c.depot) c.deed z) (z ≡ y)

abbrev pub lined_if : DeskView → Option Command → DeskView → Type 0
lined_if y None z = z ≡ y
lined_if y (Some c) z = Commanded y c z

-- what a line leaves
abbrev pub Lined : DeskView → List ℕ → DeskView → Type 0
Lined y line z = lined_if y (command_of line) z
