-- What one record says, once its bytes are read, and of which kind it is.
use Rattle.std.specs.Prelude.{ℕ, Bool, List, ℤ}
use Rattle.rows.specs.declared.row.Expression.{Expression}
use Rattle.rows.specs.declared.row.Formula.{Formula}
use Rattle.rows.specs.declared.row.Change.{Change}
use Rattle.rows.specs.declared.row.Change.TheVariants.{Set, Assign, Increase, Decrease}
use Rattle.rows.specs.declared.row.Effect.{Effect}
use Rattle.rows.specs.declared.row.Rate.{Rate}
use Rattle.draft.specs.declared.entry.Kind.{Kind}
use Rattle.draft.specs.declared.entry.Kind.TheVariants as kinds

-- the head with the tick length, a bit or number with its first value, an action with its condition and name,
-- an event or process with its condition, an effect or rate of the last owner, and the goal
pub data Entry : Type 0 where
  head : ℕ → Entry
  bit : Bool → Entry
  number : ℤ → Entry
  expression : Expression → Entry
  formula : Formula → Entry
  action : ℕ → List ℕ → Entry
  event : ℕ → Entry
  process : ℕ → Entry
  effect : Effect → Entry
  rate : Rate → Entry
  goal : ℕ → Entry

abbrev pub change_kind : Change → Kind
change_kind (Set b v) = kinds.BitEffect
change_kind (Assign n e) = kinds.NumberEffect
change_kind (Increase n e) = kinds.NumberEffect
change_kind (Decrease n e) = kinds.NumberEffect

abbrev pub kind : Entry → Kind
kind (head t) = kinds.Head
kind (bit v) = kinds.Bit
kind (number z) = kinds.Number
kind (expression e) = kinds.Expression
kind (formula f) = kinds.Formula
kind (action c n) = kinds.Action
kind (event c) = kinds.Event
kind (process c) = kinds.Process
kind (effect e) = change_kind e.change
kind (rate r) = kinds.Rate
kind (goal f) = kinds.Goal
