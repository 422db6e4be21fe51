-- A problem as plain lists. Rows name each other by their places, which count from 0 in each list.
use Rattle.std.specs.Prelude.{ℕ, Bool, List, [], ℤ}
use Rattle.rows.specs.declared.row.Expression.{Expression}
use Rattle.rows.specs.declared.row.Formula.{Formula}
use Rattle.rows.specs.declared.row.Effect.{Effect}
use Rattle.rows.specs.declared.row.Rate.{Rate}

-- conditions are formulas
pub record Action : Type 0 where
  pub name : List ℕ
  pub condition : ℕ
  pub effects : List Effect

pub record Event : Type 0 where
  pub condition : ℕ
  pub effects : List Effect

pub record Process : Type 0 where
  pub condition : ℕ
  pub rates : List Rate

-- the tick length, the first values of the bits and numbers, the rows, and the goal, a formula
pub record Problem : Type 0 where
  pub tick : ℕ
  pub bits : List Bool
  pub numbers : List ℤ
  pub expressions : List Expression
  pub formulas : List Formula
  pub actions : List Action
  pub events : List Event
  pub processes : List Process
  pub goal : ℕ

abbrev pub nothing : Problem
nothing =
    record { tick = 0; bits = []; numbers = []; expressions = []; formulas = []; actions = []; events = []; processes = []; goal = 0 }
