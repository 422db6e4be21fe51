-- The problem that contents stand for.
use Rattle.std.specs.Prelude.{ℕ, map, vec_items}
use Rattle.rows.specs.declared.row.Effect.{Effect}
use Rattle.rows.specs.declared.row.Rate.{Rate}
use Rattle.table.specs.Problem as plain
use Rattle.table.specs.declared.contents.Action.{Action}
use Rattle.table.specs.declared.contents.Conditional.{Conditional}
use Rattle.table.specs.declared.contents.Parts.{Parts}
use Rattle.table.specs.declared.contents.Contents.{Contents}

abbrev pub action_of : Action → plain.Action
action_of a = record { name = vec_items a.name; condition = a.body.condition; effects = vec_items a.body.parts }

abbrev pub event_of : Conditional Effect → plain.Event
event_of e = record { condition = e.condition; effects = vec_items e.parts }

abbrev pub process_of : Conditional Rate → plain.Process
process_of p = record { condition = p.condition; rates = vec_items p.parts }

-- the problem of these parts with this tick length and goal
abbrev pub problem_with : ℕ → Parts → ℕ → plain.Problem
problem_with tick p goal =
    record {
      tick = tick;
      bits = vec_items p.bits;
      numbers = vec_items p.numbers;
      expressions = vec_items p.rows.expressions;
      formulas = vec_items p.rows.formulas;
      actions = map action_of (vec_items p.actions);
      events = map event_of (vec_items p.events);
      processes = map process_of (vec_items p.processes);
      goal = goal;
    }

-- the same where neither tick length nor goal has come yet
abbrev pub parts_of : Parts → plain.Problem
parts_of p = problem_with 0 p 0

abbrev pub problem_of : Contents → plain.Problem
problem_of c = problem_with c.tick c.parts c.goal
