-- A draft with one record more.
use Rattle.std.specs.Prelude.{ℕ, Bool, true, List, [], ◌∷◌, ◌++◌, ℤ, Some, None, Option}
use Rattle.rows.specs.declared.row.Expression.{Expression}
use Rattle.rows.specs.declared.row.Formula.{Formula}
use Rattle.rows.specs.declared.row.Effect.{Effect}
use Rattle.rows.specs.declared.row.Rate.{Rate}
use Rattle.table.specs.Problem.{Action, Event, Process, Problem}
use Rattle.draft.specs.Entry.{Entry, head, bit, number, expression, formula, action, event, process, effect, rate, goal}
use Rattle.draft.specs.Draft.{Draft}
use Rattle.draft.specs.declared.entry.Owner.{Owner}
use Rattle.draft.specs.declared.entry.Owner.TheVariants as owners

-- a list whose last element is changed
abbrev pub on_last : {X : Type 0} → (X → X) → List X → List X
on_last change [] = []
on_last change (x ∷ []) = change x ∷ []
on_last change (x ∷ y ∷ xs) = x ∷ on_last change (y ∷ xs)

abbrev pub action_with : Effect → Action → Action
action_with e a = record { name = a.name; condition = a.condition; effects = a.effects ++ e ∷ [] }

abbrev pub event_with : Effect → Event → Event
event_with e v = record { condition = v.condition; effects = v.effects ++ e ∷ [] }

abbrev pub process_with : Rate → Process → Process
process_with r p = record { condition = p.condition; rates = p.rates ++ r ∷ [] }

-- the same problem but for one part
abbrev pub with_tick : ℕ → Problem → Problem
with_tick t p = record { tick = t; bits = p.bits; numbers = p.numbers; expressions = p.expressions; formulas = p.formulas; actions = p.actions; events = p.events; processes = p.processes; goal = p.goal }

abbrev pub with_bits : List Bool → Problem → Problem
with_bits bs p = record { tick = p.tick; bits = bs; numbers = p.numbers; expressions = p.expressions; formulas = p.formulas; actions = p.actions; events = p.events; processes = p.processes; goal = p.goal }

abbrev pub with_numbers : List ℤ → Problem → Problem
with_numbers zs p = record { tick = p.tick; bits = p.bits; numbers = zs; expressions = p.expressions; formulas = p.formulas; actions = p.actions; events = p.events; processes = p.processes; goal = p.goal }

abbrev pub with_expressions : List Expression → Problem → Problem
with_expressions es p = record { tick = p.tick; bits = p.bits; numbers = p.numbers; expressions = es; formulas = p.formulas; actions = p.actions; events = p.events; processes = p.processes; goal = p.goal }

abbrev pub with_formulas : List Formula → Problem → Problem
with_formulas fs p = record { tick = p.tick; bits = p.bits; numbers = p.numbers; expressions = p.expressions; formulas = fs; actions = p.actions; events = p.events; processes = p.processes; goal = p.goal }

abbrev pub with_actions : List Action → Problem → Problem
with_actions actions p = record { tick = p.tick; bits = p.bits; numbers = p.numbers; expressions = p.expressions; formulas = p.formulas; actions = actions; events = p.events; processes = p.processes; goal = p.goal }

abbrev pub with_events : List Event → Problem → Problem
with_events events p = record { tick = p.tick; bits = p.bits; numbers = p.numbers; expressions = p.expressions; formulas = p.formulas; actions = p.actions; events = events; processes = p.processes; goal = p.goal }

abbrev pub with_processes : List Process → Problem → Problem
with_processes processes p = record { tick = p.tick; bits = p.bits; numbers = p.numbers; expressions = p.expressions; formulas = p.formulas; actions = p.actions; events = p.events; processes = processes; goal = p.goal }

abbrev pub with_goal : ℕ → Problem → Problem
with_goal f p = record { tick = p.tick; bits = p.bits; numbers = p.numbers; expressions = p.expressions; formulas = p.formulas; actions = p.actions; events = p.events; processes = p.processes; goal = f }

-- an effect goes to the last owner
abbrev pub with_effect : Option Owner → Effect → Problem → Problem
with_effect (Some owners.Action) e p = with_actions (on_last (action_with e) p.actions) p
with_effect (Some owners.Event) e p = with_events (on_last (event_with e) p.events) p
with_effect (Some owners.Process) e p = p
with_effect None e p = p

-- the same draft with another problem so far, and with another last owner too
abbrev pub grown : Draft → Problem → Draft
grown d p = record { problem = p; owner = d.owner; begun = d.begun; ended = d.ended }

abbrev pub owned : Owner → Draft → Problem → Draft
owned o d p = record { problem = p; owner = Some o; begun = d.begun; ended = d.ended }

abbrev pub entered : Draft → Entry → Draft
entered d (head t) = record { problem = with_tick t d.problem; owner = d.owner; begun = true; ended = d.ended }
entered d (bit v) = grown d (with_bits (d.problem.bits ++ v ∷ []) d.problem)
entered d (number z) = grown d (with_numbers (d.problem.numbers ++ z ∷ []) d.problem)
entered d (expression e) = grown d (with_expressions (d.problem.expressions ++ e ∷ []) d.problem)
entered d (formula f) = grown d (with_formulas (d.problem.formulas ++ f ∷ []) d.problem)
entered d (action c n) =
    owned owners.Action d (with_actions (d.problem.actions ++ record { name = n; condition = c; effects = [] } ∷ []) d.problem)
entered d (event c) = owned owners.Event d (with_events (d.problem.events ++ record { condition = c; effects = [] } ∷ []) d.problem)
entered d (process c) =
    owned owners.Process d (with_processes (d.problem.processes ++ record { condition = c; rates = [] } ∷ []) d.problem)
entered d (effect e) = grown d (with_effect d.owner e d.problem)
entered d (rate r) = grown d (with_processes (on_last (process_with r) d.problem.processes) d.problem)
entered d (goal f) = record { problem = with_goal f d.problem; owner = d.owner; begun = d.begun; ended = true }
