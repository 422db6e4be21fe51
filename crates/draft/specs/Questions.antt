-- What is asked of a record before a draft takes it. The first question whose answer is no refuses.
use Rattle.std.specs.Prelude.{◌≡◌, ℕ, ◌+◌, Bool, true, false, not, ◌&&◌, length, Some, None, Option, nat_lt}
use Rattle.faults.specs.Faults.{record_fault}
use Rattle.faults.specs.declared.Fault.{Fault}
use Rattle.faults.specs.declared.Fault.TheVariants.{Row}
use Rattle.faults.specs.declared.RecordQuestion.TheVariants.{Order}
use Rattle.faults.specs.declared.RowQuestion.{RowQuestion}
use Rattle.faults.specs.declared.RowQuestion.TheVariants.{Limit, Fields, Rows, Depth, Name, Goal}
use Rattle.rows.specs.Range.{in_range}
use Rattle.rows.specs.Lawful.{expression_stands, formula_stands, effect_stands, rate_stands}
use Rattle.rows.specs.declared.row.Expression.{Expression}
use Rattle.rows.specs.declared.row.Expression.TheVariants.{Constant, Number, Sum, Difference, Product}
use Rattle.table.specs.Depth.{shallow_expression, shallow_formula}
use Rattle.table.specs.Lawful.{lawful_tick, lawful_name, new_name, counts_of, effects_of, rates_of}
use Rattle.draft.specs.Entry.{Entry, head, bit, number, expression, formula, action, event, process, effect, rate, goal, kind}
use Rattle.draft.specs.Draft.{Draft, records_of}
use Rattle.draft.specs.declared.entry.Kind.{Kind}
use Rattle.draft.specs.declared.entry.Kind.TheVariants as kinds
use Rattle.draft.specs.declared.entry.Owner.{Owner}
use Rattle.draft.specs.declared.entry.Owner.TheVariants as owners

-- the fault of the first no, else what the questions after it say
abbrev pub ask : Bool → Fault → Option Fault → Option Fault
ask true fault rest = rest
ask false fault rest = Some fault

-- a fault of the record that comes next
abbrev pub row_fault : RowQuestion → Draft → Fault
row_fault question d = Row (record { question = question; place = records_of d + 1 })

-- effects belong to an action or an event, rates to a process
abbrev pub takes_effects : Option Owner → Bool
takes_effects (Some owners.Action) = true
takes_effects (Some owners.Event) = true
takes_effects (Some owners.Process) = false
takes_effects None = false

abbrev pub takes_rates : Option Owner → Bool
takes_rates (Some owners.Action) = false
takes_rates (Some owners.Event) = false
takes_rates (Some owners.Process) = true
takes_rates None = false

-- behind the head and before the goal
abbrev pub going_on : Draft → Bool
going_on d = d.begun && not d.ended

-- may a record of this kind stand next? the head stands first and once, the goal last
abbrev pub may_stand : Draft → Kind → Bool
may_stand d kinds.Head = not d.begun
may_stand d kinds.Bit = going_on d
may_stand d kinds.Number = going_on d
may_stand d kinds.Expression = going_on d
may_stand d kinds.Formula = going_on d
may_stand d kinds.Action = going_on d
may_stand d kinds.Event = going_on d
may_stand d kinds.Process = going_on d
may_stand d kinds.BitEffect = going_on d && takes_effects d.owner
may_stand d kinds.NumberEffect = going_on d && takes_effects d.owner
may_stand d kinds.Rate = going_on d && takes_rates d.owner
may_stand d kinds.Goal = going_on d

-- is there a place for one more of this kind?
abbrev pub has_room : Draft → Kind → Bool
has_room d kinds.Head = true
has_room d kinds.Bit = nat_lt (length d.problem.bits) 64
has_room d kinds.Number = nat_lt (length d.problem.numbers) 32
has_room d kinds.Expression = nat_lt (length d.problem.expressions) 1024
has_room d kinds.Formula = nat_lt (length d.problem.formulas) 1024
has_room d kinds.Action = nat_lt (length d.problem.actions) 64
has_room d kinds.Event = nat_lt (length d.problem.events) 32
has_room d kinds.Process = nat_lt (length d.problem.processes) 32
has_room d kinds.BitEffect = nat_lt (effects_of d.problem) 512
has_room d kinds.NumberEffect = nat_lt (effects_of d.problem) 512
has_room d kinds.Rate = nat_lt (rates_of d.problem) 64
has_room d kinds.Goal = true

-- what is asked of the kind alone, of a record that begins at this byte
abbrev pub kind_refused : Draft → ℕ → Kind → Option Fault
kind_refused d at k = ask (may_stand d k) (record_fault Order at) (ask (has_room d k) (row_fault Limit d) None)

-- a constant lies in the range
abbrev pub lawful_constant : Expression → Bool
lawful_constant (Constant value) = in_range value
lawful_constant (Number n) = true
lawful_constant (Sum a b) = true
lawful_constant (Difference a b) = true
lawful_constant (Product a b) = true

-- are its values in their ranges, and its letters lawful?
abbrev pub lawful_fields : Entry → Bool
lawful_fields (head t) = lawful_tick t
lawful_fields (bit v) = true
lawful_fields (number z) = in_range z
lawful_fields (expression e) = lawful_constant e
lawful_fields (formula f) = true
lawful_fields (action c n) = lawful_name n
lawful_fields (event c) = true
lawful_fields (process c) = true
lawful_fields (effect e) = true
lawful_fields (rate r) = true
lawful_fields (goal f) = true

-- do all rows that it names stand already?
abbrev pub rows_stand : Draft → Entry → Bool
rows_stand d (head t) = true
rows_stand d (bit v) = true
rows_stand d (number z) = true
rows_stand d (expression e) = expression_stands (length d.problem.numbers) (length d.problem.expressions) e
rows_stand d (formula f) = formula_stands (length d.problem.bits) (length d.problem.expressions) (length d.problem.formulas) f
rows_stand d (action c n) = nat_lt c (length d.problem.formulas)
rows_stand d (event c) = nat_lt c (length d.problem.formulas)
rows_stand d (process c) = nat_lt c (length d.problem.formulas)
rows_stand d (effect e) = effect_stands (counts_of d.problem) e
rows_stand d (rate r) = rate_stands (counts_of d.problem) r
rows_stand d (goal f) = nat_lt f (length d.problem.formulas)

-- is it at most 12 deep?
abbrev pub shallow : Draft → Entry → Bool
shallow d (head t) = true
shallow d (bit v) = true
shallow d (number z) = true
shallow d (expression e) = shallow_expression d.problem.expressions e
shallow d (formula f) = shallow_formula d.problem.formulas f
shallow d (action c n) = true
shallow d (event c) = true
shallow d (process c) = true
shallow d (effect e) = true
shallow d (rate r) = true
shallow d (goal f) = true

-- is an action's name new?
abbrev pub name_is_new : Draft → Entry → Bool
name_is_new d (head t) = true
name_is_new d (bit v) = true
name_is_new d (number z) = true
name_is_new d (expression e) = true
name_is_new d (formula f) = true
name_is_new d (action c n) = new_name d.problem.actions n
name_is_new d (event c) = true
name_is_new d (process c) = true
name_is_new d (effect e) = true
name_is_new d (rate r) = true
name_is_new d (goal f) = true

-- what is asked of what a record says
abbrev pub entry_refused : Draft → Entry → Option Fault
entry_refused d e =
    ask (lawful_fields e) (row_fault Fields d)
    (ask (rows_stand d e) (row_fault Rows d) (ask (shallow d e) (row_fault Depth d) (ask (name_is_new d e) (row_fault Name d) None)))

-- all that is asked of a record is answered by yes
pub record Passes (d : Draft) (e : Entry) : Type 0 where
  pub stands : may_stand d (kind e) ≡ true
  pub room : has_room d (kind e) ≡ true
  pub fields : lawful_fields e ≡ true
  pub rows : rows_stand d e ≡ true
  pub shallow : shallow d e ≡ true
  pub new : name_is_new d e ≡ true

-- what is asked at the end: has the goal come? What is missing counts as the next record.
abbrev pub seal_refused : Draft → Option Fault
seal_refused d = ask d.ended (row_fault Goal d) None
