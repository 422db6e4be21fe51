-- A problem as records, in one order: the head, bits, numbers, expressions, formulas, actions with their effects,
-- events with theirs, processes with their rates, and the goal.
use Rattle.std.specs.Prelude.{ℕ, ◌+◌, Bool, true, false, List, [], ◌∷◌, ◌++◌, map, length}
use Rattle.std.specs.List.{flat_map}
use Rattle.rows.specs.declared.row.Expression.{Expression}
use Rattle.rows.specs.declared.row.Expression.TheVariants.{Constant, Number, Sum, Difference, Product}
use Rattle.rows.specs.declared.row.Comparison.{Comparison}
use Rattle.rows.specs.declared.row.Comparison.TheVariants.{AtMost, Less, Equal, Greater, AtLeast}
use Rattle.rows.specs.declared.row.Formula.{Formula}
use Rattle.rows.specs.declared.row.Formula.TheVariants.{True, Bit, Compare, Not, And, Or}
use Rattle.rows.specs.declared.row.Change.{Change}
use Rattle.rows.specs.declared.row.Change.TheVariants.{Set, Assign, Increase, Decrease}
use Rattle.table.specs.Problem.{Action, Event, Process, Problem}
use Rattle.draft.specs.Entry.{Entry, head, bit, number, expression, formula, action, event, process, effect, rate, goal, kind}
use Rattle.draft.specs.declared.entry.Kind.{Kind}
use Rattle.records.specs.Bytes.{pair_bytes, value_bytes}
use Rattle.draft.specs.Kinds.{code}

-- a record: its length, its kind, its fields, and behind them a value's bytes or a name's letters
abbrev pub record_bytes : Kind → List ℕ → List ℕ → List ℕ
record_bytes k fields tail =
    pair_bytes (2 + length (flat_map pair_bytes fields ++ tail)) ++ (pair_bytes (code k) ++ (flat_map pair_bytes fields ++ tail))

abbrev pub flag_number : Bool → ℕ
flag_number false = 0
flag_number true = 1

abbrev pub expression_fields : Expression → List ℕ
expression_fields (Constant v) = 0 ∷ []
expression_fields (Number n) = 1 ∷ n ∷ 0 ∷ []
expression_fields (Sum a b) = 2 ∷ a ∷ b ∷ []
expression_fields (Difference a b) = 3 ∷ a ∷ b ∷ []
expression_fields (Product a b) = 4 ∷ a ∷ b ∷ []

abbrev pub comparison_number : Comparison → ℕ
comparison_number AtMost = 2
comparison_number Less = 3
comparison_number Equal = 4
comparison_number Greater = 5
comparison_number AtLeast = 6

abbrev pub formula_fields : Formula → List ℕ
formula_fields True = 0 ∷ 0 ∷ 0 ∷ []
formula_fields (Bit b) = 1 ∷ b ∷ 0 ∷ []
formula_fields (Compare how e) = comparison_number how ∷ e ∷ 0 ∷ []
formula_fields (Not f) = 7 ∷ f ∷ 0 ∷ []
formula_fields (And f g) = 8 ∷ f ∷ g ∷ []
formula_fields (Or f g) = 9 ∷ f ∷ g ∷ []

abbrev pub change_fields : Change → List ℕ
change_fields (Set b v) = b ∷ flag_number v ∷ []
change_fields (Assign n e) = 0 ∷ n ∷ e ∷ []
change_fields (Increase n e) = 1 ∷ n ∷ e ∷ []
change_fields (Decrease n e) = 2 ∷ n ∷ e ∷ []

abbrev pub fields : Entry → List ℕ
fields (head t) = t ∷ []
fields (bit v) = flag_number v ∷ []
fields (number z) = []
fields (expression e) = expression_fields e
fields (formula f) = formula_fields f
fields (action c n) = c ∷ []
fields (event c) = c ∷ []
fields (process c) = c ∷ []
fields (effect e) = e.condition ∷ change_fields e.change
fields (rate r) = r.number ∷ r.expression ∷ []
fields (goal f) = f ∷ []

abbrev pub expression_tail : Expression → List ℕ
expression_tail (Constant v) = value_bytes v
expression_tail (Number n) = []
expression_tail (Sum a b) = []
expression_tail (Difference a b) = []
expression_tail (Product a b) = []

abbrev pub tail : Entry → List ℕ
tail (head t) = []
tail (bit v) = []
tail (number z) = value_bytes z
tail (expression e) = expression_tail e
tail (formula f) = []
tail (action c n) = n
tail (event c) = []
tail (process c) = []
tail (effect e) = []
tail (rate r) = []
tail (goal f) = []

abbrev pub encoded : Entry → List ℕ
encoded e = record_bytes (kind e) (fields e) (tail e)

-- an owner stands in front of what belongs to it
abbrev pub action_entries : Action → List Entry
action_entries a = action a.condition a.name ∷ map effect a.effects

abbrev pub event_entries : Event → List Entry
event_entries e = event e.condition ∷ map effect e.effects

abbrev pub process_entries : Process → List Entry
process_entries p = process p.condition ∷ map rate p.rates

abbrev pub entries : Problem → List Entry
entries p =
    head p.tick
    ∷ (map bit p.bits
    ++ (map number p.numbers
    ++ (map expression p.expressions
    ++ (map formula p.formulas
    ++ (flat_map action_entries p.actions
    ++ (flat_map event_entries p.events
    ++ (flat_map process_entries p.processes
    ++ (goal p.goal ∷ []))))))))

abbrev pub written : Problem → List ℕ
written p = flat_map encoded (entries p)
