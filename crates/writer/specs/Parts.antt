-- The bytes of each part of a problem, as the writer puts them one behind another.
use Rattle.std.specs.Prelude.{ℕ, Bool, List, ℤ}
use Rattle.std.specs.List.{flat_map}
use Rattle.rows.specs.declared.row.Expression.{Expression}
use Rattle.rows.specs.declared.row.Formula.{Formula}
use Rattle.rows.specs.declared.row.Effect.{Effect}
use Rattle.rows.specs.declared.row.Rate.{Rate}
use Rattle.table.specs.Seen.{action_of, event_of, process_of, problem_of}
use Rattle.table.specs.declared.contents.Action.{Action}
use Rattle.table.specs.declared.contents.Conditional.{Conditional}
use Rattle.table.specs.declared.contents.Contents.{Contents}
use Rattle.draft.specs.Entry.{bit, number, expression, formula, effect, rate}
use Rattle.writer.specs.Written.{written, encoded, action_entries, event_entries, process_entries}

abbrev pub bit_bytes : Bool → List ℕ
bit_bytes v = encoded (bit v)

abbrev pub number_bytes : ℤ → List ℕ
number_bytes z = encoded (number z)

abbrev pub expression_bytes : Expression → List ℕ
expression_bytes e = encoded (expression e)

abbrev pub formula_bytes : Formula → List ℕ
formula_bytes f = encoded (formula f)

abbrev pub effect_bytes : Effect → List ℕ
effect_bytes e = encoded (effect e)

abbrev pub rate_bytes : Rate → List ℕ
rate_bytes r = encoded (rate r)

abbrev pub action_bytes : Action → List ℕ
action_bytes a = flat_map encoded (action_entries (action_of a))

abbrev pub event_bytes : Conditional Effect → List ℕ
event_bytes e = flat_map encoded (event_entries (event_of e))

abbrev pub process_bytes : Conditional Rate → List ℕ
process_bytes p = flat_map encoded (process_entries (process_of p))

abbrev pub contents_bytes : Contents → List ℕ
contents_bytes c = written (problem_of c)
