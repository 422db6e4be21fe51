-- What the rows hold, as plain lists, and how they grow.
use Rattle.std.specs.Prelude.{ℕ, ◌+◌, List, [], ◌∷◌, ◌++◌, vec_items, vec_len}
use Rattle.rows.specs.Lawful.{Counts}
use Rattle.rows.specs.declared.row.Expression.{Expression}
use Rattle.rows.specs.declared.row.Formula.{Formula}
use Rattle.rows.specs.declared.rows.Rows.{Rows}

-- how many bits and numbers there are, and the rows over them
pub record Plain : Type 0 where
  pub bits : ℕ
  pub numbers : ℕ
  pub expressions : List Expression
  pub formulas : List Formula

abbrev pub plain : Rows → Plain
plain r = record { bits = r.bits; numbers = r.numbers; expressions = vec_items r.expressions; formulas = vec_items r.formulas }

abbrev pub blank : Plain
blank = record { bits = 0; numbers = 0; expressions = []; formulas = [] }

abbrev pub with_bit : Plain → Plain
with_bit p = record { bits = p.bits + 1; numbers = p.numbers; expressions = p.expressions; formulas = p.formulas }

abbrev pub with_number : Plain → Plain
with_number p = record { bits = p.bits; numbers = p.numbers + 1; expressions = p.expressions; formulas = p.formulas }

abbrev pub with_expression : Expression → Plain → Plain
with_expression e p = record { bits = p.bits; numbers = p.numbers; expressions = p.expressions ++ e ∷ []; formulas = p.formulas }

abbrev pub with_formula : Formula → Plain → Plain
with_formula f p = record { bits = p.bits; numbers = p.numbers; expressions = p.expressions; formulas = p.formulas ++ f ∷ [] }

abbrev pub counts : Rows → Counts
counts r = record { bits = r.bits; numbers = r.numbers; expressions = vec_len r.expressions; formulas = vec_len r.formulas }
