-- What a draft keeps true: it is lawful, and what is kept beside its parts is what it says.
use Rattle.std.specs.Prelude.{◌≡◌, ℕ, List}
use Rattle.table.specs.Depth.{depths_of_expressions, depths_of_formulas}
use Rattle.table.specs.Lawful.{effects_of, rates_of}
use Rattle.draft.specs.Draft.{Draft}
use Rattle.draft.specs.Lawful.{LawfulDraft}

-- the draft d has these depths of expressions and formulas, and so many effects and rates
pub record Keeps (d : Draft) (es fs : List ℕ) (effects rates : ℕ) : Type 0 where
  pub lawful : LawfulDraft d
  pub expressions_measured : es ≡ depths_of_expressions d.problem.expressions
  pub formulas_measured : fs ≡ depths_of_formulas d.problem.formulas
  pub effects_counted : effects ≡ effects_of d.problem
  pub rates_counted : rates ≡ rates_of d.problem
