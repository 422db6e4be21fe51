-- Lawful rows: each names earlier rows of its kind, and bits, numbers and expressions that exist; constants lie in the range.
use Rattle.std.specs.Prelude.{ℕ, Bool, true, ◌&&◌, List, [], length, nat_lt}
use Rattle.rows.specs.After.{each_after}
use Rattle.rows.specs.Range.{in_range}
use Rattle.rows.specs.declared.row.Expression.{Expression}
use Rattle.rows.specs.declared.row.Expression.TheVariants.{Constant, Number, Sum, Difference, Product}
use Rattle.rows.specs.declared.row.Formula.{Formula}
use Rattle.rows.specs.declared.row.Formula.TheVariants.{True, Bit, Compare, Not, And, Or}
use Rattle.rows.specs.declared.row.Change.{Change}
use Rattle.rows.specs.declared.row.Change.TheVariants.{Set, Assign, Increase, Decrease}
use Rattle.rows.specs.declared.row.Effect.{Effect}
use Rattle.rows.specs.declared.row.Rate.{Rate}

-- an expression that may stand at place k, where there are so many numbers
abbrev pub expression_stands : ℕ → ℕ → Expression → Bool
expression_stands numbers k (Constant value) = in_range value
expression_stands numbers k (Number n) = nat_lt n numbers
expression_stands numbers k (Sum a b) = nat_lt a k && nat_lt b k
expression_stands numbers k (Difference a b) = nat_lt a k && nat_lt b k
expression_stands numbers k (Product a b) = nat_lt a k && nat_lt b k

-- a formula that may stand at place k, where there are so many bits and expressions
abbrev pub formula_stands : ℕ → ℕ → ℕ → Formula → Bool
formula_stands bits expressions k True = true
formula_stands bits expressions k (Bit b) = nat_lt b bits
formula_stands bits expressions k (Compare how e) = nat_lt e expressions
formula_stands bits expressions k (Not f) = nat_lt f k
formula_stands bits expressions k (And f g) = nat_lt f k && nat_lt g k
formula_stands bits expressions k (Or f g) = nat_lt f k && nat_lt g k

abbrev pub lawful_expressions : ℕ → List Expression → Bool
lawful_expressions numbers es = each_after (λ before e. expression_stands numbers (length before) e) [] es

abbrev pub lawful_formulas : ℕ → ℕ → List Formula → Bool
lawful_formulas bits expressions fs = each_after (λ before f. formula_stands bits expressions (length before) f) [] fs

-- how many bits, numbers, expressions and formulas there are to name
pub record Counts : Type 0 where
  pub bits : ℕ
  pub numbers : ℕ
  pub expressions : ℕ
  pub formulas : ℕ

abbrev pub change_stands : Counts → Change → Bool
change_stands c (Set b v) = nat_lt b c.bits
change_stands c (Assign n e) = nat_lt n c.numbers && nat_lt e c.expressions
change_stands c (Increase n e) = nat_lt n c.numbers && nat_lt e c.expressions
change_stands c (Decrease n e) = nat_lt n c.numbers && nat_lt e c.expressions

abbrev pub effect_stands : Counts → Effect → Bool
effect_stands c e = nat_lt e.condition c.formulas && change_stands c e.change

abbrev pub rate_stands : Counts → Rate → Bool
rate_stands c r = nat_lt r.number c.numbers && nat_lt r.expression c.expressions
