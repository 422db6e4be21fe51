-- The depth of a row: 1 for a comparison and a row without parts, else one more than its deepest part.
use Rattle.std.specs.Prelude.{ℕ, ◌+◌, max, Bool, List, [], ◌∷◌, ◌++◌, nat_le, slice_index}
use Rattle.rows.specs.After.{each_after}
use Rattle.rows.specs.declared.row.Expression.{Expression}
use Rattle.rows.specs.declared.row.Expression.TheVariants.{Constant, Number, Sum, Difference, Product}
use Rattle.rows.specs.declared.row.Formula.{Formula}
use Rattle.rows.specs.declared.row.Formula.TheVariants.{True, Bit, Compare, Not, And, Or}

-- of a row over parts a and b, where the rows before it have the depths ds
abbrev pub above : List ℕ → ℕ → ℕ → ℕ
above ds a b = max (slice_index ds a) (slice_index ds b) + 1

abbrev pub expression_depth : List ℕ → Expression → ℕ
expression_depth ds (Constant value) = 1
expression_depth ds (Number n) = 1
expression_depth ds (Sum a b) = above ds a b
expression_depth ds (Difference a b) = above ds a b
expression_depth ds (Product a b) = above ds a b

-- the depth of an expression that is compared does not count
abbrev pub formula_depth : List ℕ → Formula → ℕ
formula_depth ds True = 1
formula_depth ds (Bit b) = 1
formula_depth ds (Compare how e) = 1
formula_depth ds (Not f) = above ds f f
formula_depth ds (And f g) = above ds f g
formula_depth ds (Or f g) = above ds f g

-- the depths of rows one by one, behind rows of the depths ds; `depth ds x` is that of the row x there
abbrev pub depths_after : {X : Type 0} → (List ℕ → X → ℕ) → List ℕ → List X → List ℕ
depths_after depth ds [] = ds
depths_after depth ds (x ∷ xs) = depths_after depth (ds ++ depth ds x ∷ []) xs

abbrev pub depths_of_expressions : List Expression → List ℕ
depths_of_expressions es = depths_after expression_depth [] es

abbrev pub depths_of_formulas : List Formula → List ℕ
depths_of_formulas fs = depths_after formula_depth [] fs

-- at most 12 deep
abbrev pub shallow_expression : List Expression → Expression → Bool
shallow_expression before e = nat_le (expression_depth (depths_of_expressions before) e) 12

abbrev pub shallow_formula : List Formula → Formula → Bool
shallow_formula before f = nat_le (formula_depth (depths_of_formulas before) f) 12

abbrev pub shallow_expressions : List Expression → Bool
shallow_expressions es = each_after shallow_expression [] es

abbrev pub shallow_formulas : List Formula → Bool
shallow_formulas fs = each_after shallow_formula [] fs
