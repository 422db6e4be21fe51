-- A lawful row stays lawful where there is more to name.
use Rattle.std.proofs.Common.{◌≡◌, ℕ, ◌≤◌, Bool, true, false, cond, ltb, List, [], ◌∷◌, ◌++◌, length, refl, subst, arith}
use Rattle.std.proofs.lemmas.Bool.{and_parts, and_from}
use Rattle.std.proofs.lemmas.Bool.Decides.{nat_tests}
use Rattle.rows.specs.Lawful.{expression_stands, formula_stands, lawful_expressions, lawful_formulas, Counts, change_stands, effect_stands, rate_stands}
use Rattle.rows.specs.declared.row.Expression.{Expression}
use Rattle.rows.specs.declared.row.Expression.TheVariants.{Constant, Number, Sum, Difference, Product}
use Rattle.rows.specs.declared.row.Formula.{Formula}
use Rattle.rows.specs.declared.row.Formula.TheVariants.{True, Bit, Compare, Not, And, Or}
use Rattle.rows.specs.declared.row.Change.{Change}
use Rattle.rows.specs.declared.row.Change.TheVariants.{Set, Assign, Increase, Decrease}
use Rattle.rows.specs.declared.row.Effect.{Effect}
use Rattle.rows.specs.declared.row.Rate.{Rate}
use Rattle.rows.proofs.After.{each_push, each_weaker}

pub expression_more : (m n k : ℕ) (e : Expression) → m ≤ n → expression_stands m k e ≡ true → expression_stands n k e ≡ true
expression_more m n k (Constant value) l h = h
expression_more m n k (Number i) l h = grind (arith, nat_tests)
expression_more m n k (Sum a b) l h = h
expression_more m n k (Difference a b) l h = h
expression_more m n k (Product a b) l h = h

pub formula_more : (b b' e e' k : ℕ) (f : Formula) → b ≤ b' → e ≤ e' → formula_stands b e k f ≡ true → formula_stands b' e' k f ≡ true
formula_more b b' e e' k True l m h = refl
formula_more b b' e e' k (Bit i) l m h = grind (arith, nat_tests)
formula_more b b' e e' k (Compare how i) l m h = grind (arith, nat_tests)
formula_more b b' e e' k (Not f) l m h = h
formula_more b b' e e' k (And f g) l m h = h
formula_more b b' e e' k (Or f g) l m h = h

pub expressions_more : (m n : ℕ) (es : List Expression) → m ≤ n → lawful_expressions m es ≡ true → lawful_expressions n es ≡ true
expressions_more m n es l h =
    each_weaker (λ before e. expression_stands m (length before) e) (λ before e. expression_stands n (length before) e)
    (λ before e. expression_more m n (length before) e l) [] es h

pub formulas_more : (b e b' e' : ℕ) (fs : List Formula) → b ≤ b' → e ≤ e' → lawful_formulas b e fs ≡ true → lawful_formulas b' e' fs ≡ true
formulas_more b e b' e' fs l m h =
    each_weaker (λ before f. formula_stands b e (length before) f) (λ before f. formula_stands b' e' (length before) f)
    (λ before f. formula_more b b' e e' (length before) f l m) [] fs h

pub expressions_push : (n k : ℕ) (es : List Expression) (e : Expression) → k ≡ length es
    → lawful_expressions n es ≡ true → expression_stands n k e ≡ true → lawful_expressions n (es ++ e ∷ []) ≡ true
expressions_push n k es e is h s =
    each_push (λ before x. expression_stands n (length before) x) [] es e h (subst (λ i. expression_stands n i e ≡ true) is s)

pub formulas_push : (b e k : ℕ) (fs : List Formula) (f : Formula) → k ≡ length fs
    → lawful_formulas b e fs ≡ true → formula_stands b e k f ≡ true → lawful_formulas b e (fs ++ f ∷ []) ≡ true
formulas_push b e k fs f is h s =
    each_push (λ before x. formula_stands b e (length before) x) [] fs f h (subst (λ i. formula_stands b e i f ≡ true) is s)

-- the same where a row is added only if b
pub expressions_pushed : (n k : ℕ) (b : Bool) (es : List Expression) (e : Expression) → k ≡ length es
    → lawful_expressions n es ≡ true → expression_stands n k e ≡ true → lawful_expressions n (cond b (es ++ e ∷ []) es) ≡ true
expressions_pushed n k true es e is h s = expressions_push n k es e is h s
expressions_pushed n k false es e is h s = h

pub formulas_pushed : (b e k : ℕ) (t : Bool) (fs : List Formula) (f : Formula) → k ≡ length fs
    → lawful_formulas b e fs ≡ true → formula_stands b e k f ≡ true → lawful_formulas b e (cond t (fs ++ f ∷ []) fs) ≡ true
formulas_pushed b e k true fs f is h s = formulas_push b e k fs f is h s
formulas_pushed b e k false fs f is h s = h

-- at least as many to name
pub record Within (c d : Counts) : Type 0 where
  pub bits : c.bits ≤ d.bits
  pub numbers : c.numbers ≤ d.numbers
  pub expressions : c.expressions ≤ d.expressions
  pub formulas : c.formulas ≤ d.formulas

change_more : (c d : Counts) (x : Change) → Within c d → change_stands c x ≡ true → change_stands d x ≡ true
change_more c d (Set b v) w h = grind (arith, nat_tests)
change_more c d (Assign n e) w h = grind (arith, nat_tests)
change_more c d (Increase n e) w h = grind (arith, nat_tests)
change_more c d (Decrease n e) w h = grind (arith, nat_tests)

pub effect_more : (c d : Counts) → Within c d → (e : Effect) → effect_stands c e ≡ true → effect_stands d e ≡ true
effect_more c d w e h =
    let p = and_parts (ltb e.condition c.formulas) (change_stands c e.change) h in
    let q : ltb e.condition d.formulas ≡ true = grind (arith, nat_tests, p.0) in
    and_from (ltb e.condition d.formulas) (change_stands d e.change) q (change_more c d e.change w p.1)

pub rate_more : (c d : Counts) → Within c d → (r : Rate) → rate_stands c r ≡ true → rate_stands d r ≡ true
rate_more c d w r h = grind (arith, nat_tests)
