-- What a body of each kind says: operations, ways and flags are those of their lists, and fields that are not used are zero.
use Rattle.std.specs.Prelude.{ℕ, Bool, true, false, cond, ◌&&◌, List, drop, Some, None, Option, ◌==◌}
use Rattle.std.specs.Option.{option_map}
use Rattle.rows.specs.declared.row.Expression.{Expression}
use Rattle.rows.specs.declared.row.Expression.TheVariants as expressions
use Rattle.rows.specs.declared.row.Comparison.TheVariants.{AtMost, Less, Equal, Greater, AtLeast}
use Rattle.rows.specs.declared.row.Formula.{Formula}
use Rattle.rows.specs.declared.row.Formula.TheVariants as formulas
use Rattle.rows.specs.declared.row.Change.{Change}
use Rattle.rows.specs.declared.row.Change.TheVariants as changes
use Rattle.draft.specs.Entry.{Entry, head, bit, number, expression, formula, action, event, process, effect, rate, goal}
use Rattle.draft.specs.declared.entry.Kind.{Kind}
use Rattle.draft.specs.declared.entry.Kind.TheVariants as kinds
use Rattle.records.specs.Bytes.{field, value}

-- x, where a test passes
abbrev pub provided : {X : Type 0} → Bool → X → Option X
provided b x = cond b (Some x) None

abbrev pub flag : ℕ → Option Bool
flag n = cond (n == 0) (Some false) (cond (n == 1) (Some true) None)

abbrev pub expression_read : List ℕ → ℕ → Option Expression
expression_read body operation =
    cond (operation == 0) (Some (expressions.Constant (value body 2)))
    (cond (operation == 1) (provided (field body 4 == 0) (expressions.Number (field body 2)))
    (cond (operation == 2) (Some (expressions.Sum (field body 2) (field body 4)))
    (cond (operation == 3) (Some (expressions.Difference (field body 2) (field body 4)))
    (cond (operation == 4) (Some (expressions.Product (field body 2) (field body 4))) None))))

-- a and b are the two fields behind the operation
abbrev pub formula_read : ℕ → ℕ → ℕ → Option Formula
formula_read operation a b =
    cond (operation == 0) (provided (a == 0 && b == 0) formulas.True)
    (cond (operation == 1) (provided (b == 0) (formulas.Bit a))
    (cond (operation == 2) (provided (b == 0) (formulas.Compare AtMost a))
    (cond (operation == 3) (provided (b == 0) (formulas.Compare Less a))
    (cond (operation == 4) (provided (b == 0) (formulas.Compare Equal a))
    (cond (operation == 5) (provided (b == 0) (formulas.Compare Greater a))
    (cond (operation == 6) (provided (b == 0) (formulas.Compare AtLeast a))
    (cond (operation == 7) (provided (b == 0) (formulas.Not a))
    (cond (operation == 8) (Some (formulas.And a b))
    (cond (operation == 9) (Some (formulas.Or a b)) None)))))))))

abbrev pub set_read : ℕ → ℕ → Option Change
set_read b to = option_map (changes.Set b) (flag to)

abbrev pub change_read : ℕ → ℕ → ℕ → Option Change
change_read way n e =
    cond (way == 0) (Some (changes.Assign n e))
    (cond (way == 1) (Some (changes.Increase n e))
    (cond (way == 2) (Some (changes.Decrease n e)) None))

abbrev pub effect_of : ℕ → Change → Entry
effect_of condition change = effect (record { condition = condition; change = change })

-- what the body of a record of this kind says
abbrev pub decoded : Kind → List ℕ → Option Entry
decoded kinds.Head body = Some (head (field body 0))
decoded kinds.Bit body = option_map bit (flag (field body 0))
decoded kinds.Number body = Some (number (value body 0))
decoded kinds.Expression body = option_map expression (expression_read body (field body 0))
decoded kinds.Formula body = option_map formula (formula_read (field body 0) (field body 2) (field body 4))
decoded kinds.Action body = Some (action (field body 0) (drop 2 body))
decoded kinds.Event body = Some (event (field body 0))
decoded kinds.Process body = Some (process (field body 0))
decoded kinds.BitEffect body = option_map (effect_of (field body 0)) (set_read (field body 2) (field body 4))
decoded kinds.NumberEffect body = option_map (effect_of (field body 0)) (change_read (field body 2) (field body 4) (field body 6))
decoded kinds.Rate body = Some (rate (record { number = field body 0; expression = field body 2 }))
decoded kinds.Goal body = Some (goal (field body 0))
