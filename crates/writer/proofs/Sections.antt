-- The rows of a written problem, section by section: bits, numbers, expressions and formulas.
use Rattle.std.proofs.Common.{◌≡◌, ℕ, ◌≤◌, Bool, true, List, [], map, length, ℤ, None, refl}
use Rattle.std.specs.List.{list_all}
use Rattle.rows.specs.Range.{in_range}
use Rattle.rows.specs.Lawful.{lawful_expressions, lawful_formulas, expression_stands}
use Rattle.rows.specs.declared.row.Expression.{Expression}
use Rattle.rows.specs.declared.row.Expression.TheVariants.{Constant, Number, Sum, Difference, Product}
use Rattle.rows.specs.declared.row.Formula.{Formula}
use Rattle.table.specs.Problem.{Problem}
use Rattle.table.specs.Depth.{shallow_expressions, shallow_formulas, shallow_expression, shallow_formula}
use Rattle.draft.specs.Entry.{bit, number, expression, formula}
use Rattle.draft.specs.Questions.{lawful_constant}
use Rattle.draft.specs.Entered.{with_bits, with_numbers, with_expressions, with_formulas}
use Rattle.writer.proofs.Accepted.{Accepts, so_far, single_section}
use Rattle.writer.proofs.Places.{each_at, all_at, room_at}

-- the bits, where the rest of the problem so far is that of q
pub bits_accepted : (q : Problem) (vs : List Bool) → length vs ≤ 64 → Accepts (so_far None (with_bits [] q)) (map bit vs) (so_far None (with_bits vs q))
bits_accepted q vs l =
    single_section bit (λ pre. so_far None (with_bits pre q)) vs
    (λ pre v at. (record { stands = refl; room = room_at at l; fields = refl; rows = refl; shallow = refl; new = refl }, refl))

-- the numbers
pub numbers_accepted : (q : Problem) (zs : List ℤ) → length zs ≤ 32 → list_all in_range zs ≡ true
    → Accepts (so_far None (with_numbers [] q)) (map number zs) (so_far None (with_numbers zs q))
numbers_accepted q zs l h =
    single_section number (λ pre. so_far None (with_numbers pre q)) zs
    (λ pre z at. (record { stands = refl; room = room_at at l; fields = all_at in_range at h; rows = refl; shallow = refl; new = refl }, refl))

-- an expression that stands is lawful, since its constant lies in the range
constant_lawful : (numbers k : ℕ) (e : Expression) → expression_stands numbers k e ≡ true → lawful_constant e ≡ true
constant_lawful numbers k (Constant v) h = h
constant_lawful numbers k (Number n) h = refl
constant_lawful numbers k (Sum a b) h = refl
constant_lawful numbers k (Difference a b) h = refl
constant_lawful numbers k (Product a b) h = refl

-- the expressions, over the numbers of q
pub expressions_accepted : (q : Problem) (es : List Expression) → length es ≤ 1024
    → lawful_expressions (length q.numbers) es ≡ true → shallow_expressions es ≡ true
    → Accepts (so_far None (with_expressions [] q)) (map expression es) (so_far None (with_expressions es q))
expressions_accepted q es l h s =
    single_section expression (λ pre. so_far None (with_expressions pre q)) es
    (λ pre e at. let k = each_at _ at h in
    let c = constant_lawful (length q.numbers) (length pre) e k in
    (record { stands = refl; room = room_at at l; fields = c; rows = k; shallow = each_at shallow_expression at s; new = refl }, refl))

-- the formulas, over the bits and expressions of q
pub formulas_accepted : (q : Problem) (fs : List Formula) → length fs ≤ 1024
    → lawful_formulas (length q.bits) (length q.expressions) fs ≡ true → shallow_formulas fs ≡ true
    → Accepts (so_far None (with_formulas [] q)) (map formula fs) (so_far None (with_formulas fs q))
formulas_accepted q fs l h s =
    single_section formula (λ pre. so_far None (with_formulas pre q)) fs
    (λ pre f at. let k = each_at _ at h in
    (record { stands = refl; room = room_at at l; fields = refl; rows = k; shallow = each_at shallow_formula at s; new = refl }, refl))
