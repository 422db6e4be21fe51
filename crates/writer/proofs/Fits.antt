-- Entries that fit into their records: so do those that a draft of few rows accepts.
use Rattle.std.proofs.Common.{◌≡◌, ℕ, Bool, true, false, ltb, refl, arith}
use Rattle.std.specs.List.{list_all}
use Rattle.std.proofs.lemmas.Bool.Decides.{nat_tests}
use Rattle.rows.specs.Lawful.{effect_stands}
use Rattle.rows.specs.declared.row.Expression.TheVariants.{Constant, Number, Sum, Difference, Product}
use Rattle.rows.specs.declared.row.Comparison.TheVariants.{AtMost, Less, Equal, Greater, AtLeast}
use Rattle.rows.specs.declared.row.Formula.TheVariants.{True, Bit, Compare, Not, And, Or}
use Rattle.rows.specs.declared.row.Change.{Change}
use Rattle.rows.specs.declared.row.Change.TheVariants.{Set, Assign, Increase, Decrease}
use Rattle.table.specs.Problem.{Problem}
use Rattle.table.specs.Lawful.{FewRows, counts_of}
use Rattle.draft.specs.Entry.{Entry, head, bit, number, expression, formula, action, event, process, effect, rate, goal}
use Rattle.draft.specs.Draft.{Draft}
use Rattle.draft.specs.Questions.{lawful_fields, rows_stand}
use Rattle.records.specs.Decoded.{effect_of}
use Rattle.writer.specs.Written.{fields}

-- a field takes at most two bytes
abbrev pub small : ℕ → Bool
small n = ltb n 65536

-- every field takes at most two bytes, and values and letters are lawful
abbrev pub Fits : Entry → Type 0
Fits e = (list_all small (fields e) ≡ true) × (lawful_fields e ≡ true)

-- an effect that stands, by its change
fits_effect : (p : Problem) (c : ℕ) (x : Change) → FewRows p
    → effect_stands (counts_of p) (record { condition = c; change = x }) ≡ true → Fits (effect_of c x)
fits_effect p c (Set b true) few h = (grind (arith, nat_tests), refl)
fits_effect p c (Set b false) few h = (grind (arith, nat_tests), refl)
fits_effect p c (Assign n e) few h = (grind (arith, nat_tests), refl)
fits_effect p c (Increase n e) few h = (grind (arith, nat_tests), refl)
fits_effect p c (Decrease n e) few h = (grind (arith, nat_tests), refl)

-- an entry that is lawful and whose rows stand
pub fits_entry : (d : Draft) (e : Entry) → FewRows d.problem → lawful_fields e ≡ true → rows_stand d e ≡ true → Fits e
fits_entry d (head t) few l h = (grind (arith, nat_tests), l)
fits_entry d (bit true) few l h = (refl, l)
fits_entry d (bit false) few l h = (refl, l)
fits_entry d (number z) few l h = (refl, l)
fits_entry d (expression (Constant v)) few l h = (refl, l)
fits_entry d (expression (Number n)) few l h = (grind (arith, nat_tests), l)
fits_entry d (expression (Sum a b)) few l h = (grind (arith, nat_tests), l)
fits_entry d (expression (Difference a b)) few l h = (grind (arith, nat_tests), l)
fits_entry d (expression (Product a b)) few l h = (grind (arith, nat_tests), l)
fits_entry d (formula True) few l h = (refl, l)
fits_entry d (formula (Bit b)) few l h = (grind (arith, nat_tests), l)
fits_entry d (formula (Compare AtMost e)) few l h = (grind (arith, nat_tests), l)
fits_entry d (formula (Compare Less e)) few l h = (grind (arith, nat_tests), l)
fits_entry d (formula (Compare Equal e)) few l h = (grind (arith, nat_tests), l)
fits_entry d (formula (Compare Greater e)) few l h = (grind (arith, nat_tests), l)
fits_entry d (formula (Compare AtLeast e)) few l h = (grind (arith, nat_tests), l)
fits_entry d (formula (Not f)) few l h = (grind (arith, nat_tests), l)
fits_entry d (formula (And f g)) few l h = (grind (arith, nat_tests), l)
fits_entry d (formula (Or f g)) few l h = (grind (arith, nat_tests), l)
fits_entry d (action c n) few l h = (grind (arith, nat_tests), l)
fits_entry d (event c) few l h = (grind (arith, nat_tests), l)
fits_entry d (process c) few l h = (grind (arith, nat_tests), l)
fits_entry d (effect e) few l h = fits_effect d.problem e.condition e.change few h
fits_entry d (rate r) few l h = (grind (arith, nat_tests), l)
fits_entry d (goal f) few l h = (grind (arith, nat_tests), l)
