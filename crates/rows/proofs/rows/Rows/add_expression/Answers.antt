use Rattle.std.proofs.Common.{◌≡◌, ◌≤◌, true, is_ok, vec_items, vec_len, sym, subst, arith, rules}
use Rattle.rows.specs.Lawful.{lawful_expressions}
use Rattle.rows.proofs.More.{expressions_pushed, formulas_more}
use Rattle.rows.proofs.rows.Rows.add_expression.Goals as goal

pub invariant_of-self : goal.invariant_of-self
invariant_of-self c =
    let r = c.args.self.now in
    let n = vec_len r.expressions in
    let more : n ≤ vec_len c.push.new.self = search rules in
    record {
      lawful_expressions =
          subst (λ es. lawful_expressions r.numbers es ≡ true) (sym c.push.ensures.items)
          (expressions_pushed r.numbers n (is_ok c.push.result) (vec_items r.expressions) c.args.expression r.expressions.ok.0 r.lawful_expressions c.requires);
      lawful_formulas = formulas_more r.bits n r.bits (vec_len c.push.new.self) (vec_items r.formulas) (omega arith) more r.lawful_formulas;
    }
