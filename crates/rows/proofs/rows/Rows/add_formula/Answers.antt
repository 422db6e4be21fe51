use Rattle.std.proofs.Common.{◌≡◌, true, is_ok, vec_items, vec_len, sym, subst}
use Rattle.rows.specs.Lawful.{lawful_formulas}
use Rattle.rows.proofs.More.{formulas_pushed}
use Rattle.rows.proofs.rows.Rows.add_formula.Goals as goal

pub invariant_of-self : goal.invariant_of-self
invariant_of-self c =
    let r = c.args.self.now in
    let n = vec_len r.expressions in
    record {
      lawful_expressions = r.lawful_expressions;
      lawful_formulas =
          subst (λ fs. lawful_formulas r.bits n fs ≡ true) (sym c.push.ensures.items)
          (formulas_pushed r.bits n (vec_len r.formulas) (is_ok c.push.result) (vec_items r.formulas) c.args.formula r.formulas.ok.0 r.lawful_formulas c.requires);
    }
