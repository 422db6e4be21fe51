use Rattle.std.proofs.Common.{vec_len, rules}
use Rattle.rows.proofs.More.{formulas_more}
use Rattle.rows.proofs.rows.Rows.add_bit.Goals as goal

pub invariant_of-self : goal.invariant_of-self
invariant_of-self c =
    let r = c.args.self.now in
    record { lawful_expressions = r.lawful_expressions; lawful_formulas = search (rules, formulas_more r.bits (vec_len r.expressions), r.lawful_formulas) }
