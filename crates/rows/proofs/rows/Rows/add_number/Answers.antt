use Rattle.std.proofs.Common.{rules}
use Rattle.rows.proofs.More.{expressions_more}
use Rattle.rows.proofs.rows.Rows.add_number.Goals as goal

pub invariant_of-self : goal.invariant_of-self
invariant_of-self c =
    let r = c.args.self.now in
    record { lawful_expressions = search (rules, expressions_more r.numbers, r.lawful_expressions); lawful_formulas = r.lawful_formulas }
