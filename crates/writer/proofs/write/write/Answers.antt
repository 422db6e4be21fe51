use Rattle.std.proofs.Common.{◌≡◌, ℕ, List, ◌++◌, vec_items, ap, ◌∙◌}
use Rattle.std.proofs.lemmas.Result.{IfOk-from_err}
use Rattle.table.specs.Seen.{problem_of}
use Rattle.records.specs.Loaded.{problem_loaded}
use Rattle.writer.specs.Written.{written}
use Rattle.writer.proofs.Loads as loads
use Rattle.writer.proofs.write.write.Goals as goal

pub returns-in_err-put : goal.returns-in_err-put
returns-in_err-put c =
    let e = c.from_residual.ensures.0 in
    record {
      bytes = IfOk-from_err c.from_residual.result _ e;
      loads_back = IfOk-from_err c.from_residual.result _ e;
      law = loads.loads_back;
    }

pub returns : goal.returns
returns c =
    let p = c.args.table.now.problem in
    let e : vec_items c.put.new.out ≡ written p =
    c.in_ok-put.ensures ∙ ap (λ (l : List ℕ). l ++ written (problem_of c.contents.result.now)) c.new-out.ensures.items
    ∙ ap written c.contents.ensures.value in
    record { bytes = e; loads_back = ap problem_loaded e ∙ loads.loads_back p c.args.table.now.lawful; law = loads.loads_back }
