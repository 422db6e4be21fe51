use Rattle.std.proofs.Common.{◌≡◌, ℕ, [], ◌∷◌, ◌++◌, vec_items, sym, ◌∙◌, ap}
use Rattle.std.proofs.lemmas.Result.{IfOk-equal}
use Rattle.rows.specs.declared.row.Change.{Change}
use Rattle.draft.specs.Entry.{change_kind}
use Rattle.draft.specs.declared.entry.Kind.TheVariants as kinds
use Rattle.writer.specs.Written.{record_bytes, change_fields}
use Rattle.writer.proofs.parts.EffectPut.put.Goals as goal
use Rattle.writer.proofs.parts.EffectPut.put.Goals.{in-Assign, in-Increase, in-Decrease}

pub returns : goal.returns
returns c =
    let old = vec_items c.args.out.now in
    let condition = c.args.self.now.condition in
    let read = λ (x : Change). old ++ record_bytes (change_kind x) (condition ∷ change_fields x) [] in
    let put = λ (t : ℕ × ℕ × ℕ). old ++ record_bytes kinds.NumberEffect (condition ∷ t.0 ∷ t.1 ∷ t.2 ∷ []) [] in
    let same : put c.match-self.way' ≡ read c.args.self.now.change = elim c.match-self.branch [
      | in-Assign w ↦ ap put w.way'-is ∙ sym (ap read w.in-Assign.is)
      | in-Increase w ↦ ap put w.way'-is ∙ sym (ap read w.in-Increase.is)
      | in-Decrease w ↦ ap put w.way'-is ∙ sym (ap read w.in-Decrease.is)
    ] in
    IfOk-equal c.put_record-2.result _ _ _ c.put_record-2.ensures same
