use Rattle.std.proofs.Common.{[], ◌∷◌, ◌++◌, map, vec_items, refl}
use Rattle.std.specs.List.{flat_map}
use Rattle.std.proofs.lemmas.Result.{IfOk-equal}
use Rattle.table.specs.Seen.{action_of, event_of, process_of, problem_of}
use Rattle.draft.specs.Entry.{head, bit, number, expression, formula, goal as goal'}
use Rattle.writer.specs.Written.{encoded, action_entries, event_entries, process_entries}
use Rattle.writer.proofs.Pieces.{one_put, rows_put, owners_put, entries_put}
use Rattle.writer.proofs.parts.ContentsPut.put.Goals as goal

pub returns : goal.returns
returns c =
    let s = c.args.self.now in
    let p = problem_of s in
    -- what is still to be written, from the goal back
    let t_goal = goal' p.goal ∷ [] in
    let t_processes = flat_map process_entries p.processes ++ t_goal in
    let t_events = flat_map event_entries p.events ++ t_processes in
    let t_actions = flat_map action_entries p.actions ++ t_events in
    let t_formulas = map formula p.formulas ++ t_actions in
    let t_expressions = map expression p.expressions ++ t_formulas in
    let t_numbers = map number p.numbers ++ t_expressions in
    let t_bits = map bit p.bits ++ t_numbers in
    let m_bits = rows_put encoded (vec_items c.put_record.new.out) bit (vec_items s.parts.bits) c.as_slice.result.now c.in_ok-put_all.ensures c.as_slice.ensures.value in
    let m_numbers = rows_put encoded (vec_items c.put_all.new.out) number (vec_items s.parts.numbers) c.as_slice-2.result.now c.in_ok-put_all-2.ensures c.as_slice-2.ensures.value in
    let m_expressions = rows_put encoded (vec_items c.put_all-2.new.out) expression (vec_items s.parts.rows.expressions) c.as_slice-3.result.now c.in_ok-put_all-3.ensures c.as_slice-3.ensures.value in
    let m_formulas = rows_put encoded (vec_items c.put_all-3.new.out) formula (vec_items s.parts.rows.formulas) c.as_slice-4.result.now c.in_ok-put_all-4.ensures c.as_slice-4.ensures.value in
    let m_actions = owners_put encoded (vec_items c.put_all-4.new.out) action_entries action_of (vec_items s.parts.actions) c.as_slice-5.result.now c.in_ok-put_all-5.ensures c.as_slice-5.ensures.value in
    let m_events = owners_put encoded (vec_items c.put_all-5.new.out) event_entries event_of (vec_items s.parts.events) c.as_slice-6.result.now c.in_ok-put_all-6.ensures c.as_slice-6.ensures.value in
    let m_processes = owners_put encoded (vec_items c.put_all-6.new.out) process_entries process_of (vec_items s.parts.processes) c.as_slice-7.result.now c.in_ok-put_all-7.ensures c.as_slice-7.ensures.value in
    let m_goal = one_put encoded (vec_items c.put_all-7.new.out) {mid = vec_items c.put_all-7.new.out ++ encoded (goal' s.goal)} (goal' s.goal) refl in
    let to_processes = entries_put encoded (vec_items c.put_all-6.new.out) (flat_map process_entries p.processes) t_goal m_processes m_goal in
    let to_events = entries_put encoded (vec_items c.put_all-5.new.out) (flat_map event_entries p.events) t_processes m_events to_processes in
    let to_actions = entries_put encoded (vec_items c.put_all-4.new.out) (flat_map action_entries p.actions) t_events m_actions to_events in
    let to_formulas = entries_put encoded (vec_items c.put_all-3.new.out) (map formula p.formulas) t_actions m_formulas to_actions in
    let to_expressions = entries_put encoded (vec_items c.put_all-2.new.out) (map expression p.expressions) t_formulas m_expressions to_formulas in
    let to_numbers = entries_put encoded (vec_items c.put_all.new.out) (map number p.numbers) t_expressions m_numbers to_expressions in
    let to_bits = entries_put encoded (vec_items c.put_record.new.out) (map bit p.bits) t_numbers m_bits to_numbers in
    IfOk-equal c.put_record-2.result _ _ _ c.put_record-2.ensures
    (entries_put encoded (vec_items c.args.out.now) (head s.tick ∷ []) t_bits (one_put encoded (vec_items c.args.out.now) (head s.tick) c.in_ok-put_record.ensures) to_bits)
