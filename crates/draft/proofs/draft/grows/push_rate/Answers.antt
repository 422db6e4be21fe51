use Rattle.std.proofs.Common.{ℕ, List, true, false, vec_items, vec_len, refl, ap, ap₂}
use Rattle.std.proofs.lemmas.Result.{err_from_is_err_and}
use Rattle.rows.specs.declared.row.Rate.{Rate}
use Rattle.table.specs.Seen.{process_of, parts_of}
use Rattle.draft.specs.Entered.{process_with, with_processes}
use Rattle.draft.proofs.Last.{last_changed}
use Rattle.draft.proofs.draft.grows.push_rate.Goals as goal

pub returns-in_err-push : goal.returns-in_err-push
returns-in_err-push c =
    let v = c.args.parts.now.processes in
    let p = err_from_is_err_and c.from_residual.result c.from_residual.ensures.1 in
    rw p.1
    (ap (λ l. with_processes l (parts_of c.args.parts.now))
    (last_changed process_of (process_with c.args.rate) (vec_items v) (vec_len v) c.in-Some.process.now c.push.new.self v.ok.0 (c.in-Some.ensures.variant.0 refl) c.in-Some.ensures.value false
    (ap₂ (λ (n : ℕ) (l : List Rate). record { condition = n; rates = l }) c.in_err-push.ensures.condition c.in_err-push.ensures.parts)))

pub returns-in_ok-push : goal.returns-in_ok-push
returns-in_ok-push c =
    let v = c.args.parts.now.processes in
    ap (λ l. with_processes l (parts_of c.args.parts.now))
    (last_changed process_of (process_with c.args.rate) (vec_items v) (vec_len v) c.in-Some.process.now c.push.new.self v.ok.0 (c.in-Some.ensures.variant.0 refl) c.in-Some.ensures.value true
    (ap₂ (λ (n : ℕ) (l : List Rate). record { condition = n; rates = l }) c.in_ok-push.ensures.condition c.in_ok-push.ensures.parts))
