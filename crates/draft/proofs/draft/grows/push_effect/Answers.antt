use Rattle.std.proofs.Common.{rules, ◌≡◌, ℕ, List, true, false, Some, vec_items, vec_len, refl, ap, ap₂}
use Rattle.std.proofs.lemmas.Result.{err_from_is_err_and}
use Rattle.rows.specs.declared.row.Effect.{Effect}
use Rattle.table.specs.Seen.{action_of, event_of, parts_of}
use Rattle.draft.specs.Entered.{action_with, event_with, with_actions, with_events}
use Rattle.draft.specs.declared.entry.Owner.TheVariants as owners
use Rattle.draft.proofs.Last.{last_changed}
use Rattle.draft.proofs.draft.grows.push_effect.Goals as goal

pub returns-in_ok-push-in-Some-Action : goal.returns-in_ok-push-in-Some-Action
returns-in_ok-push-in-Some-Action c =
    let p = parts_of c.args.parts.now in
    let v = c.args.parts.now.actions in
    let x = c.in-Some.action.now in
    let is : c.args.owner ≡ Some owners.Action = search rules in
    rw is
    (ap (λ l. with_actions l p)
    (last_changed action_of (action_with c.args.effect) (vec_items v) (vec_len v) x (record { name = x.name; body = c.push.new.self }) v.ok.0 (c.in-Some.ensures.variant.0 refl) c.in-Some.ensures.value true
    (ap₂ (λ (n : ℕ) (l : List Effect). record { name = vec_items x.name; condition = n; effects = l }) c.in_ok-push-in-Some-Action.ensures.condition c.in_ok-push-in-Some-Action.ensures.parts)))

pub returns-in_ok-push-in-Some-Event : goal.returns-in_ok-push-in-Some-Event
returns-in_ok-push-in-Some-Event c =
    let p = parts_of c.args.parts.now in
    let v = c.args.parts.now.events in
    let x = c.in-Some-last_mut.event.now in
    let is : c.args.owner ≡ Some owners.Event = search rules in
    rw is
    (ap (λ l. with_events l p)
    (last_changed event_of (event_with c.args.effect) (vec_items v) (vec_len v) x c.push-in-Some-last_mut.new.self v.ok.0 (c.in-Some-last_mut.ensures.variant.0 refl) c.in-Some-last_mut.ensures.value true
    (ap₂ (λ (n : ℕ) (l : List Effect). record { condition = n; effects = l }) c.in_ok-push-in-Some-Event.ensures.condition c.in_ok-push-in-Some-Event.ensures.parts)))

pub returns-in_err-push-in-Some-Action : goal.returns-in_err-push-in-Some-Action
returns-in_err-push-in-Some-Action c =
    let p = parts_of c.args.parts.now in
    let v = c.args.parts.now.actions in
    let x = c.in-Some.action.now in
    rw (err_from_is_err_and c.from_residual.result c.from_residual.ensures.1).1
    (ap (λ l. with_actions l p)
    (last_changed action_of (action_with c.args.effect) (vec_items v) (vec_len v) x _ v.ok.0 (c.in-Some.ensures.variant.0 refl) c.in-Some.ensures.value false
    (ap₂ (λ (n : ℕ) (l : List Effect). record { name = vec_items x.name; condition = n; effects = l }) c.in_err-push-in-Some-Action.ensures.condition c.in_err-push-in-Some-Action.ensures.parts)))

pub returns-in_err-push-in-Some-Event : goal.returns-in_err-push-in-Some-Event
returns-in_err-push-in-Some-Event c =
    let p = parts_of c.args.parts.now in
    let v = c.args.parts.now.events in
    let x = c.in-Some-last_mut.event.now in
    rw (err_from_is_err_and c.from_residual-in_err-push-in-Some-Event.result c.from_residual-in_err-push-in-Some-Event.ensures.1).1
    (ap (λ l. with_events l p)
    (last_changed event_of (event_with c.args.effect) (vec_items v) (vec_len v) x _ v.ok.0 (c.in-Some-last_mut.ensures.variant.0 refl) c.in-Some-last_mut.ensures.value false
    (ap₂ (λ (n : ℕ) (l : List Effect). record { condition = n; effects = l }) c.in_err-push-in-Some-Event.ensures.condition c.in_err-push-in-Some-Event.ensures.parts)))
