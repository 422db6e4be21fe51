-- How many effects and rates there are after one record more.
use Rattle.std.proofs.Common.{◌≡◌, ℕ, ◌+◌, ◌<◌, true, List, [], length, Some, None, Option, arith}
use Rattle.std.proofs.lemmas.List.{length_push}
use Rattle.std.proofs.lemmas.List.Sums.{sum_by_push}
use Rattle.std.proofs.lemmas.Bool.{ltb-true, false≢true}
use Rattle.rows.specs.declared.row.Effect.{Effect}
use Rattle.rows.specs.declared.row.Rate.{Rate}
use Rattle.table.specs.Problem.{Action, Event, Process, Problem}
use Rattle.table.specs.Lawful.{effects_of, effects_of_actions, effects_of_events, rates_of, rates_of_processes}
use Rattle.draft.specs.Entry.{action, event, process, effect, rate}
use Rattle.draft.specs.Draft.{Draft}
use Rattle.draft.specs.Questions.{takes_effects, takes_rates}
use Rattle.draft.specs.Entered.{entered, on_last, with_effect, action_with, event_with, process_with}
use Rattle.draft.specs.Lawful.{owner_stands}
use Rattle.draft.specs.declared.entry.Owner.{Owner}
use Rattle.draft.specs.declared.entry.Owner.TheVariants as owners
use Rattle.draft.proofs.Grown.{total_on_last}

-- the last action has one effect more
pub effects_of_last_action : (e : Effect) (xs : List Action) → 0 < length xs → effects_of_actions (on_last (action_with e) xs) ≡ effects_of_actions xs + 1
effects_of_last_action e xs l = total_on_last (λ a. length a.effects) (action_with e) (λ a. length_push a.effects e) xs l

-- the last event has one effect more
pub effects_of_last_event : (e : Effect) (xs : List Event) → 0 < length xs → effects_of_events (on_last (event_with e) xs) ≡ effects_of_events xs + 1
effects_of_last_event e xs l = total_on_last (λ v. length v.effects) (event_with e) (λ v. length_push v.effects e) xs l

-- the last process has one rate more
pub rates_of_last : (r : Rate) (xs : List Process) → 0 < length xs → rates_of_processes (on_last (process_with r) xs) ≡ rates_of_processes xs + 1
rates_of_last r xs l = total_on_last (λ p. length p.rates) (process_with r) (λ p. length_push p.rates r) xs l

-- an effect of the owner o counts once
pub effects_with : (o : Option Owner) (p : Problem) (e : Effect) → owner_stands o p ≡ true → takes_effects o ≡ true
    → effects_of (with_effect o e p) ≡ effects_of p + 1
effects_with (Some owners.Action) p e s t =
    omega (arith, effects_of_last_action e p.actions (ltb-true 0 (length p.actions) s))
effects_with (Some owners.Event) p e s t =
    omega (arith, effects_of_last_event e p.events (ltb-true 0 (length p.events) s))
effects_with (Some owners.Process) p e s t = absurd (false≢true t)
effects_with None p e s t = absurd (false≢true t)

-- an effect that is entered counts once
pub effects_entered : (d : Draft) (e : Effect) → owner_stands d.owner d.problem ≡ true → takes_effects d.owner ≡ true
    → effects_of (entered d (effect e)).problem ≡ effects_of d.problem + 1
effects_entered d e s t = effects_with d.owner d.problem e s t

-- an owner that takes rates is a process
pub some_process : (o : Option Owner) (p : Problem) → owner_stands o p ≡ true → takes_rates o ≡ true → 0 < length p.processes
some_process (Some owners.Action) p s t = absurd (false≢true t)
some_process (Some owners.Event) p s t = absurd (false≢true t)
some_process (Some owners.Process) p s t = ltb-true 0 (length p.processes) s
some_process None p s t = absurd (false≢true t)

-- a rate that is entered counts once
pub rates_entered : (d : Draft) (r : Rate) → owner_stands d.owner d.problem ≡ true → takes_rates d.owner ≡ true
    → rates_of (entered d (rate r)).problem ≡ rates_of d.problem + 1
rates_entered d r s t = rates_of_last r d.problem.processes (some_process d.owner d.problem s t)

-- an action begins with no effects
pub effects_action : (d : Draft) (c : ℕ) (n : List ℕ) → effects_of (entered d (action c n)).problem ≡ effects_of d.problem
effects_action d c n =
    let a : Action = record { name = n; condition = c; effects = [] } in
    omega (arith, sum_by_push (λ (x : Action). length x.effects) d.problem.actions a)

-- an event begins with no effects
pub effects_event : (d : Draft) (c : ℕ) → effects_of (entered d (event c)).problem ≡ effects_of d.problem
effects_event d c =
    let v : Event = record { condition = c; effects = [] } in
    omega (arith, sum_by_push (λ (x : Event). length x.effects) d.problem.events v)

-- a process begins with no rates
pub rates_process : (d : Draft) (c : ℕ) → rates_of (entered d (process c)).problem ≡ rates_of d.problem
rates_process d c =
    let p : Process = record { condition = c; rates = [] } in
    omega (arith, sum_by_push (λ (x : Process). length x.rates) d.problem.processes p)
