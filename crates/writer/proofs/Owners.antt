-- The owners of a written problem, section by section: actions and events with their effects, and processes with their rates.
use Rattle.std.proofs.Common.{◌≡◌, ℕ, ◌+◌, ◌≤◌, true, List, [], ◌∷◌, ◌++◌, length, Some, Option, refl, ap, arith}
use Rattle.std.specs.List.{flat_map, list_all}
use Rattle.std.proofs.lemmas.Bool.{and_parts}
use Rattle.rows.specs.After.{each_after}
use Rattle.rows.specs.declared.row.Effect.{Effect}
use Rattle.rows.specs.declared.row.Rate.{Rate}
use Rattle.table.specs.Problem.{Action, Event, Process, Problem}
use Rattle.table.specs.Lawful.{action_stands, event_stands, process_stands, counts_of}
use Rattle.table.specs.Lawful.{effects_of_actions, effects_of_events, rates_of_processes}
use Rattle.draft.specs.Entry.{Entry}
use Rattle.draft.specs.Draft.{Draft}
use Rattle.draft.specs.Entered.{with_actions, with_events, with_processes, action_with, event_with, process_with}
use Rattle.draft.specs.declared.entry.Owner.{Owner}
use Rattle.draft.specs.declared.entry.Owner.TheVariants as owners
use Rattle.std.proofs.lemmas.List.Sums.{sum_by_push}
use Rattle.writer.specs.Written.{action_entries, event_entries, process_entries}
use Rattle.writer.proofs.Accepted.{Accepts, so_far, section}
use Rattle.writer.proofs.Places.{each_at, all_at, room_at, total_at, on_last_push}
use Rattle.writer.proofs.Changes.{effects_accepted, rates_accepted}

-- the last owner once these owners of the sort w have come
abbrev pub owner_after : {X : Type 0} → Owner → Option Owner → List X → Option Owner
owner_after w o [] = o
owner_after w o (x ∷ xs) = Some w

-- once one more has come, it is of this sort
owned_accepted : {X : Type 0} (w : Owner) (o : Option Owner) (pre : List X) (x : X) (d : Draft) (es : List Entry) (q : Problem)
    → Accepts d es (so_far (Some w) q) → Accepts d es (so_far (owner_after w o (pre ++ x ∷ [])) q)
owned_accepted w o [] x d es q g = g
owned_accepted w o (y ∷ pre) x d es q g = g

-- the actions, each with its effects
pub actions_accepted : (o : Option Owner) (q : Problem) (whole : List Action) → length whole ≤ 64
    → effects_of_actions whole + effects_of_events q.events ≤ 512 → each_after (action_stands (counts_of q)) [] whole ≡ true
    → Accepts (so_far o (with_actions [] q)) (flat_map action_entries whole) (so_far (owner_after owners.Action o whole) (with_actions whole q))
actions_accepted o q whole l m h =
    section action_entries (λ pre. so_far (owner_after owners.Action o pre) (with_actions pre q)) whole
    (λ pre a at. let p = and_parts _ _ (each_at (action_stands (counts_of q)) at h) in
    let s = and_parts _ _ p.1 in
    let t = and_parts _ _ s.1 in
    let made : List Effect → Action = λ es. record { name = a.name; condition = a.condition; effects = es } in
    let size : Action → ℕ = λ x. length x.effects in (
      record { stands = refl; room = room_at at l; fields = p.0; rows = t.0; shallow = refl; new = s.0 },
      owned_accepted owners.Action o pre a _ _ _
          (effects_accepted owners.Action refl (λ es. with_actions (pre ++ made es ∷ []) q)
          (λ es e. ap (λ xs. with_actions xs q) (on_last_push (action_with e) pre (made es))) a.effects
          (λ es f. omega (arith, total_at size at, sum_by_push size pre (made es))) (λ es. t.1)),
    ))

-- the events, each with its effects
pub events_accepted : (o : Option Owner) (q : Problem) (whole : List Event) → length whole ≤ 32
    → effects_of_actions q.actions + effects_of_events whole ≤ 512 → list_all (event_stands (counts_of q)) whole ≡ true
    → Accepts (so_far o (with_events [] q)) (flat_map event_entries whole) (so_far (owner_after owners.Event o whole) (with_events whole q))
events_accepted o q whole l m h =
    section event_entries (λ pre. so_far (owner_after owners.Event o pre) (with_events pre q)) whole
    (λ pre v at. let t = and_parts _ _ (all_at (event_stands (counts_of q)) at h) in
    let made : List Effect → Event = λ es. record { condition = v.condition; effects = es } in
    let size : Event → ℕ = λ x. length x.effects in (
      record { stands = refl; room = room_at at l; fields = refl; rows = t.0; shallow = refl; new = refl },
      owned_accepted owners.Event o pre v _ _ _
          (effects_accepted owners.Event refl (λ es. with_events (pre ++ made es ∷ []) q)
          (λ es e. ap (λ xs. with_events xs q) (on_last_push (event_with e) pre (made es))) v.effects
          (λ es f. omega (arith, total_at size at, sum_by_push size pre (made es))) (λ es. t.1)),
    ))

-- the processes, each with its rates
pub processes_accepted : (o : Option Owner) (q : Problem) (whole : List Process) → length whole ≤ 32
    → rates_of_processes whole ≤ 64 → list_all (process_stands (counts_of q)) whole ≡ true
    → Accepts (so_far o (with_processes [] q)) (flat_map process_entries whole) (so_far (owner_after owners.Process o whole) (with_processes whole q))
processes_accepted o q whole l m h =
    section process_entries (λ pre. so_far (owner_after owners.Process o pre) (with_processes pre q)) whole
    (λ pre v at. let t = and_parts _ _ (all_at (process_stands (counts_of q)) at h) in
    let made : List Rate → Process = λ rs. record { condition = v.condition; rates = rs } in
    let size : Process → ℕ = λ x. length x.rates in (
      record { stands = refl; room = room_at at l; fields = refl; rows = t.0; shallow = refl; new = refl },
      owned_accepted owners.Process o pre v _ _ _
          (rates_accepted (λ rs. with_processes (pre ++ made rs ∷ []) q)
          (λ rs r. ap (λ xs. with_processes xs q) (on_last_push (process_with r) pre (made rs))) v.rates
          (λ rs f. omega (arith, total_at size at, sum_by_push size pre (made rs))) (λ rs. t.1)),
    ))
