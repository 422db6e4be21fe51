-- A lawful draft stays lawful with one record more, where each question about it is answered by yes.
use Rattle.std.proofs.Common.{◌≡◌, ℕ, ◌<◌, ◌≤◌, Bool, true, false, cond, not, ◌&&◌, ltb, List, [], ◌∷◌, ◌++◌, length, ℤ, Some, None, Option, sym, refl, ◌∙◌, subst, arith}
use Rattle.std.specs.List.{list_all}
use Rattle.std.proofs.lemmas.List.{length_push}
use Rattle.std.proofs.lemmas.Bool.{and_parts, and_from, ltb-true, lt-ltb, false≢true}
use Rattle.std.proofs.lemmas.Bool.Decides.{nat_tests}
use Rattle.rows.specs.After.{each_after}
use Rattle.rows.specs.Range.{in_range}
use Rattle.rows.specs.Lawful.{Counts, effect_stands}
use Rattle.rows.specs.declared.row.Expression.{Expression}
use Rattle.rows.specs.declared.row.Formula.{Formula}
use Rattle.rows.specs.declared.row.Change.{Change}
use Rattle.rows.specs.declared.row.Change.TheVariants.{Set, Assign, Increase, Decrease}
use Rattle.rows.specs.declared.row.Effect.{Effect}
use Rattle.rows.specs.declared.row.Rate.{Rate}
use Rattle.rows.proofs.After.{each_push, each_weaker}
use Rattle.rows.proofs.More.{Within, expressions_more, formulas_more, expressions_push, formulas_push}
use Rattle.table.specs.Problem.{Action, Event, Process, Problem}
use Rattle.table.specs.Depth.{shallow_expression, shallow_formula}
use Rattle.table.specs.Lawful.{effects_of, rates_of, counts_of, lawful_tick, action_stands, event_stands, process_stands}
use Rattle.draft.specs.Entry.{Entry, head, bit, number, expression, formula, action, event, process, effect, rate, goal, change_kind}
use Rattle.draft.specs.Draft.{Draft}
use Rattle.draft.specs.Questions.{Passes, may_stand, has_room, takes_effects, takes_rates, going_on}
use Rattle.draft.specs.Entered.{entered, with_effect, action_with, event_with, process_with}
use Rattle.draft.specs.Lawful.{owner_stands, LawfulDraft}
use Rattle.draft.specs.declared.entry.Owner.{Owner}
use Rattle.draft.specs.declared.entry.Owner.TheVariants as owners
use Rattle.draft.proofs.Grown.{all_push, all_weaker, all_on_last, each_on_last, length_on_last}
use Rattle.draft.proofs.Grown.{action_more, event_more, process_more, action_push, event_push, process_push}
use Rattle.draft.proofs.Counted.{effects_with, rates_entered, effects_action, effects_event, rates_process}

-- owners stand where there is more to name
owners_more : (c d : Counts) (actions : List Action) (events : List Event) (processes : List Process) → Within c d
    → (each_after (action_stands c) [] actions ≡ true) × (list_all (event_stands c) events ≡ true) × (list_all (process_stands c) processes ≡ true)
    → (each_after (action_stands d) [] actions ≡ true) × (list_all (event_stands d) events ≡ true) × (list_all (process_stands d) processes ≡ true)
owners_more c d actions events processes w h = (
  each_weaker (action_stands c) (action_stands d) (action_more c d w) [] actions h.0,
  all_weaker (event_stands c) (event_stands d) (event_more c d w) events h.1,
  all_weaker (process_stands c) (process_stands d) (process_more c d w) processes h.2,
)

-- the last owner stays where there are no fewer of its sort
owner_more : (o : Option Owner) (p q : Problem) → length p.actions ≤ length q.actions → length p.events ≤ length q.events
    → length p.processes ≤ length q.processes → owner_stands o p ≡ true → owner_stands o q ≡ true
owner_more (Some owners.Action) p q a v r h = grind (arith, nat_tests)
owner_more (Some owners.Event) p q a v r h = grind (arith, nat_tests)
owner_more (Some owners.Process) p q a v r h = grind (arith, nat_tests)
owner_more None p q a v r h = refl

-- one element more where there is room
room_push : {X : Type 0} (xs : List X) (x : X) (n : ℕ) → ltb (length xs) n ≡ true → length (xs ++ x ∷ []) ≤ n
room_push xs x n h = omega (arith, length_push xs x, ltb-true (length xs) n h)

-- a list is no shorter with one element more
longer : {X : Type 0} (xs : List X) (x : X) → length xs ≤ length (xs ++ x ∷ [])
longer xs x = omega (arith, length_push xs x)

-- one bit more is one more to name
lawful_bit : (d : Draft) (v : Bool) → LawfulDraft d → Passes d (bit v) → LawfulDraft (entered d (bit v))
lawful_bit d v h k =
    let p = d.problem in
    let q = (entered d (bit v)).problem in
    let l = longer p.bits v in
    let w : Within (counts_of p) (counts_of q) = record { bits = l; numbers = omega arith; expressions = omega arith; formulas = omega arith } in (
      ((room_push p.bits v 64 k.room, h.0.0.1, h.0.0.2, h.0.0.3), h.0.1, h.0.2),
      (
        h.1.0,
        h.1.1,
        (
          formulas_more (length p.bits) (length p.expressions) (length q.bits) (length p.expressions) p.formulas l (omega arith) h.1.2.0,
          h.1.2.1,
        ),
        owners_more (counts_of p) (counts_of q) p.actions p.events p.processes w h.1.3,
      ),
      owner_more d.owner p q (omega arith) (omega arith) (omega arith) h.2,
      h.3,
    )

-- one number more, in its range
lawful_number : (d : Draft) (z : ℤ) → LawfulDraft d → Passes d (number z) → LawfulDraft (entered d (number z))
lawful_number d z h k =
    let p = d.problem in
    let q = (entered d (number z)).problem in
    let l = longer p.numbers z in
    let w : Within (counts_of p) (counts_of q) = record { bits = omega arith; numbers = l; expressions = omega arith; formulas = omega arith } in (
      ((h.0.0.0, room_push p.numbers z 32 k.room, h.0.0.2, h.0.0.3), h.0.1, h.0.2),
      (
        all_push in_range p.numbers z h.1.0 k.fields,
        (expressions_more (length p.numbers) (length q.numbers) p.expressions l h.1.1.0, h.1.1.1),
        h.1.2,
        owners_more (counts_of p) (counts_of q) p.actions p.events p.processes w h.1.3,
      ),
      owner_more d.owner p q (omega arith) (omega arith) (omega arith) h.2,
      h.3,
    )

-- one expression more, which names rows before it and is not too deep
lawful_expression : (d : Draft) (e : Expression) → LawfulDraft d → Passes d (expression e) → LawfulDraft (entered d (expression e))
lawful_expression d e h k =
    let p = d.problem in
    let q = (entered d (expression e)).problem in
    let l = longer p.expressions e in
    let w : Within (counts_of p) (counts_of q) = record { bits = omega arith; numbers = omega arith; expressions = l; formulas = omega arith } in (
      ((h.0.0.0, h.0.0.1, room_push p.expressions e 1024 k.room, h.0.0.3), h.0.1, h.0.2),
      (
        h.1.0,
        (
          expressions_push (length p.numbers) (length p.expressions) p.expressions e refl h.1.1.0 k.rows,
          each_push shallow_expression [] p.expressions e h.1.1.1 k.shallow,
        ),
        (
          formulas_more (length p.bits) (length p.expressions) (length p.bits) (length q.expressions) p.formulas (omega arith) l h.1.2.0,
          h.1.2.1,
        ),
        owners_more (counts_of p) (counts_of q) p.actions p.events p.processes w h.1.3,
      ),
      owner_more d.owner p q (omega arith) (omega arith) (omega arith) h.2,
      h.3,
    )

-- the goal stands where there are more formulas
ends_more : (begun ended : Bool) (tick g m n : ℕ) → m ≤ n → (cond begun (lawful_tick tick) true && cond ended (begun && ltb g m) true) ≡ true
    → (cond begun (lawful_tick tick) true && cond ended (begun && ltb g n) true) ≡ true
ends_more true true tick g m n l h = grind (arith, nat_tests)
ends_more true false tick g m n l h = h
ends_more false true tick g m n l h = h
ends_more false false tick g m n l h = h

-- one formula more, which names rows before it and is not too deep
lawful_formula : (d : Draft) (f : Formula) → LawfulDraft d → Passes d (formula f) → LawfulDraft (entered d (formula f))
lawful_formula d f h k =
    let p = d.problem in
    let q = (entered d (formula f)).problem in
    let l = longer p.formulas f in
    let w : Within (counts_of p) (counts_of q) = record { bits = omega arith; numbers = omega arith; expressions = omega arith; formulas = l } in (
      ((h.0.0.0, h.0.0.1, h.0.0.2, room_push p.formulas f 1024 k.room), h.0.1, h.0.2),
      (
        h.1.0,
        h.1.1,
        (
          formulas_push (length p.bits) (length p.expressions) (length p.formulas) p.formulas f refl h.1.2.0 k.rows,
          each_push shallow_formula [] p.formulas f h.1.2.1 k.shallow,
        ),
        owners_more (counts_of p) (counts_of q) p.actions p.events p.processes w h.1.3,
      ),
      owner_more d.owner p q (omega arith) (omega arith) (omega arith) h.2,
      ends_more d.begun d.ended p.tick p.goal (length p.formulas) (length q.formulas) l h.3,
    )

-- a draft without its head has no goal yet, so its ends are lawful once the head has come
head_first : (begun ended : Bool) (tick t g n : ℕ) → not begun ≡ true → lawful_tick t ≡ true
    → (cond begun (lawful_tick tick) true && cond ended (begun && ltb g n) true) ≡ true → (lawful_tick t && cond ended (true && ltb g n) true) ≡ true
head_first true ended tick t g n b l h = absurd (false≢true b)
head_first false true tick t g n b l h = absurd (false≢true h)
head_first false false tick t g n b l h = and_from (lawful_tick t) true l refl

-- the head comes with a lawful tick length
lawful_head : (d : Draft) (t : ℕ) → LawfulDraft d → Passes d (head t) → LawfulDraft (entered d (head t))
lawful_head d t h k =
    let p = d.problem in
    let q = (entered d (head t)).problem in (
      h.0,
      h.1,
      owner_more d.owner p q (omega arith) (omega arith) (omega arith) h.2,
      head_first d.begun d.ended p.tick t p.goal (length p.formulas) k.stands k.fields h.3,
    )

-- one action more, with a lawful name that is new
lawful_action : (d : Draft) (c : ℕ) (n : List ℕ) → LawfulDraft d → Passes d (action c n) → LawfulDraft (entered d (action c n))
lawful_action d c n h k =
    let p = d.problem in
    let a : Action = record { name = n; condition = c; effects = [] } in
    let s : action_stands (counts_of p) p.actions a ≡ true = and_from _ _ k.fields (and_from _ _ k.new (and_from _ true k.rows refl)) in (
      (h.0.0, (room_push p.actions a 64 k.room, h.0.1.1, h.0.1.2), (omega (arith, effects_action d c n, h.0.2.0), h.0.2.1)),
      (
        h.1.0,
        h.1.1,
        h.1.2,
        (each_push (action_stands (counts_of p)) [] p.actions a h.1.3.0 s, h.1.3.1, h.1.3.2),
      ),
      lt-ltb 0 (length (p.actions ++ a ∷ [])) (omega (arith, length_push p.actions a)),
      h.3,
    )

-- one event more, with a condition that stands
lawful_event : (d : Draft) (c : ℕ) → LawfulDraft d → Passes d (event c) → LawfulDraft (entered d (event c))
lawful_event d c h k =
    let p = d.problem in
    let v : Event = record { condition = c; effects = [] } in (
      (h.0.0, (h.0.1.0, room_push p.events v 32 k.room, h.0.1.2), (omega (arith, effects_event d c, h.0.2.0), h.0.2.1)),
      (
        h.1.0,
        h.1.1,
        h.1.2,
        (h.1.3.0, all_push (event_stands (counts_of p)) p.events v h.1.3.1 (and_from _ true k.rows refl), h.1.3.2),
      ),
      lt-ltb 0 (length (p.events ++ v ∷ [])) (omega (arith, length_push p.events v)),
      h.3,
    )

-- one process more, with a condition that stands
lawful_process : (d : Draft) (c : ℕ) → LawfulDraft d → Passes d (process c) → LawfulDraft (entered d (process c))
lawful_process d c h k =
    let p = d.problem in
    let r : Process = record { condition = c; rates = [] } in (
      (h.0.0, (h.0.1.0, h.0.1.1, room_push p.processes r 32 k.room), (h.0.2.0, omega (arith, rates_process d c, h.0.2.1))),
      (
        h.1.0,
        h.1.1,
        h.1.2,
        (h.1.3.0, h.1.3.1, all_push (process_stands (counts_of p)) p.processes r h.1.3.2 (and_from _ true k.rows refl)),
      ),
      lt-ltb 0 (length (p.processes ++ r ∷ [])) (omega (arith, length_push p.processes r)),
      h.3,
    )

-- an effect may stand behind an action or event, whatever its change is
pub effect_may_stand : (d : Draft) (x : Change) → may_stand d (change_kind x) ≡ (going_on d && takes_effects d.owner)
effect_may_stand d (Set b v) = refl
effect_may_stand d (Assign n e) = refl
effect_may_stand d (Increase n e) = refl
effect_may_stand d (Decrease n e) = refl

-- there is a place for an effect where there are fewer than 512, whatever its change is
pub effect_has_room : (d : Draft) (x : Change) → has_room d (change_kind x) ≡ ltb (effects_of d.problem) 512
effect_has_room d (Set b v) = refl
effect_has_room d (Assign n e) = refl
effect_has_room d (Increase n e) = refl
effect_has_room d (Decrease n e) = refl

-- an effect goes to an action or an event
effect_of_owner : (o : Option Owner) (p : Problem) (begun ended : Bool) (e : Effect) → takes_effects o ≡ true → effects_of p < 512
    → effect_stands (counts_of p) e ≡ true → LawfulDraft (record { problem = p; owner = o; begun = begun; ended = ended })
    → LawfulDraft (record { problem = with_effect o e p; owner = o; begun = begun; ended = ended })
effect_of_owner (Some owners.Action) p begun ended e t l s h =
    let xs = p.actions in
    let n = length_on_last (action_with e) xs in (
      (h.0.0, (omega (arith, n, h.0.1.0), h.0.1.1, h.0.1.2), (omega (arith, effects_with (Some owners.Action) p e h.2 t), h.0.2.1)),
      (
        h.1.0,
        h.1.1,
        h.1.2,
        (
          each_on_last (action_stands (counts_of p)) (action_with e) (action_push (counts_of p) e s) [] xs h.1.3.0,
          h.1.3.1,
          h.1.3.2,
        ),
      ),
      subst (λ (i : ℕ). ltb 0 i ≡ true) (sym n) h.2,
      h.3,
    )
effect_of_owner (Some owners.Event) p begun ended e t l s h =
    let xs = p.events in
    let n = length_on_last (event_with e) xs in (
      (h.0.0, (h.0.1.0, omega (arith, n, h.0.1.1), h.0.1.2), (omega (arith, effects_with (Some owners.Event) p e h.2 t), h.0.2.1)),
      (
        h.1.0,
        h.1.1,
        h.1.2,
        (h.1.3.0, all_on_last (event_stands (counts_of p)) (event_with e) (event_push (counts_of p) e s) xs h.1.3.1, h.1.3.2),
      ),
      subst (λ (i : ℕ). ltb 0 i ≡ true) (sym n) h.2,
      h.3,
    )
effect_of_owner (Some owners.Process) p begun ended e t l s h = absurd (false≢true t)
effect_of_owner None p begun ended e t l s h = absurd (false≢true t)

-- one effect more of the last action or event
lawful_effect : (d : Draft) (e : Effect) → LawfulDraft d → Passes d (effect e) → LawfulDraft (entered d (effect e))
lawful_effect d e h k =
    let s = and_parts (going_on d) (takes_effects d.owner) (sym (effect_may_stand d e.change) ∙ k.stands) in
    let l = ltb-true (effects_of d.problem) 512 (sym (effect_has_room d e.change) ∙ k.room) in
    effect_of_owner d.owner d.problem d.begun d.ended e s.1 l k.rows h

-- one rate more of the last process
lawful_rate : (d : Draft) (r : Rate) → LawfulDraft d → Passes d (rate r) → LawfulDraft (entered d (rate r))
lawful_rate d r h k =
    let p = d.problem in
    let n = length_on_last (process_with r) p.processes in
    let s = and_parts (going_on d) (takes_rates d.owner) k.stands in (
      (
        h.0.0,
        (h.0.1.0, h.0.1.1, omega (arith, n, h.0.1.2)),
        (h.0.2.0, omega (arith, rates_entered d r h.2 s.1, ltb-true (rates_of p) 64 k.room)),
      ),
      (
        h.1.0,
        h.1.1,
        h.1.2,
        (
          h.1.3.0,
          h.1.3.1,
          all_on_last (process_stands (counts_of p)) (process_with r) (process_push (counts_of p) r k.rows) p.processes h.1.3.2,
        ),
      ),
      owner_more d.owner p (entered d (rate r)).problem (omega arith) (omega arith) (omega (arith, n)) h.2,
      h.3,
    )

-- the goal comes behind the head, so the ends are lawful with it
goal_last : (begun ended : Bool) (tick f g n : ℕ) → (begun && not ended) ≡ true → ltb f n ≡ true
    → (cond begun (lawful_tick tick) true && cond ended (begun && ltb g n) true) ≡ true → (cond begun (lawful_tick tick) true && (begun && ltb f n)) ≡ true
goal_last true ended tick f g n b l h = and_from _ _ (and_parts (lawful_tick tick) _ h).0 l
goal_last false ended tick f g n b l h = absurd (false≢true b)

-- the goal is a formula that stands
lawful_goal : (d : Draft) (f : ℕ) → LawfulDraft d → Passes d (goal f) → LawfulDraft (entered d (goal f))
lawful_goal d f h k =
    let p = d.problem in (
      h.0,
      h.1,
      owner_more d.owner p (entered d (goal f)).problem (omega arith) (omega arith) (omega arith) h.2,
      goal_last d.begun d.ended p.tick f p.goal (length p.formulas) k.stands k.rows h.3,
    )

-- a lawful draft stays lawful with a record that passes
pub lawful_entered : (d : Draft) (e : Entry) → LawfulDraft d → Passes d e → LawfulDraft (entered d e)
lawful_entered d (head t) h k = lawful_head d t h k
lawful_entered d (bit v) h k = lawful_bit d v h k
lawful_entered d (number z) h k = lawful_number d z h k
lawful_entered d (expression e) h k = lawful_expression d e h k
lawful_entered d (formula f) h k = lawful_formula d f h k
lawful_entered d (action c n) h k = lawful_action d c n h k
lawful_entered d (event c) h k = lawful_event d c h k
lawful_entered d (process c) h k = lawful_process d c h k
lawful_entered d (effect e) h k = lawful_effect d e h k
lawful_entered d (rate r) h k = lawful_rate d r h k
lawful_entered d (goal f) h k = lawful_goal d f h k
