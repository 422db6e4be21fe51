-- Lists with one element more, or with the last one changed, and what stands where there is more to name.
use Rattle.std.proofs.Common.{◌≡◌, ℕ, suc, ◌+◌, ◌-◌, ◌<◌, Bool, true, ltb, List, [], ◌∷◌, ◌++◌, map, length, get_or, set, refl, ap, ◌∙◌, subst, arith}
use Rattle.std.specs.List.{list_all, sum_by}
use Rattle.std.proofs.lemmas.Bool.{and_parts, and_from}
use Rattle.std.proofs.lemmas.List.{map_push}
use Rattle.std.proofs.lemmas.List.Sums.{sum_by-cons}
use Rattle.std.proofs.lemmas.Bool.Decides.{nat_tests}
use Rattle.rows.specs.After.{each_after}
use Rattle.rows.specs.Lawful.{Counts, effect_stands, rate_stands}
use Rattle.rows.specs.declared.row.Effect.{Effect}
use Rattle.rows.specs.declared.row.Rate.{Rate}
use Rattle.rows.proofs.More.{Within, effect_more, rate_more}
use Rattle.table.specs.Problem.{Action, Event, Process}
use Rattle.table.specs.Depth.{depths_after}
use Rattle.table.specs.Lawful.{lawful_name, new_name, action_stands, event_stands, process_stands}
use Rattle.draft.specs.Entered.{on_last, action_with, event_with, process_with}

-- one element more that passes
pub all_push : {X : Type 0} (passes : X → Bool) (xs : List X) (x : X) → list_all passes xs ≡ true → passes x ≡ true → list_all passes (xs ++ x ∷ []) ≡ true
all_push passes [] x h p = and_from (passes x) true p refl
all_push passes (y ∷ ys) x h p =
    let q = and_parts (passes y) (list_all passes ys) h in
    and_from (passes y) (list_all passes (ys ++ x ∷ [])) q.0 (all_push passes ys x q.1 p)

-- a test that passes wherever another does
pub all_weaker : {X : Type 0} (passes would : X → Bool) → ((x : X) → passes x ≡ true → would x ≡ true)
    → (xs : List X) → list_all passes xs ≡ true → list_all would xs ≡ true
all_weaker passes would w [] h = refl
all_weaker passes would w (x ∷ xs) h =
    let q = and_parts (passes x) (list_all passes xs) h in
    and_from (would x) (list_all would xs) (w x q.0) (all_weaker passes would w xs q.1)

-- the last element is changed, and passes still
pub all_on_last : {X : Type 0} (passes : X → Bool) (change : X → X) → ((x : X) → passes x ≡ true → passes (change x) ≡ true)
    → (xs : List X) → list_all passes xs ≡ true → list_all passes (on_last change xs) ≡ true
all_on_last passes change w [] h = refl
all_on_last passes change w (x ∷ []) h =
    and_from (passes (change x)) true (w x (and_parts (passes x) true h).0) refl
all_on_last passes change w (x ∷ y ∷ xs) h =
    let q = and_parts (passes x) (list_all passes (y ∷ xs)) h in
    and_from (passes x) (list_all passes (on_last change (y ∷ xs))) q.0 (all_on_last passes change w (y ∷ xs) q.1)

-- the same where an element may stand after those before it
pub each_on_last : {X : Type 0} (may : List X → X → Bool) (change : X → X)
    → ((before : List X) (x : X) → may before x ≡ true → may before (change x) ≡ true)
    → (before xs : List X) → each_after may before xs ≡ true → each_after may before (on_last change xs) ≡ true
each_on_last may change w before [] h = refl
each_on_last may change w before (x ∷ []) h =
    and_from (may before (change x)) true (w before x (and_parts (may before x) true h).0) refl
each_on_last may change w before (x ∷ y ∷ xs) h =
    let q = and_parts (may before x) (each_after may (before ++ x ∷ []) (y ∷ xs)) h in
    and_from (may before x) (each_after may (before ++ x ∷ []) (on_last change (y ∷ xs))) q.0
    (each_on_last may change w (before ++ x ∷ []) (y ∷ xs) q.1)

-- a change of the last element leaves the length
pub length_on_last : {X : Type 0} (change : X → X) (xs : List X) → length (on_last change xs) ≡ length xs
length_on_last change [] = refl
length_on_last change (x ∷ []) = refl
length_on_last change (x ∷ y ∷ xs) = ap (λ (n : ℕ). suc n) (length_on_last change (y ∷ xs))

-- the last element grows by one
pub total_on_last : {X : Type 0} (size : X → ℕ) (change : X → X) → ((x : X) → size (change x) ≡ size x + 1)
    → (xs : List X) → 0 < length xs → sum_by size (on_last change xs) ≡ sum_by size xs + 1
total_on_last size change w [] h = let z : ⊥ = omega arith in absurd z
total_on_last size change w (x ∷ []) h = rw (sum_by-cons size (change x) [], sum_by-cons size x []) (omega (arith, w x))
total_on_last size change w (x ∷ y ∷ xs) h =
    let l : 0 < length (y ∷ xs) = omega arith in
    omega (arith, sum_by-cons size x (on_last change (y ∷ xs)), sum_by-cons size x (y ∷ xs), total_on_last size change w (y ∷ xs) l)

-- one row more has its depth behind those of the rows before it
pub depths_push : {X : Type 0} (depth : List ℕ → X → ℕ) (ds : List ℕ) (xs : List X) (x : X)
    → depths_after depth ds (xs ++ x ∷ []) ≡ depths_after depth ds xs ++ depth (depths_after depth ds xs) x ∷ []
depths_push depth ds [] x = refl
depths_push depth ds (y ∷ ys) x = depths_push depth (ds ++ depth ds y ∷ []) ys x

-- the change of the last element as a write to its place
pub on_last_set : {X : Type 0} (f : X → X) (xs : List X) (d : X) → 0 < length xs
    → on_last f xs ≡ set xs (length xs - 1) (f (get_or xs (length xs - 1) d))
on_last_set f [] d h = let z : ⊥ = omega arith in absurd z
on_last_set f (x ∷ []) d h = refl
on_last_set f (x ∷ y ∷ xs) d h =
    let l : 0 < length (y ∷ xs) = omega arith in
    let e : suc (length (y ∷ xs) - 1) ≡ length (x ∷ y ∷ xs) - 1 = omega arith in
    subst (λ (i : ℕ). x ∷ on_last f (y ∷ xs) ≡ set (x ∷ y ∷ xs) i (f (get_or (x ∷ y ∷ xs) i d))) e
    (ap (λ (ys : List _). x ∷ ys) (on_last_set f (y ∷ xs) d l))

-- more to name leaves a condition standing
condition_more : (c d : Counts) → Within c d → (f : ℕ) → ltb f c.formulas ≡ true → ltb f d.formulas ≡ true
condition_more c d w f h = grind (arith, nat_tests)

-- more to name leaves an action standing
pub action_more : (c d : Counts) → Within c d → (before : List Action) (a : Action) → action_stands c before a ≡ true → action_stands d before a ≡ true
action_more c d w before a h =
    let n = and_parts (lawful_name a.name) _ h in
    let m = and_parts (new_name before a.name) _ n.1 in
    let p = and_parts (ltb a.condition c.formulas) _ m.1 in
    and_from _ _ n.0 (and_from _ _ m.0 (and_from _ _ (condition_more c d w a.condition p.0)
    (all_weaker (effect_stands c) (effect_stands d) (effect_more c d w) a.effects p.1)))

-- and so an event
pub event_more : (c d : Counts) → Within c d → (e : Event) → event_stands c e ≡ true → event_stands d e ≡ true
event_more c d w e h =
    let p = and_parts (ltb e.condition c.formulas) _ h in
    and_from _ _ (condition_more c d w e.condition p.0) (all_weaker (effect_stands c) (effect_stands d) (effect_more c d w) e.effects p.1)

-- and so a process
pub process_more : (c d : Counts) → Within c d → (p : Process) → process_stands c p ≡ true → process_stands d p ≡ true
process_more c d w p h =
    let q = and_parts (ltb p.condition c.formulas) _ h in
    and_from _ _ (condition_more c d w p.condition q.0) (all_weaker (rate_stands c) (rate_stands d) (rate_more c d w) p.rates q.1)

-- an effect that stands leaves its action standing
pub action_push : (c : Counts) (e : Effect) → effect_stands c e ≡ true
    → (before : List Action) (a : Action) → action_stands c before a ≡ true → action_stands c before (action_with e a) ≡ true
action_push c e s before a h =
    let n = and_parts (lawful_name a.name) _ h in
    let m = and_parts (new_name before a.name) _ n.1 in
    let p = and_parts (ltb a.condition c.formulas) _ m.1 in
    and_from _ _ n.0 (and_from _ _ m.0 (and_from _ _ p.0 (all_push (effect_stands c) a.effects e p.1 s)))

-- and so an event
pub event_push : (c : Counts) (e : Effect) → effect_stands c e ≡ true → (v : Event) → event_stands c v ≡ true → event_stands c (event_with e v) ≡ true
event_push c e s v h =
    let p = and_parts (ltb v.condition c.formulas) _ h in
    and_from _ _ p.0 (all_push (effect_stands c) v.effects e p.1 s)

-- a rate that stands leaves its process standing
pub process_push : (c : Counts) (r : Rate) → rate_stands c r ≡ true
    → (p : Process) → process_stands c p ≡ true → process_stands c (process_with r p) ≡ true
process_push c r s p h =
    let q = and_parts (ltb p.condition c.formulas) _ h in
    and_from _ _ q.0 (all_push (rate_stands c) p.rates r q.1 s)

-- one element more, as it is seen
pub seen_push : {X Y : Type 0} (f : X → Y) (xs : List X) (x : X) (y : Y) {ys : List X} → ys ≡ xs ++ x ∷ [] → f x ≡ y → map f ys ≡ map f xs ++ y ∷ []
seen_push f xs x y e s = ap (map f) e ∙ map_push f xs x ∙ ap (λ z. map f xs ++ z ∷ []) s
