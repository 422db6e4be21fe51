-- A lawful problem: within the limits, with values in their range, names that are told apart, and rows that name what exists.
use Rattle.std.specs.Prelude.{◌≡◌, ℕ, ◌+◌, ◌<◌, ◌≤◌, Bool, true, not, ◌&&◌, ◌||◌, List, [], length, ◌==◌, nat_le, nat_lt}
use Rattle.std.specs.List.{list_all, sum_by}
use Rattle.std.specs.Str.{bytes_eq}
use Rattle.rows.specs.After.{each_after}
use Rattle.rows.specs.Range.{in_range}
use Rattle.rows.specs.Lawful.{Counts, lawful_expressions, lawful_formulas, effect_stands, rate_stands}
use Rattle.table.specs.Problem.{Action, Event, Process, Problem}
use Rattle.table.specs.Depth.{shallow_expressions, shallow_formulas}

-- a to z, 0 to 9, hyphen and underscore
abbrev pub letter : ℕ → Bool
letter c = (nat_le 97 c && nat_le c 122) || ((nat_le 48 c && nat_le c 57) || (c == 45 || c == 95))

-- a name has 1 to 24 letters
abbrev pub lawful_name : List ℕ → Bool
lawful_name name = nat_le 1 (length name) && (nat_le (length name) 24 && list_all letter name)

-- no action has this name
abbrev pub new_name : List Action → List ℕ → Bool
new_name actions name = list_all (λ a. not (bytes_eq a.name name)) actions

abbrev pub action_stands : Counts → List Action → Action → Bool
action_stands c before a =
    lawful_name a.name && (new_name before a.name && (nat_lt a.condition c.formulas && list_all (effect_stands c) a.effects))

abbrev pub event_stands : Counts → Event → Bool
event_stands c e = nat_lt e.condition c.formulas && list_all (effect_stands c) e.effects

abbrev pub process_stands : Counts → Process → Bool
process_stands c p = nat_lt p.condition c.formulas && list_all (rate_stands c) p.rates

-- bit effects and number effects count together, over all actions and events
abbrev pub effects_of_actions : List Action → ℕ
effects_of_actions actions = sum_by (λ a. length a.effects) actions

abbrev pub effects_of_events : List Event → ℕ
effects_of_events events = sum_by (λ e. length e.effects) events

abbrev pub rates_of_processes : List Process → ℕ
rates_of_processes processes = sum_by (λ p. length p.rates) processes

abbrev pub effects_of : Problem → ℕ
effects_of p = effects_of_actions p.actions + effects_of_events p.events

abbrev pub rates_of : Problem → ℕ
rates_of p = rates_of_processes p.processes

abbrev pub FewRows : Problem → Type 0
FewRows p =
    (length p.bits ≤ 64) × (length p.numbers ≤ 32) × (length p.expressions ≤ 1024) × (length p.formulas ≤ 1024)

abbrev pub FewOwners : Problem → Type 0
FewOwners p = (length p.actions ≤ 64) × (length p.events ≤ 32) × (length p.processes ≤ 32)

abbrev pub FewChanges : Problem → Type 0
FewChanges p = (effects_of p ≤ 512) × (rates_of p ≤ 64)

abbrev pub WithinLimits : Problem → Type 0
WithinLimits p = FewRows p × FewOwners p × FewChanges p

abbrev pub counts_of : Problem → Counts
counts_of p =
    record { bits = length p.bits; numbers = length p.numbers; expressions = length p.expressions; formulas = length p.formulas }

abbrev pub LawfulExpressions : Problem → Type 0
LawfulExpressions p =
    (lawful_expressions (length p.numbers) p.expressions ≡ true) × (shallow_expressions p.expressions ≡ true)

abbrev pub LawfulFormulas : Problem → Type 0
LawfulFormulas p =
    (lawful_formulas (length p.bits) (length p.expressions) p.formulas ≡ true) × (shallow_formulas p.formulas ≡ true)

abbrev pub LawfulOwners : Problem → Type 0
LawfulOwners p =
    (each_after (action_stands (counts_of p)) [] p.actions ≡ true)
    × (list_all (event_stands (counts_of p)) p.events ≡ true)
    × (list_all (process_stands (counts_of p)) p.processes ≡ true)

-- all but the tick length and the goal, which a draft does not have from the start
abbrev pub LawfulRows : Problem → Type 0
LawfulRows p = (list_all in_range p.numbers ≡ true) × LawfulExpressions p × LawfulFormulas p × LawfulOwners p

-- a tick takes 1 to 1,000 units of time
abbrev pub lawful_tick : ℕ → Bool
lawful_tick tick = nat_le 1 tick && nat_le tick 1000

abbrev pub Lawful : Problem → Type 0
Lawful p = (lawful_tick p.tick ≡ true) × (p.goal < length p.formulas) × WithinLimits p × LawfulRows p
