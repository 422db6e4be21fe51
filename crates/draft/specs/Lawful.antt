-- A lawful draft: its problem so far is lawful, but for what has not come yet.
use Rattle.std.specs.Prelude.{◌≡◌, Bool, true, cond, ◌&&◌, length, Some, None, Option, nat_lt}
use Rattle.table.specs.Problem.{Problem}
use Rattle.table.specs.Lawful.{lawful_tick, WithinLimits, LawfulRows}
use Rattle.draft.specs.Draft.{Draft}
use Rattle.draft.specs.declared.entry.Owner.{Owner}
use Rattle.draft.specs.declared.entry.Owner.TheVariants as owners

-- there is an owner of the last owner's sort
abbrev pub owner_stands : Option Owner → Problem → Bool
owner_stands (Some owners.Action) p = nat_lt 0 (length p.actions)
owner_stands (Some owners.Event) p = nat_lt 0 (length p.events)
owner_stands (Some owners.Process) p = nat_lt 0 (length p.processes)
owner_stands None p = true

-- the tick length is lawful once the head has come, and the goal stands once it has come
abbrev pub ends_lawful : Draft → Bool
ends_lawful d =
    cond d.begun (lawful_tick d.problem.tick) true && cond d.ended (d.begun && nat_lt d.problem.goal (length d.problem.formulas)) true

abbrev pub LawfulDraft : Draft → Type 0
LawfulDraft d =
    WithinLimits d.problem × LawfulRows d.problem × (owner_stands d.owner d.problem ≡ true) × (ends_lawful d ≡ true)
