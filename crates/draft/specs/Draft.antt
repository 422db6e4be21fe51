-- A draft: the problem so far, and what decides which record may come next.
use Rattle.std.specs.Prelude.{ℕ, ◌+◌, Bool, false, cond, length, Some, None, Option}
use Rattle.table.specs.Problem.{Problem, nothing}
use Rattle.table.specs.Lawful.{effects_of, rates_of}
use Rattle.draft.specs.declared.entry.Owner.{Owner}

-- `owner` is the last action, event or process; `begun` says that the head has come, and `ended` that the goal has
pub record Draft : Type 0 where
  pub problem : Problem
  pub owner : Option Owner
  pub begun : Bool
  pub ended : Bool

abbrev pub blank : Draft
blank = record { problem = nothing; owner = None; begun = false; ended = false }

-- how many bits, numbers, expressions and formulas a problem has
abbrev pub terms_of : Problem → ℕ
terms_of p = length p.bits + length p.numbers + length p.expressions + length p.formulas

-- how many actions, events and processes
abbrev pub owners_of : Problem → ℕ
owners_of p = length p.actions + length p.events + length p.processes

-- how many records a draft has taken: each is a row, the head or the goal
abbrev pub records_of : Draft → ℕ
records_of d =
    cond d.begun 1 0 + terms_of d.problem + owners_of d.problem + effects_of d.problem + rates_of d.problem + cond d.ended 1 0

-- the problem of a finished draft
abbrev pub sealed : Draft → Option Problem
sealed d = cond d.ended (Some d.problem) None
