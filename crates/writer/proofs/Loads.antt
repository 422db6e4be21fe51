-- What is written of a lawful problem is loaded and sealed as that very problem.
use Rattle.std.proofs.Common.{true, length, None, Option, refl, ap, arith}
use Rattle.std.proofs.lemmas.Bool.{lt-ltb}
use Rattle.table.specs.Problem.{Problem, nothing}
use Rattle.table.specs.Lawful.{Lawful}
use Rattle.draft.specs.Lawful.{LawfulDraft}
use Rattle.draft.specs.Draft.{Draft, blank}
use Rattle.draft.specs.Entered.{with_tick, with_bits, with_numbers, with_expressions, with_formulas, with_actions, with_events}
use Rattle.draft.specs.declared.entry.Owner.{Owner}
use Rattle.draft.specs.declared.entry.Owner.TheVariants as owners
use Rattle.records.specs.Loaded.{finished, problem_in}
use Rattle.writer.specs.Written.{entries, written}
use Rattle.writer.specs.Laws.{EveryLawfulProblemLoadsBack}
use Rattle.writer.proofs.Accepted.{Accepts, accepts_append}
use Rattle.writer.proofs.Taken.{accepted_loads}
use Rattle.writer.proofs.Sections.{bits_accepted, numbers_accepted, expressions_accepted, formulas_accepted}
use Rattle.writer.proofs.Owners.{owner_after, actions_accepted, events_accepted, processes_accepted}

-- the last owner of a problem
abbrev last_owner : Problem → Option Owner
last_owner p = owner_after owners.Process (owner_after owners.Event (owner_after owners.Action None p.actions) p.events) p.processes

-- the draft of a whole problem
abbrev complete : Problem → Draft
complete p = record { problem = p; owner = last_owner p; begun = true; ended = true }

-- a blank draft takes the entries of a lawful problem, and is complete then
entries_accepted : (p : Problem) → Lawful p → Accepts blank (entries p) (complete p)
entries_accepted p h =
    let few = h.2.0 in
    let owners_few = h.2.1 in
    let rows = h.3 in
    let q0 = with_tick p.tick nothing in
    let q1 = with_bits p.bits q0 in
    let q2 = with_numbers p.numbers q1 in
    let q3 = with_expressions p.expressions q2 in
    let q4 = with_formulas p.formulas q3 in
    let q5 = with_actions p.actions q4 in
    let q6 = with_events p.events q5 in
    let o5 = owner_after owners.Action None p.actions in
    let o6 = owner_after owners.Event o5 p.events in (
      record { stands = refl; room = refl; fields = h.0; rows = refl; shallow = refl; new = refl },
      accepts_append _ _ _ _ _ (bits_accepted q0 p.bits few.0)
          (accepts_append _ _ _ _ _ (numbers_accepted q1 p.numbers few.1 rows.0)
          (accepts_append _ _ _ _ _ (expressions_accepted q2 p.expressions few.2 rows.1.0 rows.1.1)
          (accepts_append _ _ _ _ _ (formulas_accepted q3 p.formulas few.3 rows.2.0 rows.2.1)
          (accepts_append _ _ _ _ _ (actions_accepted None q4 p.actions owners_few.0 (omega arith) rows.3.0)
          (accepts_append _ _ _ _ _ (events_accepted o5 q5 p.events owners_few.1 h.2.2.0 rows.3.1)
          (accepts_append _ _ _ _ _ (processes_accepted o6 q6 p.processes owners_few.2 h.2.2.1 rows.3.2)
          (record { stands = refl; room = refl; fields = refl; rows = lt-ltb p.goal (length p.formulas) h.1; shallow = refl; new = refl }, refl))))))),
    )

-- a blank draft is lawful
blank_lawful : LawfulDraft blank
blank_lawful = (
  ((omega arith, omega arith, omega arith, omega arith), (omega arith, omega arith, omega arith), (omega arith, omega arith)),
  (refl, (refl, refl), (refl, refl), (refl, refl, refl)),
  refl,
  refl,
)

-- so its records are loaded as it
pub loads_back : EveryLawfulProblemLoadsBack
loads_back p h =
    ap (λ r. problem_in (finished r))
    (accepted_loads blank (entries p) (complete p) (entries_accepted p h) blank_lawful (length (written p)) (length (written p)) (omega arith))
