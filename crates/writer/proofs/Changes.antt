-- What belongs to one owner of a written problem: the effects of an action or event, and the rates of a process.
use Rattle.std.proofs.Common.{◌≡◌, ◌<◌, true, List, [], ◌∷◌, ◌++◌, map, length, Some, refl, ap, ◌∙◌}
use Rattle.std.specs.List.{list_all}
use Rattle.std.proofs.lemmas.Bool.{lt-ltb}
use Rattle.rows.specs.Lawful.{effect_stands, rate_stands}
use Rattle.rows.specs.declared.row.Effect.{Effect}
use Rattle.rows.specs.declared.row.Rate.{Rate}
use Rattle.table.specs.Problem.{Problem}
use Rattle.table.specs.Lawful.{counts_of, effects_of, rates_of}
use Rattle.draft.specs.Entry.{effect, rate}
use Rattle.draft.specs.Questions.{takes_effects}
use Rattle.draft.specs.Entered.{on_last, with_processes, with_effect, process_with}
use Rattle.draft.specs.declared.entry.Owner.{Owner}
use Rattle.draft.specs.declared.entry.Owner.TheVariants as owners
use Rattle.writer.proofs.Accepted.{Accepts, so_far, single_section}
use Rattle.draft.proofs.Entered.{effect_may_stand, effect_has_room}
use Rattle.writer.proofs.Places.{all_at, fewer_at}

-- the effects of one owner of the sort w, where E is the problem with those so far
pub effects_accepted : (w : Owner) → takes_effects (Some w) ≡ true → (E : List Effect → Problem)
    → ((pre : List Effect) (e : Effect) → with_effect (Some w) e (E pre) ≡ E (pre ++ e ∷ []))
    → (es : List Effect) → ((pre : List Effect) → length pre < length es → effects_of (E pre) < 512)
    → ((pre : List Effect) → list_all (effect_stands (counts_of (E pre))) es ≡ true)
    → Accepts (so_far (Some w) (E [])) (map effect es) (so_far (Some w) (E es))
effects_accepted w t E grows es room h =
    single_section effect (λ pre. so_far (Some w) (E pre)) es
    (λ pre e at. let d = so_far (Some w) (E pre) in
    let r = effect_has_room d e.change ∙ lt-ltb _ _ (room pre (fewer_at at)) in
    let s = all_at (effect_stands (counts_of (E pre))) at (h pre) in
    (record { stands = effect_may_stand d e.change ∙ t; room = r; fields = refl; rows = s; shallow = refl; new = refl }, ap (so_far (Some w)) (grows pre e)))

-- the rates of one process, where R is the problem with those so far
pub rates_accepted : (R : List Rate → Problem)
    → ((pre : List Rate) (r : Rate) → with_processes (on_last (process_with r) (R pre).processes) (R pre) ≡ R (pre ++ r ∷ []))
    → (rs : List Rate) → ((pre : List Rate) → length pre < length rs → rates_of (R pre) < 64)
    → ((pre : List Rate) → list_all (rate_stands (counts_of (R pre))) rs ≡ true)
    → Accepts (so_far (Some owners.Process) (R [])) (map rate rs) (so_far (Some owners.Process) (R rs))
rates_accepted R grows rs room h =
    single_section rate (λ pre. so_far (Some owners.Process) (R pre)) rs
    (λ pre r at. let k = lt-ltb _ _ (room pre (fewer_at at)) in
    let s = all_at (rate_stands (counts_of (R pre))) at (h pre) in
    (record { stands = refl; room = k; fields = refl; rows = s; shallow = refl; new = refl }, ap (so_far (Some owners.Process)) (grows pre r)))
