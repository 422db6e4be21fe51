-- What a draft keeps true stays true with each record that passes.
use Rattle.std.proofs.Common.{◌≡◌, ℕ, ◌+◌, Bool, true, false, List, [], ◌∷◌, ◌++◌, ℤ, Some, None, Option, sym, refl, ap, ◌∙◌}
use Rattle.std.proofs.lemmas.Bool.{and_parts}
use Rattle.faults.specs.declared.Fault.{Fault}
use Rattle.faults.specs.declared.RowQuestion.TheVariants.{Fields, Rows, Depth, Name}
use Rattle.rows.specs.declared.row.Expression.{Expression}
use Rattle.rows.specs.declared.row.Formula.{Formula}
use Rattle.rows.specs.declared.row.Effect.{Effect}
use Rattle.rows.specs.declared.row.Rate.{Rate}
use Rattle.table.specs.Problem.{Problem}
use Rattle.table.specs.Depth.{depths_of_expressions, depths_of_formulas, expression_depth, formula_depth}
use Rattle.table.specs.Lawful.{rates_of}
use Rattle.draft.specs.Entry.{kind, Entry, bit, number, expression, formula, action, event, process, effect, rate}
use Rattle.draft.specs.Draft.{Draft}
use Rattle.draft.specs.Questions.{may_stand, has_room, entry_refused, ask, row_fault, Passes, lawful_fields, rows_stand, shallow, name_is_new, going_on, takes_effects, takes_rates}
use Rattle.draft.specs.Entered.{entered, with_tick, with_goal, with_effect}
use Rattle.draft.specs.Lawful.{LawfulDraft}
use Rattle.draft.specs.Kept.{Keeps}
use Rattle.draft.specs.declared.entry.Owner.{Owner}
use Rattle.draft.specs.declared.entry.Owner.TheVariants as owners
use Rattle.draft.proofs.Grown.{depths_push}
use Rattle.draft.proofs.Counted.{effects_entered, rates_entered, effects_action, effects_event, rates_process}
use Rattle.draft.proofs.Entered as entering

-- a question that refuses nothing was answered by yes, and so were those after it
pub ask_passed : (b : Bool) (f : Fault) (rest : Option Fault) → ask b f rest ≡ None → (b ≡ true) × (rest ≡ None)
ask_passed true f rest h = (refl, h)
ask_passed false f rest h = cc

-- what the questions leave unrefused, one after another, is answered by yes
pub passes : (d : Draft) (e : Entry) → may_stand d (kind e) ≡ true → has_room d (kind e) ≡ true → entry_refused d e ≡ None → Passes d e
passes d e stands room none =
    let a = ask_passed (lawful_fields e) (row_fault Fields d) _ none in
    let b = ask_passed (rows_stand d e) (row_fault Rows d) _ a.1 in
    let c = ask_passed (shallow d e) (row_fault Depth d) _ b.1 in
    let n = ask_passed (name_is_new d e) (row_fault Name d) _ c.1 in
    record { stands = stands; room = room; fields = a.0; rows = b.0; shallow = c.0; new = n.0 }

lawful_next : (d : Draft) (e : Entry) → LawfulDraft d → Passes d e → LawfulDraft (entered d e)
lawful_next d e l h = entering.lawful_entered d e l h

-- an effect leaves expressions, formulas and rates alone
effect_expressions : (o : Option Owner) (e : Effect) (p : Problem) → (with_effect o e p).expressions ≡ p.expressions
effect_expressions (Some owners.Action) e p = refl
effect_expressions (Some owners.Event) e p = refl
effect_expressions (Some owners.Process) e p = refl
effect_expressions None e p = refl

effect_formulas : (o : Option Owner) (e : Effect) (p : Problem) → (with_effect o e p).formulas ≡ p.formulas
effect_formulas (Some owners.Action) e p = refl
effect_formulas (Some owners.Event) e p = refl
effect_formulas (Some owners.Process) e p = refl
effect_formulas None e p = refl

effect_rates : (o : Option Owner) (e : Effect) (p : Problem) → rates_of (with_effect o e p) ≡ rates_of p
effect_rates (Some owners.Action) e p = refl
effect_rates (Some owners.Event) e p = refl
effect_rates (Some owners.Process) e p = refl
effect_rates None e p = refl

module _ (d : Draft) (es fs : List ℕ) (n m : ℕ) (k : Keeps d es fs n m) where
  pub keeps_bit : (v : Bool) → Passes d (bit v) → Keeps (entered d (bit v)) es fs n m
  keeps_bit v h = record {
    lawful = lawful_next d (bit v) k.lawful h;
    expressions_measured = k.expressions_measured;
    formulas_measured = k.formulas_measured;
    effects_counted = k.effects_counted;
    rates_counted = k.rates_counted;
  }

  pub keeps_number : (z : ℤ) → Passes d (number z) → Keeps (entered d (number z)) es fs n m
  keeps_number z h = record {
    lawful = lawful_next d (number z) k.lawful h;
    expressions_measured = k.expressions_measured;
    formulas_measured = k.formulas_measured;
    effects_counted = k.effects_counted;
    rates_counted = k.rates_counted;
  }

  pub keeps_expression : (e : Expression) → Passes d (expression e) → Keeps (entered d (expression e)) (es ++ expression_depth es e ∷ []) fs n m
  keeps_expression e h = record {
    lawful = lawful_next d (expression e) k.lawful h;
    expressions_measured = ap (λ l. l ++ expression_depth l e ∷ []) k.expressions_measured ∙ sym (depths_push expression_depth [] d.problem.expressions e);
    formulas_measured = k.formulas_measured;
    effects_counted = k.effects_counted;
    rates_counted = k.rates_counted;
  }

  pub keeps_formula : (f : Formula) → Passes d (formula f) → Keeps (entered d (formula f)) es (fs ++ formula_depth fs f ∷ []) n m
  keeps_formula f h = record {
    lawful = lawful_next d (formula f) k.lawful h;
    expressions_measured = k.expressions_measured;
    formulas_measured = ap (λ l. l ++ formula_depth l f ∷ []) k.formulas_measured ∙ sym (depths_push formula_depth [] d.problem.formulas f);
    effects_counted = k.effects_counted;
    rates_counted = k.rates_counted;
  }

  pub keeps_action : (c : ℕ) (name : List ℕ) → Passes d (action c name) → Keeps (entered d (action c name)) es fs n m
  keeps_action c name h = record {
    lawful = lawful_next d (action c name) k.lawful h;
    expressions_measured = k.expressions_measured;
    formulas_measured = k.formulas_measured;
    effects_counted = k.effects_counted ∙ sym (effects_action d c name);
    rates_counted = k.rates_counted;
  }

  pub keeps_event : (c : ℕ) → Passes d (event c) → Keeps (entered d (event c)) es fs n m
  keeps_event c h = record {
    lawful = lawful_next d (event c) k.lawful h;
    expressions_measured = k.expressions_measured;
    formulas_measured = k.formulas_measured;
    effects_counted = k.effects_counted ∙ sym (effects_event d c);
    rates_counted = k.rates_counted;
  }

  pub keeps_process : (c : ℕ) → Passes d (process c) → Keeps (entered d (process c)) es fs n m
  keeps_process c h = record {
    lawful = lawful_next d (process c) k.lawful h;
    expressions_measured = k.expressions_measured;
    formulas_measured = k.formulas_measured;
    effects_counted = k.effects_counted;
    rates_counted = k.rates_counted ∙ sym (rates_process d c);
  }

  pub keeps_effect : (e : Effect) → Passes d (effect e) → Keeps (entered d (effect e)) es fs (n + 1) m
  keeps_effect e h =
      let o = d.owner in
      let p = d.problem in
      let t = (and_parts (going_on d) (takes_effects o) (sym (entering.effect_may_stand d e.change) ∙ h.stands)).1 in
      record {
        lawful = lawful_next d (effect e) k.lawful h;
        expressions_measured = k.expressions_measured ∙ ap depths_of_expressions (sym (effect_expressions o e p));
        formulas_measured = k.formulas_measured ∙ ap depths_of_formulas (sym (effect_formulas o e p));
        effects_counted = ap (λ i. i + 1) k.effects_counted ∙ sym (effects_entered d e k.lawful.2 t);
        rates_counted = k.rates_counted ∙ sym (effect_rates o e p);
      }

  pub keeps_rate : (r : Rate) → Passes d (rate r) → Keeps (entered d (rate r)) es fs n (m + 1)
  keeps_rate r h =
      let t = (and_parts (going_on d) (takes_rates d.owner) h.stands).1 in
      record {
        lawful = lawful_next d (rate r) k.lawful h;
        expressions_measured = k.expressions_measured;
        formulas_measured = k.formulas_measured;
        effects_counted = k.effects_counted;
        rates_counted = ap (λ i. i + 1) k.rates_counted ∙ sym (rates_entered d r k.lawful.2 t);
      }

-- the tick length and the goal are no part that an effect changes
pub effect_between : (t g : ℕ) (o : Option Owner) (e : Effect) (p : Problem)
    → with_tick t (with_goal g (with_effect o e p)) ≡ with_effect o e (with_tick t (with_goal g p))
effect_between t g (Some owners.Action) e p = refl
effect_between t g (Some owners.Event) e p = refl
effect_between t g (Some owners.Process) e p = refl
effect_between t g None e p = refl
