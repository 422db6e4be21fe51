use Rattle.std.proofs.Common.{◌≡◌, ℕ, ◌+◌, List, [], ◌∷◌, ◌++◌, vec_items, is_ok, sym, ap, ◌∙◌, subst, ap₂, w32, SFits, rules}
use Rattle.std.proofs.lemmas.Bool.{cond_both}
use Rattle.std.proofs.lemmas.Int.{to_z-of_z}
use Rattle.rows.specs.declared.row.Effect.{Effect}
use Rattle.rows.specs.Seen.{Plain, plain as rows_seen}
use Rattle.table.specs.Problem.{Problem}
use Rattle.table.specs.Depth.{expression_depth, formula_depth}
use Rattle.table.specs.Seen.{action_of, parts_of}
use Rattle.draft.specs.Draft.{Draft}
use Rattle.draft.specs.Entry as plain
use Rattle.draft.specs.Entered.{grown, owned, with_tick, with_goal, with_expressions, with_formulas, with_actions}
use Rattle.draft.specs.Kept.{Keeps}
use Rattle.draft.specs.Plain.{plain_entry}
use Rattle.draft.specs.Questions.{Passes}
use Rattle.draft.specs.Held.{Held}
use Rattle.draft.specs.Seen.{seen, held}
use Rattle.draft.specs.declared.draft.Draft.TheInside.{Inside}
use Rattle.draft.specs.declared.entry.Owner.TheVariants as owners
use Rattle.draft.proofs.Grown.{seen_push}
use Rattle.draft.proofs.Kept.{keeps_bit, keeps_number, keeps_expression, keeps_formula, keeps_action, keeps_effect, keeps_rate, effect_between}
use Rattle.draft.proofs.draft.Draft.enter.Goals as goal

-- what passes, at the draft as its fields show it
passing : (s : Inside) (d : Held) (x e : plain.Entry) → held s ≡ d → x ≡ e → Passes d.plain x → Passes (seen s) e
passing s d x e v i h = subst (Passes (seen s)) i (subst (λ (d : Held). Passes d.plain x) (sym v) h)

-- the draft d with what the fields s keep beside the parts
abbrev KeepsBy : Inside → Draft → Type 0
KeepsBy s d = Keeps d (vec_items s.expression_depths) (vec_items s.formula_depths) s.effects s.rates

-- the draft of the fields s with other parts
abbrev with_parts : Inside → Problem → Draft
with_parts s p = grown (seen s) (with_tick (seen s).problem.tick (with_goal (seen s).problem.goal p))

-- the same with these rows in place of its own
abbrev with_rows : Inside → Plain → Draft
with_rows s r = grown (seen s) (with_expressions r.expressions (with_formulas r.formulas (seen s).problem))

-- the depths of the rows so far with that of the row x behind them
measured : {X : Type 0} (depth : List ℕ → X → ℕ) (x : X) (kept : List ℕ) {lent reserved after : List ℕ} {n : ℕ} → n ≡ depth lent x → lent ≡ kept → reserved ≡ kept
    → after ≡ reserved ++ n ∷ [] → after ≡ kept ++ depth kept x ∷ []
measured depth x kept e l r p = p ∙ ap₂ (λ (l : List ℕ) (n : ℕ). l ++ n ∷ []) r (e ∙ ap (λ l. depth l x) l)

pub invariant_of-self-inside-in-Bit : goal.invariant_of-self-inside-in-Bit
invariant_of-self-inside-in-Bit c =
    let s = c.self.inside in
    let h = passing s _ _ (plain.bit c.in-Bit.first) c.self.view_is (ap plain_entry c.in-Bit.is) c.requires in
    let P : Problem → Type 0 = λ p. KeepsBy s (with_parts s p) in (
      subst P (sym c.push_bit.ensures)
          (cond_both (is_ok c.push_bit.result) _ _ P (λ _. keeps_bit (seen s) _ _ _ _ s.keeps c.in-Bit.first h) (λ _. s.keeps)),
      tt,
    )

pub invariant_of-self-inside-in-Number : goal.invariant_of-self-inside-in-Number
invariant_of-self-inside-in-Number c =
    let s = c.self.inside in
    let h = passing s _ _ (plain.number c.in-Number.first) c.self.view_is (ap plain_entry c.in-Number.is) c.requires in
    let f : SFits w32 c.in-Number.first = search rules in
    let P : Problem → Type 0 = λ p. KeepsBy s (with_parts s p) in (
      subst P (sym (simp to_z-of_z at c.push_number.ensures))
          (cond_both (is_ok c.push_number.result) _ _ P (λ _. keeps_number (seen s) _ _ _ _ s.keeps c.in-Number.first h) (λ _. s.keeps)),
      tt,
    )

pub invariant_of-self-inside-in-Expression-2 : goal.invariant_of-self-inside-in-Expression-2
invariant_of-self-inside-in-Expression-2 c =
    let s = c.self.inside in
    let d = seen s in
    let es = vec_items s.expression_depths in
    let fs = vec_items s.formula_depths in
    let e = c.in-Expression.e in
    let h = passing s _ _ (plain.expression e) c.self.view_is (ap plain_entry c.in-Expression.is) c.requires in
    let behind = measured expression_depth e es c.expression_depth-depth.ensures c.as_slice.ensures.value c.reserve.ensures.items c.push_reserved.ensures.items in
    let P : Plain → List ℕ → Type 0 = λ r l. Keeps (with_rows s r) l fs s.effects s.rates in (
      subst (P (rows_seen c.add_expression.new.self)) (sym behind)
          (subst (λ r. P r (es ++ expression_depth es e ∷ [])) (sym c.in_ok-add_expression-in-Expression.ensures) (keeps_expression d es fs s.effects s.rates s.keeps e h)),
      tt,
    )

pub invariant_of-self-inside-in-Formula-2 : goal.invariant_of-self-inside-in-Formula-2
invariant_of-self-inside-in-Formula-2 c =
    let s = c.self.inside in
    let d = seen s in
    let es = vec_items s.expression_depths in
    let fs = vec_items s.formula_depths in
    let f = c.in-Formula.f in
    let h = passing s _ _ (plain.formula f) c.self.view_is (ap plain_entry c.in-Formula.is) c.requires in
    let behind = measured formula_depth f fs c.formula_depth-depth.ensures c.as_slice-in-Formula.ensures.value c.reserve-in-Formula.ensures.items c.push_reserved-in-Formula.ensures.items in
    let P : Plain → List ℕ → Type 0 = λ r l. Keeps (with_rows s r) es l s.effects s.rates in (
      subst (P (rows_seen c.add_formula.new.self)) (sym behind)
          (subst (λ r. P r (fs ++ formula_depth fs f ∷ [])) (sym c.in_ok-add_formula-in-Formula.ensures) (keeps_formula d es fs s.effects s.rates s.keeps f h)),
      tt,
    )

pub invariant_of-self-inside-in-Action-2 : goal.invariant_of-self-inside-in-Action-2
invariant_of-self-inside-in-Action-2 c =
    let s = c.self.inside in
    let d = seen s in
    let name = c.in-Action.name.now in
    let h = passing s _ _ (plain.action c.in-Action.condition name) c.self.view_is (ap plain_entry c.in-Action.is) c.requires in
    let n = ap (λ (l : List ℕ). record { name = l; condition = c.new.result.condition; effects = vec_items c.new.result.parts }) c.in_ok-name-in-Action.ensures.items in
    let e = n ∙ ap₂ (λ (n : ℕ) (l : List Effect). record { name = name; condition = n; effects = l }) c.new.ensures.condition c.new.ensures.parts in (
      subst (λ acts. KeepsBy s (owned owners.Action d (with_actions acts d.problem)))
          (sym (seen_push action_of (vec_items s.parts.actions) _ _ c.in_ok-push-in-Action.ensures.items e))
          (keeps_action d _ _ _ _ s.keeps c.in-Action.condition name h),
      tt,
    )

pub invariant_of-self-inside-in-Effect : goal.invariant_of-self-inside-in-Effect
invariant_of-self-inside-in-Effect c =
    let s = c.self.inside in
    let h = passing s _ _ (plain.effect c.in-Effect.e) c.self.view_is (ap plain_entry c.in-Effect.is) c.requires in
    let d = seen s in
    let e = c.in-Effect.e in
    let P : Problem → Type 0 = λ p. Keeps (grown d p) (vec_items s.expression_depths) (vec_items s.formula_depths) (s.effects + 1) s.rates in (
      subst (λ p. P (with_tick d.problem.tick (with_goal d.problem.goal p))) (sym c.in_ok-push_effect-in-Effect.ensures)
          (subst P (sym (effect_between d.problem.tick d.problem.goal s.owner e (parts_of s.parts))) (keeps_effect d _ _ _ _ s.keeps e h)),
      tt,
    )

pub invariant_of-self-inside-in-Rate : goal.invariant_of-self-inside-in-Rate
invariant_of-self-inside-in-Rate c =
    let s = c.self.inside in
    let h = passing s _ _ (plain.rate c.in-Rate.r) c.self.view_is (ap plain_entry c.in-Rate.is) c.requires in (
      subst (λ p. Keeps (with_parts s p) (vec_items s.expression_depths) (vec_items s.formula_depths) s.effects (s.rates + 1)) (sym c.in_ok-push_rate-in-Rate.ensures)
          (keeps_rate (seen s) _ _ _ _ s.keeps c.in-Rate.r h),
      tt,
    )
