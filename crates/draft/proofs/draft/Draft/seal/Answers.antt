use Rattle.std.proofs.Common.{rules, ◌≡◌, ap, ◌∙◌}
use Rattle.std.proofs.Props.{props}
use Rattle.draft.specs.Held.{Held}
use Rattle.draft.specs.Kept.{Keeps}
use Rattle.draft.specs.Seen.{seen, held}
use Rattle.draft.specs.declared.draft.Draft.TheInside.{Inside}
use Rattle.draft.proofs.draft.Draft.seal.Goals as goal

module _ (s : Inside) where
  abbrev Kept : Type 0
  Kept = Keeps (seen s) s.expression_depths.items s.formula_depths.items s.effects s.rates

  -- a draft of these fields, whatever proves what is true of them
  abbrev holding : Kept → Held
  holding k =
      record {
        plain = seen s;
        parts = s.parts;
        expression_depths = s.expression_depths;
        formula_depths = s.formula_depths;
        effects = s.effects;
        rates = s.rates;
        keeps = k;
      }

  -- there is one such proof, so it is the same draft
  held_same : (d : Held) → held s ≡ d → (k : Kept) → holding k ≡ d
  held_same d v k = let one : IsProp Kept = hlevel props in ap holding (one k s.keeps) ∙ v

-- a body that hands back the draft with its fields set anew to what they are is to be proved as the one that does not touch it
pub returns-in_default : goal.returns-in_default
returns-in_default c = (search rules, search (rules, held_same c.self.inside c.args.self c.self.view_is))
