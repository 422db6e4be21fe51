-- The draft that the code's draft stands for, and all that a contract sees of it.
use Rattle.draft.specs.Draft.{Draft}
use Rattle.draft.specs.Drafted.{drafted}
use Rattle.draft.specs.Held.{Held}
use Rattle.draft.specs.declared.draft.Draft.TheInside.{Inside}

abbrev pub seen : Inside → Draft
seen d = drafted d.tick d.parts d.goal d.owner

abbrev pub held : Inside → Held
held d =
    record {
      plain = seen d;
      parts = d.parts;
      expression_depths = d.expression_depths;
      formula_depths = d.formula_depths;
      effects = d.effects;
      rates = d.rates;
      keeps = d.keeps;
    }
