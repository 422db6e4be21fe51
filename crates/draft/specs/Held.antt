-- What a contract sees of a draft: the plain record, of which nearly all contracts speak, what holds it, and what is true of both.
use Rattle.std.specs.Prelude.{ℕ, Vec}
use Rattle.std.specs.declared.alloc.Global.{Global}
use Rattle.table.specs.declared.contents.Parts.{Parts}
use Rattle.draft.specs.Draft.{Draft}
use Rattle.draft.specs.Kept.{Keeps}

-- drafts that are equal are the same in all that they hold, the capacity of each vector too
pub record Held : Type 0 where
  pub plain : Draft
  pub parts : Parts
  pub expression_depths : Vec ℕ Global
  pub formula_depths : Vec ℕ Global
  pub effects : ℕ
  pub rates : ℕ
  pub keeps : Keeps plain expression_depths.items formula_depths.items effects rates
