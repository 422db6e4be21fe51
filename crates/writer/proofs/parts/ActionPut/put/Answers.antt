use Rattle.draft.specs.Entry.{effect}
use Rattle.writer.specs.Written.{encoded}
use Rattle.std.proofs.lemmas.List.Folds.{flat_map-map}
use Rattle.writer.proofs.parts.ActionPut.put.Goals as goal

pub returns : goal.returns
returns c = rw (flat_map-map encoded effect _) (rw c.as_slice.ensures.value at c.put_owner.ensures)
