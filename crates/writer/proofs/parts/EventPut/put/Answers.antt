use Rattle.draft.specs.Entry.{effect}
use Rattle.writer.specs.Written.{encoded}
use Rattle.std.proofs.lemmas.List.Folds.{flat_map-map}
use Rattle.writer.proofs.parts.EventPut.put.Goals as goal

pub returns : goal.returns
returns c = rw (flat_map-map encoded effect _) c.put_owner.ensures
