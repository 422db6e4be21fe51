use Rattle.draft.specs.Entry.{rate}
use Rattle.writer.specs.Written.{encoded}
use Rattle.std.proofs.lemmas.List.Folds.{flat_map-map}
use Rattle.writer.proofs.parts.ProcessPut.put.Goals as goal

pub returns : goal.returns
returns c = rw (flat_map-map encoded rate _) c.put_owner.ensures
