use Rattle.records.proofs.Taken.{never_unsealed, surely_ok}
use Rattle.records.proofs.load.load_table.Goals as goal

pub unwrap-requires : goal.unwrap-requires
unwrap-requires c = surely_ok _ _ c.seal.result c.seal.ensures (λ _ q. never_unsealed _ c.load.new.draft.plain c.in_ok-load.ensures q.0)
