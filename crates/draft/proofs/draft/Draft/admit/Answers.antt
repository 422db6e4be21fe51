use Rattle.std.proofs.Common.{sym}
use Rattle.draft.proofs.Kept.{passes}
use Rattle.draft.proofs.draft.Draft.admit.Goals as goal

pub enter-requires : goal.enter-requires
enter-requires c = passes c.args.self.now.plain _ c.requires.stands c.requires.room (sym c.in_ok-ask_entry.ensures)
