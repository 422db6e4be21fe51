use Rattle.std.proofs.Common.{length}
use Rattle.record_cases.proofs.add_all.Given as goal

abbrev pub decreases-loop-left : goal.decreases-loop-left
decreases-loop-left l = length l.left
