use Rattle.std.proofs.Common.{◌≡◌, ◌≤◌, length}
use Rattle.records.specs.Loaded.{all_taken}
use Rattle.records.proofs.load.take_all.Given as goal

-- what is left comes to what the whole comes to
abbrev pub invariant-loop-left : goal.invariant-loop-left
invariant-loop-left l =
    (length l.left ≤ length l.bytes)
    × (all_taken (length l.left) (length l.bytes) l.draft.plain l.left ≡ all_taken (length l.bytes) (length l.bytes) l.initial.draft.plain l.bytes)

abbrev pub decreases-loop-left : goal.decreases-loop-left
decreases-loop-left l = length l.left
