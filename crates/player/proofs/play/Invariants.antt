use Rattle.std.proofs.Common.{◌≤◌}
use Rattle.player.specs.Input.{lines_left}
use Rattle.player.proofs.play.Given as goal

abbrev pub invariant-loop-tag : goal.invariant-loop-tag
invariant-loop-tag g l = lines_left l.input ≤ lines_left l.fn.input

abbrev pub decreases-loop-tag : goal.decreases-loop-tag
decreases-loop-tag g l = lines_left l.input
