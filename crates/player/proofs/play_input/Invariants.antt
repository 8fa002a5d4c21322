use Rattle.std.proofs.Common.{◌+◌, is_some, cond}
use Rattle.player.specs.Input.{lines_left}
use Rattle.player.proofs.play_input.Given as goal

-- the line at hand is still to be played
abbrev pub decreases-loop-line : goal.decreases-loop-line
decreases-loop-line l = cond (is_some l.line) (lines_left l.input + 1) 0
