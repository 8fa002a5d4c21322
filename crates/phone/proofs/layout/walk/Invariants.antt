use Rattle.std.proofs.Common.{◌≡◌, length}
use Rattle.phone.specs.Layout.{walk_over, walked}
use Rattle.phone.proofs.layout.walk.Given as goal

-- what is left gives what the whole gives
abbrev pub invariant-loop-message : goal.invariant-loop-message
invariant-loop-message l = (walk_over l.cursor.picture l.cursor.end l.cursor.left).answer ≡ (walked l.picture).answer

abbrev pub decreases-loop-message : goal.decreases-loop-message
decreases-loop-message l = length l.cursor.left
