use Rattle.std.proofs.Common.{◌+◌, ◌*◌, ◌≤◌, length}
use Rattle.phone.specs.Layout.{walk_over}
use Rattle.phone.specs.Listing.{text}
use Rattle.phone.proofs.Lines.{Stands}
use Rattle.phone.proofs.listing.put_walk.Given as goal

abbrev pub invariant-loop-tlv : goal.invariant-loop-tlv
invariant-loop-tlv l = record {
  stands : Stands l.out l.at (walk_over l.cursor.picture l.cursor.end l.cursor.left) l.initial.out (text (walk_over l.initial.cursor.picture l.initial.cursor.end l.initial.cursor.left));
  room : l.at + 13 * (length l.cursor.left + 1) ≤ 13 * (length l.initial.cursor.left + 1);
}

abbrev pub decreases-loop-tlv : goal.decreases-loop-tlv
decreases-loop-tlv l = length l.cursor.left
