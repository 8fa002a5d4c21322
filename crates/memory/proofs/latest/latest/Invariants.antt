use Rattle.std.proofs.Common.{◌≡◌}
use Rattle.memory.specs.Latest.{latest_of}
use Rattle.memory.proofs.latest.latest.Given as goal

-- what is not yet looked at tells what all of it tells
abbrev pub invariant-loop-record : goal.invariant-loop-record
invariant-loop-record l = latest_of l.record-iterator.iter.rest.now l.block ≡ latest_of l.records l.block
