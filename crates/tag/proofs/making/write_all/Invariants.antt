use Rattle.std.proofs.Common.{◌≡◌, ◌+◌, take}
use Rattle.tag.specs.Making.{made_blocks}
use Rattle.tag.proofs.making.write_all.Given as goal

abbrev pub invariant-loop-block : goal.invariant-loop-block
invariant-loop-block g l =
    let m = g.M.Memory.holds l.memory in
    (m.left + l.block ≡ (g.M.Memory.holds l.initial.memory).left) × (take l.block m.blocks ≡ take l.block (made_blocks l.identity))
