use Rattle.std.proofs.Common.{◌≡◌, ◌<◌, ap, ◌∙◌, arith}
use Rattle.memory.specs.Memory.{written}
use Rattle.tag.proofs.Filling.{one_more, all_written}
use Rattle.tag.proofs.making.write_all.Goals as goal

pub loop-block-preserved : goal.loop-block-preserved
loop-block-preserved g c =
    let holds = g.M.Memory.holds in
    let m = holds c.loop-block.memory in
    let b = c.loop-block.block in
    let inv = c.loop-block.invariant in
    let some : 0 < m.left = omega (arith, inv.0, c.requires, c.loop-block-test.true) in
    let w : holds c.write.new.self ≡ written m b c.made_block.result = c.in_ok-write.ensures.after in
    let k = one_more m b c.loop-block-test.true some (holds c.write.new.self) c.args.identity.now (g.M.Memory.whole c.loop-block.memory)
    (w ∙ ap (written m b) c.made_block.ensures.value) inv.1 in
    (omega (arith, inv.0, k.0), k.1)

pub returns-clause-after : goal.returns-clause-after
returns-clause-after g c =
    let holds = g.M.Memory.holds in
    let inv = c.loop-block.invariant in
    all_written (holds c.args.memory.now) (holds c.loop-block.memory) c.loop-block.block c.args.identity.now (omega arith) inv.0 inv.1
    (g.M.Memory.whole c.loop-block.memory)
