use Rattle.std.proofs.Common.{take, arith}
use Rattle.memory.proofs.Records.{block_at}
use Rattle.memory.proofs.log.LogMemory.block_by.Goals as goal

pub returns : goal.returns
returns c =
    let n = c.number.ensures.value in
    let e = block_at (take c.args.self.now.used c.args.self.now.places.now) c.args.block (omega arith) in
    let l = c.latest.ensures.value in
    let v = c.unwrap_or.ensures in
    record { value = cc }
