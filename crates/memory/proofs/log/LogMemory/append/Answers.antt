use Rattle.std.proofs.Common.{arith}
use Rattle.memory.proofs.Records.{appended}
use Rattle.memory.proofs.log.LogMemory.append.Goals as goal

pub returns-clause-after : goal.returns-clause-after
returns-clause-after c =
    let n = c.number.ensures.value in
    let a = appended c.args.self.now.places.now c.args.self.now.used (record { block = c.args.block; bytes = c.args.bytes }) (omega arith) (omega arith) in
    cc
