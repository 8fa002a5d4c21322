use Rattle.std.proofs.Common.{arith}
use Rattle.memory.proofs.Fours.{zeros_at}
use Rattle.memory.proofs.picture.PictureMemoryMemory.read.Goals as goal

pub returns-in-None : goal.returns-in-None
returns-in-None c = record { value = grind (arith, zeros_at) }
