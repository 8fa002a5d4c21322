use Rattle.std.proofs.Common.{ℕ, List, ◌++◌, drop, replicate, ap, ◌∙◌}
use Rattle.pictures.proofs.Padding.{filled}
use Rattle.pictures.proofs.padded_picture.Goals as goal

pub returns : goal.returns
returns c = record { value = ap (λ (t : List ℕ). t ++ drop c.min-n.result (replicate 256 0)) c.copy_from_slice.ensures.after ∙ filled c.args.bytes.now c.min-n.result c.min-n.ensures }
