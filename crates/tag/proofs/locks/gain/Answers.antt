use Rattle.std.proofs.Common.{◌/◌, arith}
use lib.Bits.{and_mask}
use Rattle.std.proofs.lemmas.Bool.Decides.{nat_tests}
use Rattle.tag.proofs.locks.gain.Goals as goal

pub returns : goal.returns
returns c =
    let x = and_mask c.args.old 1 in
    let y = and_mask (c.args.old / 2) 1 in
    let z = and_mask (c.args.old / 4) 1 in
    record { value = grind (arith, nat_tests) }
