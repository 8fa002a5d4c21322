use Rattle.std.proofs.Common.{arith}
use Rattle.phone.proofs.Putting.{put_mid-over}
use Rattle.phone.proofs.listing.put_line.Goals as goal

pub returns-clause-after : goal.returns-clause-after
returns-clause-after c =
    let l = c.told-line in
    put_mid-over c.args.out.now c.args.line.now _ c.args.at _ c.copy_from_slice.ensures.after (omega arith)
