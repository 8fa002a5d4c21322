use Rattle.calls.proofs.Digits.{sized}
use Rattle.calls.proofs.call.array_in.Goals as goal

pub returns : goal.returns
returns g c = let e = sized g.row.N c.args.word.now in record { value = cc }
