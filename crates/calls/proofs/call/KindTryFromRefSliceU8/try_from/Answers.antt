use Rattle.std.proofs.Common.{rules, codes, sym, ap}
use Rattle.calls.specs.Call.{kind_in}
use Rattle.calls.proofs.Spelling.{spelled}
use Rattle.calls.proofs.call.KindTryFromRefSliceU8.try_from.Goals as goal

pub returns-in-picture : goal.returns-in-picture
returns-in-picture c = sym (ap kind_in (spelled c.args.word.now (codes "picture") (search rules)))
