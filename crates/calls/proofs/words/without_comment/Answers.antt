use Rattle.std.proofs.Common.{rules}
use Rattle.calls.specs.Words.{uncommented}
use Rattle.calls.proofs.words.without_comment.Goals as goal

pub returns : goal.returns
unfolding uncommented
returns c = search rules
