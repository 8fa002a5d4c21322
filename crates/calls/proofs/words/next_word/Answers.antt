use Rattle.std.proofs.Common.{rules}
use Rattle.calls.specs.Words.{first, rest}
use Rattle.calls.proofs.words.next_word.Goals as goal

pub returns : goal.returns
unfolding first rest
returns c = search rules
