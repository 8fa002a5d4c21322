use Rattle.std.proofs.Common.{refl}
use Rattle.phone.specs.Cursors.{fresh}
use Rattle.phone.proofs.cursor.Cursor.new.Goals as goal

pub returns : goal.returns
unfolding fresh
returns c = record { value = refl }
