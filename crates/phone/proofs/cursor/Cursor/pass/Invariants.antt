use Rattle.std.proofs.Common.{◌≡◌, drop}
use Rattle.phone.specs.Cursors.{leaving}
use Rattle.phone.proofs.cursor.Cursor.pass.Given as goal

abbrev pub invariant-loop : goal.invariant-loop
invariant-loop l = l.self ≡ leaving l.initial.self (drop l.counter l.initial.self.left)
