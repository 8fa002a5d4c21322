use Rattle.std.proofs.Common.{ap, ◌∙◌}
use Rattle.phone.specs.Cursors.{leaving, rest}
use Rattle.phone.proofs.Addresses.{rest-drop}
use Rattle.phone.proofs.cursor.Cursor.pass.Goals as goal

pub loop-preserved : goal.loop-preserved
loop-preserved c =
    let o = c.args.self.now in
    c.take.ensures.after ∙ ap (λ a. leaving a (rest a.left)) c.loop.invariant ∙ ap (leaving o) (rest-drop c.loop.counter o.left)
