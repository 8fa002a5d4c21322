use Rattle.std.proofs.Common.{sym, ◌∙◌}
use Rattle.memory.proofs.Records.{found, passed, none_left}
use Rattle.memory.proofs.latest.latest.Goals as goal

pub returns-then-record-block : goal.returns-then-record-block
returns-then-record-block c =
    let s = c.in-Some.ensures.steps in
    record { value = sym (found _ _ c.in-Some.record.now c.args.block s c.if-record-block.true) ∙ c.loop-record.invariant }

pub loop-record-preserved : goal.loop-record-preserved
loop-record-preserved c =
    let s = c.in-Some.ensures.steps in
    sym (passed _ _ c.in-Some.record.now c.args.block s c.if-record-block.false) ∙ c.loop-record.invariant

pub returns : goal.returns
returns c =
    let s = c.in-None.ensures.steps in
    record { value = sym (none_left _ c.args.block s.0) ∙ c.loop-record.invariant }
