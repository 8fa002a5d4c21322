use Rattle.std.proofs.Common.{rules, codes, sym, ap, ◌∙◌}
use Rattle.calls.specs.Call.{call_in}
use Rattle.calls.proofs.Spelling.{spelled}
use Rattle.calls.proofs.call.call_in.Goals as goal

pub returns-in-frame : goal.returns-in-frame
returns-in-frame c = rw (spelled c.args.call.now (codes "frame") (search rules)) c.frame_in.ensures

pub returns-in_ok-at_end-in-memory : goal.returns-in_ok-at_end-in-memory
returns-in_ok-at_end-in-memory c =
    let e = ap (λ w. call_in w c.args.text.now) (spelled c.args.call.now (codes "memory") (search rules)) in
    record { reads = c.in_ok-at_end-in-memory.ensures.value ∙ sym e }

pub returns-in_err-at_end-in-memory : goal.returns-in_err-at_end-in-memory
returns-in_err-at_end-in-memory c =
    let e = spelled c.args.call.now (codes "memory") (search rules) in
    rw e (search rules)
