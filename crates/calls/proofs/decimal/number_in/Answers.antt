use Rattle.std.proofs.Common.{sym, ◌∙◌, arith}
use Rattle.std.proofs.lemmas.Bool.{cond-false}
use Rattle.calls.proofs.Numbers.{digit_on, none_on, no_digit_left}
use Rattle.calls.proofs.decimal.number_in.Goals as goal

pub returns-in_err-n : goal.returns-in_err-n
returns-in_err-n c =
    let e = none_on _ _ (digit_on c.loop-digit.n c.args.word.now c.loop-digit.digit-index _ _ (omega arith) c.in_err-n.ensures.value c.loop-digit.invariant) in
    record { value = c.from_residual.ensures ∙ e ∙ sym (cond-false _ _ _ (sym c.if-is_empty.ensures)) }

pub loop-digit-preserved : goal.loop-digit-preserved
loop-digit-preserved c = digit_on c.loop-digit.n c.args.word.now c.loop-digit.digit-index _ _ (omega arith) c.in_ok-n.ensures.value c.loop-digit.invariant

pub returns : goal.returns
returns c =
    let e = no_digit_left c.loop-digit.n c.args.word.now c.loop-digit.digit-index _ (omega arith) c.loop-digit.invariant in
    record { value = e ∙ sym (cond-false _ _ _ (sym c.if-is_empty.ensures)) }
