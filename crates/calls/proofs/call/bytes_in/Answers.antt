use Rattle.std.proofs.Common.{rules, ◌≡◌, None, sym, ap, ◌∙◌, inl, inr}
use Rattle.std.specs.Option.{ok_or}
use Rattle.std.specs.Result.{result_ok}
use Rattle.calls.specs.declared.expected.Expected.TheVariants.{Frame}
use Rattle.calls.specs.Hex.{written}
use Rattle.calls.proofs.Digits.{unwritten, whole}
use Rattle.calls.proofs.call.bytes_in.Goals as goal

pub returns-then-not-are_digits : goal.returns-then-not-are_digits
returns-then-not-are_digits c =
    record { reads = sym (ap (λ z. ok_or z Frame) (unwritten c.args.word.now (sym c.are_digits.ensures.value ∙ c.if-not-are_digits.true))) }

pub returns-in-Ok : goal.returns-in-Ok
returns-in-Ok c = record { reads = sym (ap (λ z. ok_or z Frame) (whole c.args.word.now ∙ ap result_ok c.in-Ok.ensures.ok)) }

pub returns-in-Err : goal.returns-in-Err
returns-in-Err c =
    let n : written c.args.word.now ≡ None =
    elim c.in-Err.ensures.err [ inl h ↦ absurd (search rules) | inr h ↦ whole c.args.word.now ∙ ap result_ok h ] in
    record { reads = sym (ap (λ z. ok_or z Frame) n) }
