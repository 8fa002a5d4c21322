use Rattle.std.proofs.Common.{◌≡◌, string_bytes, sym, ◌∙◌, arith}
use Rattle.std.proofs.lemmas.Result.{IfOk-weaker}
use Rattle.hex.specs.Hex.{encode_upper}
use Rattle.answers.specs.Hex.{hex}
use Rattle.answers.proofs.Encoding.{shown}
use Rattle.answers.proofs.digits.Goals as goal

pub returns : goal.returns
returns c =
    let e = shown c.args.bytes.now (λ i. let f = c.type_inv.bytes i in omega arith) (sym c.is_empty.ensures ∙ c.if-is_empty.false) in
    record { made = IfOk-weaker c.encode_upper.result (λ s. string_bytes s ≡ encode_upper c.args.bytes.now) (λ s. string_bytes s ≡ hex c.args.bytes.now) (λ s h. h ∙ e) c.encode_upper.ensures }
