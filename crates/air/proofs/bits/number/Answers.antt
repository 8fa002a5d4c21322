use Rattle.std.proofs.Common.{◌≡◌, ◌*◌, length, sym, ap, ◌∙◌, arith}
use Rattle.air.specs.Bits.{cut, digits_worth}
use Rattle.air.proofs.Cuts.{filled_up, bits_number, number_below}
use Rattle.air.proofs.bits.number.Goals as goal

pub returns : goal.returns
returns c =
    let bs = c.args.bytes.now in
    let e = filled_up bs c.requires in
    let f = c.from_le_bytes.ensures in
    let g = c.copy_from_slice.ensures.after in
    let r : c.from_le_bytes.result ≡ digits_worth 256 bs = cc in
    let l = number_below bs (λ i. (c.type_inv.bytes i).fits) in
    record { bits = bits_number bs (λ i. (c.type_inv.bytes i).fits) ∙ ap (cut 2 (8 * length bs)) (sym r); below = omega (arith, r, l) }
