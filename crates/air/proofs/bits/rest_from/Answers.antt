use Rattle.std.proofs.Common.{◌≡◌, ℕ, ◌-◌, ◌*◌, ◌/◌, ◌^◌, ◌<◌, List, [], ◌∷◌, length, get_or, sym, ap, ◌∙◌, arith, rules}
use Rattle.air.specs.declared.bits.Packed.{Packed}
use Rattle.air.specs.Bits.{bits_of, cut}
use Rattle.air.proofs.Resting.{five_bytes, the_rest}
use Rattle.air.proofs.bits.rest_from.Goals as goal

abbrev of_bytes : ℕ → List ℕ → Packed
of_bytes n l = record { count = 40 - n; bytes = l }

pub returns : goal.returns
returns c =
    let n = c.args.count in
    let x = c.number.result in
    let level = c.args.level in
    let five : length level ≡ 5 = search rules in
    let all : bits_of level ≡ cut 2 40 x = c.number.ensures.bits ∙ ap (λ m. cut 2 (8 * m) x) five in
    let lt : x < 2 ^ 40 = let b = c.number.ensures.below in let e = ap (λ m. 2 ^ (8 * m)) five in omega (arith, b, e) in
    let bytes = ap (λ l. get_or l 0 0 ∷ get_or l 1 0 ∷ get_or l 2 0 ∷ get_or l 3 0 ∷ get_or l 4 0 ∷ []) c.to_le_bytes.ensures ∙ five_bytes (x / 2 ^ n) in
    let laid = ap (of_bytes n) bytes in
    record { value = laid ∙ sym (the_rest level x all n lt (omega arith)) }
