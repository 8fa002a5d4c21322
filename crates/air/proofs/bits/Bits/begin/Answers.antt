use Rattle.std.proofs.Common.{◌≡◌, ℕ, ◌*◌, ◌≤◌, eqb, length, sym, ap, ◌∙◌, arith, rules}
use Rattle.std.proofs.lemmas.Bool.Decides.{nat_tests}
use Rattle.air.specs.Bits.{bits_of, cut}
use Rattle.air.proofs.Cuts.{masked}
use Rattle.air.proofs.Resting.{too_many, compared}
use Rattle.air.proofs.bits.Bits.begin.Goals as goal

flipped : (a b x y : ℕ) → a ≡ x → b ≡ y → eqb a b ≡ eqb y x
flipped a b x y e f = grind (arith, nat_tests)

pub returns-then-self-gt40-clause-value : goal.returns-then-self-gt40-clause-value
returns-then-self-gt40-clause-value c =
    let x = c.number-all.result in
    let five : length c.args.level ≡ 5 = search rules in
    let all : bits_of c.args.level ≡ cut 2 40 x = c.number-all.ensures.bits ∙ ap (λ m. cut 2 (8 * m) x) five in
    sym (too_many c.args.level x all c.args.self c.if-self-gt40.true)

pub returns-clause-value : goal.returns-clause-value
returns-clause-value c =
    let given = c.args.self in
    let x = c.number-all.result in
    let five : length c.args.level ≡ 5 = search rules in
    let all : bits_of c.args.level ≡ cut 2 40 x = c.number-all.ensures.bits ∙ ap (λ m. cut 2 (8 * m) x) five in
    let few : given.count ≤ 40 = omega arith in
    let u = masked x given.count (omega arith) in
    let v = masked given.value given.count (omega arith) in
    flipped _ _ _ _ u v ∙ sym (compared c.args.level x all given few)
