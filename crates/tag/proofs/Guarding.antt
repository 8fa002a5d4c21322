-- Lock bits and their guards, bit by bit: the mask of the bits that no guard shuts is looked at in all of its cases.
use Rattle.std.proofs.Common.{◌≡◌, ℕ, zero, suc, ◌-◌, ◌*◌, ◌/◌, ◌%◌, ◌^◌, ◌<◌, min, max, Bool, true, cond, ◌&&◌, eqb, leb, refl, ap, ◌∙◌, arith}
use lib.Bits.{bit_and, bit_or, and_step, or_step, and_shr, or_shr}
use Rattle.std.proofs.lemmas.Bool.Decides.{nat_tests, Decides-below_and, Decides-eqb}
use Rattle.tag.specs.Locks.{bit, shut, Guards}

pub bit-or : (a b k : ℕ) → bit (bit_or a b) k ≡ max (bit a k) (bit b k)
bit-or a b k = let s = or_step (a / 2 ^ k) (b / 2 ^ k) in ap (λ x. x % 2) (or_shr a b k) ∙ omega (arith, s)

bit-and : (a b k : ℕ) → bit (bit_and a b) k ≡ min (bit a k) (bit b k)
bit-and a b k = let s = and_step (a / 2 ^ k) (b / 2 ^ k) in ap (λ x. x % 2) (and_shr a b k) ∙ omega (arith, s)

-- the bits left free by the guards x, y and z
abbrev free : ℕ → ℕ → ℕ → ℕ
free x y z = 0xffff - bit_or (bit_or (x * 0x0008) (y * 0x03f0)) (z * 0xfc00)

abbrev is_free : ℕ → ℕ → ℕ → ℕ → ℕ
is_free x y z k = cond (eqb k 3) (1 - x) (cond (leb 4 k && leb k 9) (1 - y) (cond (leb 10 k && leb k 15) (1 - z) 1))

all_below : ℕ → ℕ → ℕ → ℕ → Bool
all_below x y z zero = true
all_below x y z (suc n) = eqb (bit (free x y z) n) (is_free x y z n) && all_below x y z n

each : (x y z : ℕ) → all_below x y z 16 ≡ true → (k : ℕ) → k < 16 → bit (free x y z) k ≡ is_free x y z k
unfolding all_below
each x y z e k h =
    (Decides-below_and (λ n. eqb (bit (free x y z) n) (is_free x y z n)) (λ n. bit (free x y z) n ≡ is_free x y z n) (all_below x y z)
    (λ n. Decides-eqb (bit (free x y z) n) (is_free x y z n)) refl (λ _. refl) 16).0 e k h

-- each of the three guards set or not, and each of the sixteen bits
free_bits : (x y z k : ℕ) → x < 2 → y < 2 → z < 2 → k < 16 → bit (free x y z) k ≡ is_free x y z k
unfolding all_below
free_bits zero zero zero k hx hy hz h = each 0 0 0 refl k h
free_bits zero zero (suc zero) k hx hy hz h = each 0 0 1 refl k h
free_bits zero (suc zero) zero k hx hy hz h = each 0 1 0 refl k h
free_bits zero (suc zero) (suc zero) k hx hy hz h = each 0 1 1 refl k h
free_bits (suc zero) zero zero k hx hy hz h = each 1 0 0 refl k h
free_bits (suc zero) zero (suc zero) k hx hy hz h = each 1 0 1 refl k h
free_bits (suc zero) (suc zero) zero k hx hy hz h = each 1 1 0 refl k h
free_bits (suc zero) (suc zero) (suc zero) k hx hy hz h = each 1 1 1 refl k h
free_bits (suc (suc x)) y z k hx hy hz h = let w : ⊥ = omega arith in absurd w
free_bits zero (suc (suc y)) z k hx hy hz h = let w : ⊥ = omega arith in absurd w
free_bits (suc zero) (suc (suc y)) z k hx hy hz h = let w : ⊥ = omega arith in absurd w
free_bits zero zero (suc (suc z)) k hx hy hz h = let w : ⊥ = omega arith in absurd w
free_bits zero (suc zero) (suc (suc z)) k hx hy hz h = let w : ⊥ = omega arith in absurd w
free_bits (suc zero) zero (suc (suc z)) k hx hy hz h = let w : ⊥ = omega arith in absurd w
free_bits (suc zero) (suc zero) (suc (suc z)) k hx hy hz h = let w : ⊥ = omega arith in absurd w

pub guards : Guards
guards old carried k h =
    let o = free_bits (old % 2) (old / 2 % 2) (old / 4 % 2) k (omega arith) (omega arith) (omega arith) h in
    let p = bit-or old (bit_and carried (0xffff - shut old)) k in
    let q = bit-and carried (0xffff - shut old) k in
    let b0 : bit old 0 ≡ old % 2 = omega arith in
    let cb : bit carried k < 2 = omega arith in
    let ob : bit old k < 2 = omega arith in
    p ∙ ap (max (bit old k)) (q ∙ ap (min (bit carried k)) o) ∙ grind (arith, nat_tests)
