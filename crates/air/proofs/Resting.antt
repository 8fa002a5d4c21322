-- The rest of a level's bits, by the number that its bytes write.
use Rattle.std.proofs.Common.{◌≡◌, ℕ, zero, suc, ◌+◌, ◌-◌, ◌*◌, ◌/◌, ◌%◌, ◌^◌, ◌<◌, ◌≤◌, false, eqb, List, [], ◌∷◌, ◌++◌, length, get_or, drop, replicate, refl, ap, ◌∙◌, append-nil, mod-eq_of_lt, arith}
use Rattle.std.proofs.lemmas.Nat.{shr_below, div-add-mod'}
use Rattle.air.specs.declared.bits.Bits.{Bits}
use Rattle.air.specs.Bits.{cut, digits_worth, bits_of, begins, spread, packed, Packing}
use Rattle.air.proofs.Cuts.{cut_join, length-cut, drop-cut, digits_worth-cut, begins-cut, begins_longer}

-- the five lowest bytes of a number
pub five_bytes : (x : ℕ) → x % 256 ∷ x / 256 % 256 ∷ x / 65536 % 256 ∷ x / 16777216 % 256 ∷ x / 4294967296 % 256 ∷ [] ≡ cut 256 5 x
five_bytes x =
    let a : x / 65536 ≡ x / 256 / 256 = omega arith in
    let b : x / 16777216 ≡ x / 256 / 256 / 256 = omega arith in
    let c : x / 4294967296 ≡ x / 256 / 256 / 256 / 256 = omega arith in
    cc

module _ (level : List ℕ) (x : ℕ) (all : bits_of level ≡ cut 2 40 x) where
  pub too_many : (given : Bits) → 40 < given.count → begins (spread given) (bits_of level) ≡ false
  too_many given h = ap (begins (spread given)) all ∙ begins_longer given.count 40 given.value x h

  pub compared : (given : Bits) → given.count ≤ 40 → begins (spread given) (bits_of level) ≡ eqb (given.value % 2 ^ given.count) (x % 2 ^ given.count)
  compared given h = ap (begins (spread given)) all ∙ begins-cut given.count 40 given.value x h

  pub the_rest : (n : ℕ) → x < 2 ^ 40 → n ≤ 40 → packed (drop n (bits_of level)) ≡ record { count = 40 - n; bytes = cut 256 5 (x / 2 ^ n) }
  the_rest n lt h =
      let r : drop n (bits_of level) ≡ cut 2 (40 - n) (x / 2 ^ n) = ap (drop n) all ∙ drop-cut 40 n x in
      let back : 40 ≡ (40 - n) + n = omega arith in
      let p = ap (λ m. 2 ^ m) back in
      let below = shr_below x (40 - n) n (omega (arith, p, lt)) in
      let w = digits_worth-cut (40 - n) (x / 2 ^ n) ∙ mod-eq_of_lt below in
      let l = length-cut 2 (40 - n) (x / 2 ^ n) in
      cc

-- bytes cut from a number have the bits cut from it
bits_cut : (k x : ℕ) → bits_of (cut 256 k x) ≡ cut 2 (8 * k) x
bits_cut zero x = refl
bits_cut (suc k) x =
    let i = bits_cut k (x / 256) in
    let j = cut_join 8 (8 * k) (x % 256) (x / 256) (omega arith) in
    let d = div-add-mod' x 256 in
    let e : 8 + 8 * k ≡ 8 * suc k = omega arith in
    cc

zero_bits : (m : ℕ) → cut 2 m 0 ≡ replicate m 0
zero_bits zero = refl
zero_bits (suc m) = ap (λ t. 0 ∷ t) (zero_bits m)

-- the bits that a number was made of come back, with zeros above
cut-digits_worth : (bs : List ℕ) (m : ℕ) → ((i : ℕ) → get_or bs i 0 < 2) → length bs ≤ m → cut 2 m (digits_worth 2 bs) ≡ bs ++ replicate (m - length bs) 0
cut-digits_worth [] m h l = zero_bits m ∙ ap (λ n. replicate n 0) (let e : m ≡ m - 0 = omega arith in e)
cut-digits_worth (x ∷ xs) zero h l = let w : ⊥ = omega arith in absurd w
cut-digits_worth (x ∷ xs) (suc m) h l =
    let i = cut-digits_worth xs m (λ i. h (suc i)) (omega arith) in
    let z = h 0 in
    let a : (digits_worth 2 xs * 2 + x) % 2 ≡ x = omega (arith, z) in
    let b : (digits_worth 2 xs * 2 + x) / 2 ≡ digits_worth 2 xs = omega (arith, z) in
    let e : m - length xs ≡ suc m - suc (length xs) = omega arith in
    cc

pub packs : Packing
packs = record {
  back = λ bs h.
      let none : length bs - length bs ≡ 0 = omega arith in
      cut-digits_worth bs (length bs) h (omega arith) ∙ ap (λ n. bs ++ replicate n 0) none ∙ append-nil bs;
  laid = λ bs h l. bits_cut 5 (digits_worth 2 bs) ∙ cut-digits_worth bs 40 h l;
}
