-- Bits as digits of a number: taking, dropping and comparing them is dividing by powers of two.
use Rattle.std.proofs.Common.{◌≡◌, ℕ, zero, suc, ◌+◌, ◌-◌, ◌*◌, ◌/◌, ◌%◌, ◌^◌, ◌<◌, ◌≤◌, false, ◌&&◌, eqb, List, [], ◌∷◌, ◌++◌, length, get_or, take, drop, replicate, sym, refl, ap, ◌∙◌, add-one, one-add, arith}
use native.Mathlib.Nat.{two-pow-succ}
use lib.Bits.{bit_and, and_mask, block_half, block_odd}
use Rattle.std.proofs.lemmas.Nat.{shr-shr, mod-pow-add, pow-add, one_shl}
use Rattle.std.proofs.lemmas.Bool.{and_right}
use Rattle.std.proofs.lemmas.Bool.Decides.{nat_tests}
use Rattle.air.specs.declared.bits.Bits.{Bits}
use Rattle.air.specs.Bits.{cut, digits_worth, bits_of, begins, gathered}

pub length-cut : (b k x : ℕ) → length (cut b k x) ≡ k
length-cut b zero x = refl
length-cut b (suc k) x = ap suc (length-cut b k (x / b))

pub take-cut : (b k n x : ℕ) → n ≤ k → take n (cut b k x) ≡ cut b n x
take-cut b k zero x h = refl
take-cut b zero (suc n) x h = let w : ⊥ = omega arith in absurd w
take-cut b (suc k) (suc n) x h = ap (λ z. x % b ∷ z) (take-cut b k n (x / b) (omega arith))

none_cut : (k x : ℕ) → k ≡ 0 → cut 2 k x ≡ []
none_cut zero x h = refl
none_cut (suc k) x h = let w : ⊥ = omega arith in absurd w

pub drop-cut : (k n x : ℕ) → drop n (cut 2 k x) ≡ cut 2 (k - n) (x / 2 ^ n)
drop-cut k zero x =
    let a : k ≡ k - 0 = omega arith in
    let b : x ≡ x / 2 ^ 0 = omega arith in
    cc
drop-cut zero (suc n) x = sym (none_cut (0 - suc n) (x / 2 ^ suc n) (omega arith))
drop-cut (suc k) (suc n) x =
    let i = drop-cut k n (x / 2) in
    let s = shr-shr x 1 n in
    let a : k - n ≡ suc k - suc n = omega arith in
    let o = one-add n in
    cc

-- two runs of bits in one
pub cut_join : (j k x y : ℕ) → x < 2 ^ j → cut 2 j x ++ cut 2 k y ≡ cut 2 (j + k) (y * 2 ^ j + x)
cut_join zero k x y h =
    let a : k ≡ 0 + k = omega arith in
    let b : y ≡ y * 2 ^ 0 + x = omega arith in
    cc
cut_join (suc j) k x y h =
    let p = two-pow-succ j in
    let i = cut_join j k (x / 2) y (omega arith) in
    let e : suc j + k ≡ suc (j + k) = omega arith in
    let a = block_half y j x in
    let b = block_odd y j x in
    let r : cut 2 (suc j + k) (y * 2 ^ suc j + x) ≡ (y * 2 ^ suc j + x) % 2 ∷ cut 2 (j + k) ((y * 2 ^ suc j + x) / 2) = ap (λ m. cut 2 m (y * 2 ^ suc j + x)) e in
    cc

-- the bits of bytes are those of the number that the bytes write
pub bits_number : (bs : List ℕ) → ((i : ℕ) → get_or bs i 0 < 256) → bits_of bs ≡ cut 2 (8 * length bs) (digits_worth 256 bs)
bits_number [] h = refl
bits_number (b ∷ bs) h =
    let i = bits_number bs (λ i. h (suc i)) in
    let j = cut_join 8 (8 * length bs) b (digits_worth 256 bs) (h 0) in
    let e : 8 + 8 * length bs ≡ 8 * suc (length bs) = omega arith in
    cc

pub number_below : (bs : List ℕ) → ((i : ℕ) → get_or bs i 0 < 256) → digits_worth 256 bs < 2 ^ (8 * length bs)
number_below [] h = omega arith
number_below (b ∷ bs) h =
    let i = number_below bs (λ i. h (suc i)) in
    let z = h 0 in
    let p = pow-add 2 (8 * length bs) 8 in
    let e : 8 * length bs + 8 ≡ 8 * suc (length bs) = omega arith in
    let q : 2 ^ (8 * suc (length bs)) ≡ 2 ^ (8 * length bs) * 256 = ap (λ m. 2 ^ m) (sym e) ∙ p in
    omega (arith, q, i, z)

pub digits_worth-cut : (k x : ℕ) → digits_worth 2 (cut 2 k x) ≡ x % 2 ^ k
digits_worth-cut zero x = omega arith
digits_worth-cut (suc k) x =
    let i = digits_worth-cut k (x / 2) in
    let m = mod-pow-add x k 1 in
    let o = add-one k in
    let e : x % 2 ^ suc k ≡ x / 2 % 2 ^ k * 2 + x % 2 = cc in
    cc

pub begins-cut : (n k x y : ℕ) → n ≤ k → begins (cut 2 n x) (cut 2 k y) ≡ eqb (x % 2 ^ n) (y % 2 ^ n)
begins-cut zero k x y h = let a : x % 2 ^ 0 ≡ 0 = omega arith in let b : y % 2 ^ 0 ≡ 0 = omega arith in cc
begins-cut (suc n) zero x y h = let w : ⊥ = omega arith in absurd w
begins-cut (suc n) (suc k) x y h =
    let i = begins-cut n k (x / 2) (y / 2) (omega arith) in
    let mx = mod-pow-add x n 1 in
    let my = mod-pow-add y n 1 in
    let o = add-one n in
    let ex : x % 2 ^ suc n ≡ x / 2 % 2 ^ n * 2 + x % 2 = cc in
    let ey : y % 2 ^ suc n ≡ y / 2 % 2 ^ n * 2 + y % 2 = cc in
    ap (λ t. eqb (x % 2) (y % 2) && t) i ∙ grind (arith, nat_tests)

-- more bits begin nothing
pub begins_longer : (n k x y : ℕ) → k < n → begins (cut 2 n x) (cut 2 k y) ≡ false
begins_longer zero k x y h = let w : ⊥ = omega arith in absurd w
begins_longer (suc n) zero x y h = refl
begins_longer (suc n) (suc k) x y h = and_right (eqb (x % 2) (y % 2)) _ (begins_longer n k (x / 2) (y / 2) (omega arith))

pub masked : (x n : ℕ) → n < 64 → bit_and x ((1 * 2 ^ n) % 18446744073709551616 - 1) ≡ x % 2 ^ n
masked x n h = ap (λ m. bit_and x (m - 1)) (one_shl n 64 h) ∙ and_mask x n

-- the first bits of bytes, as the code keeps them
pub gathered_is : (bs : List ℕ) (y n : ℕ) → bits_of bs ≡ cut 2 (8 * length bs) y → n ≤ 8 * length bs
    → ◌≡◌ {A = Bits} (record { count = n; value = y % 2 ^ n }) (gathered (take n (bits_of bs)))
gathered_is bs y n a h =
    let t = take-cut 2 (8 * length bs) n y h in
    let e : take n (bits_of bs) ≡ cut 2 n y = ap (take n) a ∙ t in
    let l = length-cut 2 n y in
    let w = digits_worth-cut n y in
    cc

-- up to eight bytes, filled up with zeros
abbrev sum_of_eight : List ℕ → ℕ
sum_of_eight xs =
    get_or xs 0 0 + get_or xs 1 0 * 256 + get_or xs 2 0 * 65536 + get_or xs 3 0 * 16777216 + get_or xs 4 0 * 4294967296 + get_or xs 5 0 * 1099511627776
    + get_or xs 6 0 * 281474976710656 + get_or xs 7 0 * 72057594037927936

pub filled_up : (bs : List ℕ) → length bs ≤ 8 → sum_of_eight (bs ++ drop (length bs) (replicate 8 0)) ≡ digits_worth 256 bs
filled_up [] h = refl
filled_up (a ∷ []) h = omega arith
filled_up (a ∷ b ∷ []) h = omega arith
filled_up (a ∷ b ∷ c ∷ []) h = omega arith
filled_up (a ∷ b ∷ c ∷ d ∷ []) h = omega arith
filled_up (a ∷ b ∷ c ∷ d ∷ e ∷ []) h = omega arith
filled_up (a ∷ b ∷ c ∷ d ∷ e ∷ f ∷ []) h = omega arith
filled_up (a ∷ b ∷ c ∷ d ∷ e ∷ f ∷ g ∷ []) h = omega arith
filled_up (a ∷ b ∷ c ∷ d ∷ e ∷ f ∷ g ∷ p ∷ []) h = omega arith
filled_up (a ∷ b ∷ c ∷ d ∷ e ∷ f ∷ g ∷ p ∷ q ∷ r) h = let w : ⊥ = omega arith in absurd w
