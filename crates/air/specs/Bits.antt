-- Bits of bytes, lowest first.
use Rattle.std.specs.Prelude.{◌≡◌, ℕ, zero, suc, ◌+◌, ◌-◌, ◌*◌, ◌/◌, ◌%◌, ◌<◌, ◌≤◌, Bool, true, false, cond, ◌&&◌, List, [], ◌∷◌, ◌++◌, length, drop, replicate, Some, None, Option, ◌==◌, slice_index}
use Rattle.air.specs.declared.bits.Bits.{Bits}
use Rattle.air.specs.declared.bits.Packed.{Packed}

-- k digits of n in base b, lowest first
abbrev pub cut : ℕ → ℕ → ℕ → List ℕ
cut b zero n = []
cut b (suc k) n = n % b ∷ cut b k (n / b)

-- the number that digits write, lowest first
abbrev pub digits_worth : ℕ → List ℕ → ℕ
digits_worth b [] = 0
digits_worth b (x ∷ xs) = digits_worth b xs * b + x

-- the bits of bytes
abbrev pub bits_of : List ℕ → List ℕ
bits_of [] = []
bits_of (x ∷ xs) = cut 2 8 x ++ bits_of xs

-- the first list begins the second
abbrev pub begins : List ℕ → List ℕ → Bool
begins [] ys = true
begins (x ∷ xs) [] = false
begins (x ∷ xs) (y ∷ ys) = x == y && begins xs ys

-- bits as the code keeps them, and back
abbrev pub gathered : List ℕ → Bits
gathered bs = record { count = length bs; value = digits_worth 2 bs }

abbrev pub spread : Bits → List ℕ
spread b = cut 2 b.count b.value

-- bits packed from bit 0 on, into five bytes with zeros above
abbrev pub packed : List ℕ → Packed
packed bs = record { count = length bs; bytes = cut 256 5 (digits_worth 2 bs) }

-- if the given bits begin those of a level, the rest of them
abbrev pub rest_after : List ℕ → Bits → Option Packed
rest_after level given = cond (begins (spread given) (bits_of level)) (Some (packed (drop given.count (bits_of level)))) None

-- bits kept as a number come back, and packed bytes have the bits, with zeros above
pub record Packing : Type 0 where
  pub back : (bs : List ℕ) → ((i : ℕ) → slice_index bs i < 2) → spread (gathered bs) ≡ bs
  pub laid : (bs : List ℕ) → ((i : ℕ) → slice_index bs i < 2) → length bs ≤ 40 → bits_of (packed bs).bytes ≡ bs ++ replicate (40 - length bs) 0
