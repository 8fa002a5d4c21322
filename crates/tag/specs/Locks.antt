-- Lock bits, and the bits that a write of blocks 2, 3 and 44 sets.
use Rattle.std.specs.Prelude.{◌≡◌, ℕ, ◌+◌, ◌-◌, ◌*◌, ◌/◌, ◌%◌, ◌^◌, ◌<◌, max, Bool, false, cond, ◌&&◌, ◌||◌, List, [], ◌∷◌, ◌==◌, bit_and, bit_or, nat_le, nat_lt, slice_index, slice_index_or}

-- bit k of n, bit 0 the lowest
abbrev pub bit : ℕ → ℕ → ℕ
bit n k = n / 2 ^ k % 2

-- the last two bytes of block 2, the low one first
abbrev pub statlock : List ℕ → ℕ
statlock two = slice_index two 2 + slice_index two 3 * 256

-- the lock bit of block b: bit b of STATLOCK; bit b - 44 of address 179; bit (b - 16) div 2 of addresses 176 to 178; blocks 0 to 2 have none
abbrev pub lock_bit : List ℕ → List ℕ → ℕ → Bool
lock_bit two dynamic b =
    cond (nat_lt b 3) false
    (cond (nat_lt b 16) (bit (statlock two) b == 1)
    (cond (nat_lt 43 b && nat_lt b 52) (bit (slice_index dynamic 3) (b - 44) == 1)
    (let k = (b - 16) / 2 in (bit (slice_index dynamic (k / 8)) (k % 8) == 1))))

-- a block is locked while the stored blocks have its lock bit set
abbrev pub locked : List (List ℕ) → ℕ → Bool
locked blocks b = lock_bit (slice_index_or blocks 2 []) (slice_index_or blocks 44 []) b

-- the bits that set guards shut: bit 0 guards bit 3, bit 1 bits 4 to 9, bit 2 bits 10 to 15
abbrev pub shut : ℕ → ℕ
shut old = bit_or (bit_or (old % 2 * 0x0008) (old / 2 % 2 * 0x03f0)) (old / 4 % 2 * 0xfc00)

-- STATLOCK gains the bits carried, but none whose guard was set before
abbrev pub gained : ℕ → ℕ → ℕ
gained old carried = bit_or old (bit_and carried (0xffff - shut old))

abbrev pub gained_block : List ℕ → List ℕ → List ℕ
gained_block old fresh =
    let n = gained (statlock old) (statlock fresh) in slice_index old 0 ∷ slice_index old 1 ∷ n % 256 ∷ n / 256 % 256 ∷ []

-- old OR data
abbrev pub either : List ℕ → List ℕ → List ℕ
either old fresh =
    bit_or (slice_index old 0) (slice_index fresh 0) ∷ bit_or (slice_index old 1) (slice_index fresh 1) ∷ bit_or (slice_index old 2) (slice_index fresh 2) ∷ bit_or (slice_index old 3) (slice_index fresh 3) ∷ []

-- what a write of block b leaves there
abbrev pub merged : ℕ → List ℕ → List ℕ → List ℕ
merged b old fresh = cond (b == 2) (gained_block old fresh) (cond (b == 3 || b == 44) (either old fresh) fresh)

-- a guard of bit k is set: bit 0 guards bit 3, bit 1 bits 4 to 9, bit 2 bits 10 to 15
abbrev pub guarded : ℕ → ℕ → Bool
guarded old k = (k == 3 && bit old 0 == 1) || (((nat_le 4 k && nat_le k 9) && bit old 1 == 1) || ((nat_le 10 k && nat_le k 15) && bit old 2 == 1))

-- each bit of STATLOCK after a write: a guarded one stays as it was, any other is set if it was or is carried
abbrev pub Guards : Type 0
Guards = (old carried k : ℕ) → k < 16 → bit (gained old carried) k ≡ cond (guarded old k) (bit old k) (max (bit old k) (bit carried k))
