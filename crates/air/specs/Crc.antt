-- CRC_A by its shift register of 16 bits, into which the bits of a run go one by one.
use Rattle.std.specs.Prelude.{ℕ, zero, suc, ◌+◌, ◌*◌, ◌/◌, ◌%◌, List, [], ◌∷◌, fold, bit_xor}
use Rattle.air.specs.declared.crc.Register.{Register}

-- One bit goes in: the register moves down by one place, and where the bit that leaves it differs from the one that comes,
-- the polynomial x^16 + x^12 + x^5 + 1, lowest power in the highest place, is added.
abbrev pub bit_in : ℕ → ℕ → ℕ
bit_in s b = bit_xor (s / 2) (bit_xor (s % 2) b * 0x8408)

-- the k lowest bits of a number, lowest first
abbrev pub bits : ℕ → ℕ → List ℕ
bits zero n = []
bits (suc k) n = n % 2 ∷ bits k (n / 2)

-- the eight bits of a byte go in, lowest first
unfoldable pub byte_in : ℕ → ℕ → ℕ
byte_in s b = fold bit_in s (bits 8 b)

-- the register starts at 6363h, and what it holds at the end is the CRC
unfoldable pub crc : List ℕ → ℕ
crc bytes = fold byte_in 0x6363 bytes

-- the register that the code keeps as two bytes
abbrev pub worth : Register → ℕ
worth r = r.high * 256 + r.low

-- the two bytes that are sent, the low one first
abbrev pub sent : ℕ → List ℕ
sent c = c % 256 ∷ c / 256 ∷ []
