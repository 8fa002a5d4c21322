-- Bytes written in hexadecimal digits, two a byte, the high one first.
use Rattle.std.specs.Prelude.{ℕ, ◌+◌, ◌/◌, ◌%◌, cond, List, [], ◌∷◌, length, codes, ◌==◌, nat_le}
use Rattle.std.specs.List.{flat_map}

-- the digit of a number below 16, in capitals
abbrev pub digit_of : ℕ → ℕ
digit_of n = cond (nat_le n 9) (48 + n) (55 + n)

-- the two digits of a byte
abbrev pub digits_of : ℕ → List ℕ
digits_of b = digit_of (b / 16) ∷ digit_of (b % 16) ∷ []

-- bytes as they are shown: `-` stands for none
abbrev pub hex : List ℕ → List ℕ
hex bs = cond (length bs == 0) (codes "-") (flat_map digits_of bs)
