-- Numbers written in decimal digits.
use Rattle.std.specs.Prelude.{ℕ, ◌+◌, ◌-◌, ◌*◌, ◌^◌, cond, ◌&&◌, List, [], ◌∷◌, length, Some, None, Option, ◌==◌, nat_le, nat_lt}

-- a number with one more digit, if that is a digit and the number stays within 32 bits
abbrev pub with_digit : ℕ → ℕ → Option ℕ
with_digit n d = cond (nat_le 48 d && nat_le d 57) (cond (nat_lt (n * 10 + (d - 48)) (2 ^ 32)) (Some (n * 10 + (d - 48))) None) None

-- the number so far with all the digits of a text
unfoldable pub number_on : Option ℕ → List ℕ → Option ℕ
number_on None ds = None
number_on (Some n) [] = Some n
number_on (Some n) (d ∷ ds) = number_on (with_digit n d) ds

-- the number that a word writes: one digit at least
abbrev pub number : List ℕ → Option ℕ
number w = cond (length w == 0) None (number_on (Some 0) w)
