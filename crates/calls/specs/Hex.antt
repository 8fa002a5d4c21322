-- Bytes written in hexadecimal digits, two a byte, the high one first.
use Rattle.std.specs.Prelude.{ℕ, ◌+◌, ◌-◌, ◌*◌, cond, ◌&&◌, List, [], ◌∷◌, length, Some, None, Option, ◌==◌, nat_le}

-- 0 to 9, and A to F in either case
abbrev pub digit_value : ℕ → Option ℕ
digit_value d =
    cond (nat_le 48 d && nat_le d 57) (Some (d - 48)) (cond (nat_le 65 d && nat_le d 70) (Some (d - 55)) (cond (nat_le 97 d && nat_le d 102) (Some (d - 87)) None))

-- a byte by its two digits
abbrev pub with_high : Option ℕ → Option ℕ → Option ℕ
with_high None l = None
with_high (Some h) None = None
with_high (Some h) (Some l) = Some (h * 16 + l)

-- a byte and those after it
abbrev pub prepended : Option ℕ → Option (List ℕ) → Option (List ℕ)
prepended None bs = None
prepended (Some b) None = None
prepended (Some b) (Some bs) = Some (b ∷ bs)

-- the bytes that a text writes; none unless it is pairs of digits
unfoldable pub written : List ℕ → Option (List ℕ)
written [] = Some []
written (d ∷ []) = None
written (h ∷ l ∷ ds) = prepended (with_high (digit_value h) (digit_value l)) (written ds)

-- n bytes, in twice as many digits
abbrev pub written_as : ℕ → List ℕ → Option (List ℕ)
written_as n w = cond (length w == 2 * n) (written w) None
