-- Bytes written in hexadecimal digits, two a byte, the high one first, in capitals.
use Rattle.std.specs.Prelude.{ℕ, Bool, ◌||◌, cond, List, [], ◌∷◌, ◌++◌, None, Option}
use Rattle.std.specs.Char.{is_ascii_lowercase}
use Rattle.std.specs.Int.{is_in_range}
use Rattle.std.specs.List.{list_any}
use Rattle.std.specs.Result.{result_ok}
use Rattle.hex.specs.Hex.{decode_of, encode_upper}
use Rattle.air.specs.Crc.{sent}

-- 0 to 9, and A to F in capitals
abbrev pub is_capital_digit : ℕ → Bool
is_capital_digit c = is_in_range 48 57 c || is_in_range 65 70 c

-- the bytes that a text writes; none unless it is pairs of digits, and no small letter among them
abbrev pub written : List ℕ → Option (List ℕ)
written s = cond (list_any is_ascii_lowercase s) None (result_ok (decode_of s))

-- a CRC as it is sent, low byte first, and the line's end
abbrev pub sent_line : ℕ → List ℕ
sent_line c = encode_upper (sent c) ++ (10 ∷ [])
