-- What a frame asks: its bytes, and how many bits of the last one count.
use Rattle.std.specs.Prelude.{ℕ, ◌+◌, ◌-◌, ◌*◌, ◌/◌, ◌%◌, Bool, cond, ◌&&◌, ◌||◌, List, [], ◌∷◌, length, take, drop, Some, None, Ok, Err, Option, Result, ◌==◌, nat_le, nat_lt, slice_index}
use Rattle.air.specs.declared.bits.Bits.{Bits}
use Rattle.air.specs.declared.fault.Fault.{Fault}
use Rattle.air.specs.declared.fault.Fault.TheVariants.{Call}
use Rattle.air.specs.declared.frame.Frame.{Frame}
use Rattle.air.specs.declared.frame.Frame.TheVariants.{Reqa, Wupa, Anticollision, Selection, Halt, Read, Write, Damaged, Unlisted}
use Rattle.air.specs.declared.level.Level.{Level}
use Rattle.air.specs.declared.level.Level.TheVariants.{One, Two}
use Rattle.air.specs.Bits.{bits_of, gathered}
use Rattle.air.specs.Crc.{crc}

-- two bytes, the low one first, are the CRC_A of a run
abbrev pub seals : List ℕ → ℕ → ℕ → Bool
seals bytes low high = crc bytes == low + high * 256

-- the two bytes after the first n are their CRC_A
abbrev pub sealed : List ℕ → ℕ → Bool
sealed f n = seals (take n f) (slice_index f n) (slice_index f (n + 1))

-- n whole bytes, the first of them the command
abbrev pub commanded : List ℕ → ℕ → ℕ → ℕ → Bool
commanded f count n command = length f == n && (count == 8 && slice_index f 0 == command)

-- a frame of seven bits
abbrev pub short_of : ℕ → Frame
short_of b = cond (b % 128 == 0x26) Reqa (cond (b % 128 == 0x52) Wupa Unlisted)

-- NVB has the high digit h from 2 to 6 and the low digit l from 0 to 7, and the frame has exactly 8 h + l bits
abbrev pub counted : ℕ → ℕ → ℕ → Bool
counted nvb n count = nat_le 2 (nvb / 16) && (nat_le (nvb / 16) 6 && (nat_le (nvb % 16) 7 && 8 * n + 8 + count == 8 * (nvb / 16) + nvb % 16))

-- the bits after NVB: of the last byte only so many count
abbrev pub given_by : ℕ → List ℕ → ℕ → Option Bits
given_by nvb bytes count = cond (counted nvb (length bytes) count) (Some (gathered (take (8 * length bytes + count - 8) (bits_of bytes)))) None

abbrev pub asked_by : List ℕ → ℕ → Option Bits
asked_by f count = cond (nat_le 2 (length f)) (given_by (slice_index f 1) (drop 2 f) count) None

-- NVB 70h: all five bytes of the level, and CRC_A
abbrev pub selecting : List ℕ → ℕ → Bool
selecting f count = length f == 9 && (count == 8 && (slice_index f 1 == 0x70 && sealed f 7))

abbrev pub selected_by : List ℕ → ℕ → Option (List ℕ)
selected_by f count = cond (selecting f count) (Some (slice_index f 2 ∷ slice_index f 3 ∷ slice_index f 4 ∷ slice_index f 5 ∷ slice_index f 6 ∷ [])) None

-- a selection, or else an anticollision
abbrev pub at_level : Level → Option (List ℕ) → Option Bits → Frame
at_level level (Some bytes) given = Selection level bytes
at_level level None (Some given) = Anticollision level given
at_level level None None = Unlisted

abbrev pub of_level : Level → List ℕ → ℕ → Frame
of_level level f count = at_level level (selected_by f count) (asked_by f count)

abbrev pub taken_apart : List ℕ → ℕ → Frame
taken_apart f count =
    cond (length f == 1 && count == 7) (short_of (slice_index f 0))
    (cond (slice_index f 0 == 0x93) (of_level One f count)
    (cond (slice_index f 0 == 0x95) (of_level Two f count)
    (cond (commanded f count 4 0x50 && (slice_index f 1 == 0 && sealed f 2)) Halt
    (cond (commanded f count 4 0x30) (cond (sealed f 2) (Read (slice_index f 1)) Damaged)
    (cond (commanded f count 8 0xa2) (cond (sealed f 6) (Write (slice_index f 1) (slice_index f 2 ∷ slice_index f 3 ∷ slice_index f 4 ∷ slice_index f 5 ∷ [])) Damaged)
    Unlisted)))))

-- a frame has at most 64 bytes (2), and 1 to 8 bits of the last one count (3); an empty frame has no last one
abbrev pub frame_of : List ℕ → ℕ → Result Frame Fault
frame_of f count =
    cond (nat_lt 64 (length f)) (Err (Call 2 0))
    (cond (length f == 0) (Ok Unlisted)
    (cond (count == 0 || nat_lt 8 count) (Err (Call 3 0)) (Ok (taken_apart f count))))
