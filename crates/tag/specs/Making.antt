-- A tag made new.
use Rattle.std.specs.Prelude.{ℕ, ◌-◌, ◌/◌, ◌%◌, false, cond, List, [], ◌∷◌, ◌++◌, map, Ok, Err, Result, ◌==◌, nat_lt, slice_index, slice_index_or}
use Rattle.std.specs.List.{range_with_len}
use Rattle.air.specs.declared.fault.Fault.{Fault}
use Rattle.air.specs.declared.fault.Fault.TheVariants.{Call}
use Rattle.air.specs.declared.level.Level.TheVariants.{One, Two}
use Rattle.air.specs.Levels.{level_bytes}
use Rattle.memory.specs.Memory.{Contents, block}
use Rattle.tag.specs.declared.state.State.TheVariants.{Off}
use Rattle.tag.specs.declared.making.Identity.{Identity}
use Rattle.tag.specs.Boxes.{Box}
use Rattle.tag.specs.Code.{digit, hyphens}

-- a byte as two hexadecimal digits
abbrev pub hex : ℕ → List ℕ
hex b = digit (b / 16) ∷ digit (b % 16) ∷ []

-- the check byte of a cascade level
abbrev pub bcc_1 : List ℕ → ℕ
bcc_1 uid = slice_index (level_bytes One uid) 4

abbrev pub bcc_2 : List ℕ → ℕ
bcc_2 uid = slice_index (level_bytes Two uid) 4

-- block b as it is made
abbrev pub made_block : Identity → ℕ → List ℕ
made_block i b =
    let u = λ (k : ℕ). slice_index_or i.uid k 0 in
    cond (b == 0) (u 0 ∷ u 1 ∷ u 2 ∷ bcc_1 i.uid ∷ [])
    (cond (b == 1) (u 3 ∷ u 4 ∷ u 5 ∷ u 6 ∷ [])
    -- no lock bit is set
    (cond (b == 2) (bcc_2 i.uid ∷ 0x2c ∷ 0x00 ∷ 0x00 ∷ [])
    -- the capability container, and an empty message
    (cond (b == 3) (0xe1 ∷ 0x10 ∷ 0x14 ∷ 0x00 ∷ [])
    (cond (b == 4) (0x03 ∷ 0x00 ∷ 0xfe ∷ 0x00 ∷ [])
    (cond (b == 45) i.product
    -- the window is switched off
    (cond (b == 46) (0x0f ∷ 0x00 ∷ 0x00 ∷ 0x00 ∷ [])
    (cond (b == 47) i.password
    -- the custom field is the UID in hexadecimal digits, the separator is x
    (cond (b == 60) (hex (u 0) ++ hex (u 1))
    (cond (b == 61) (hex (u 2) ++ hex (u 3))
    (cond (b == 62) (hex (u 4) ++ hex (u 5))
    (cond (b == 63) (hex (u 6) ++ (0x78 ∷ 0x00 ∷ []))
    (0x00 ∷ 0x00 ∷ 0x00 ∷ 0x00 ∷ []))))))))))))

unfoldable pub made_blocks : Identity → List (List ℕ)
made_blocks i = map (made_block i) (range_with_len 0 64)

abbrev pub all_made : Contents → Identity → Contents
all_made m i = record { blocks = made_blocks i; left = m.left - 64 }

-- making takes 64 writes; with fewer left it is refused (5) and writes nothing
abbrev pub making : Contents → Result (Unit {0}) Fault
making m = cond (nat_lt m.left 64) (Err (Call 5 0)) (Ok tt)

abbrev pub made : Contents → Identity → Contents
made m i = cond (nat_lt m.left 64) m (all_made m i)

-- the UID is the first three bytes of block 0, and block 1
abbrev pub uid_in : Contents → List ℕ
uid_in m =
    let a = block m 0 in
    let b = block m 1 in
    slice_index a 0 ∷ slice_index a 1 ∷ slice_index a 2 ∷ slice_index b 0 ∷ slice_index b 1 ∷ slice_index b 2 ∷ slice_index b 3 ∷ []

-- a tag takes a memory over as it is, and is OFF
abbrev pub opened : Contents → Box
opened m = record { mem = m; state = Off; from_halt = false; uid = uid_in m; code = hyphens }
