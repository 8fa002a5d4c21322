-- Cascade levels.
use Rattle.std.specs.Prelude.{ℕ, List, [], ◌∷◌, bit_xor, slice_index}
use Rattle.air.specs.declared.level.Level.{Level}
use Rattle.air.specs.declared.level.Level.TheVariants.{One, Two}

-- four bytes and BCC, their sum by xor
abbrev pub checked : ℕ → ℕ → ℕ → ℕ → List ℕ
checked a b c d = a ∷ b ∷ c ∷ d ∷ bit_xor (bit_xor (bit_xor a b) c) d ∷ []

-- level one tells 88h and the first three bytes of the UID, level two the other four
abbrev pub level_bytes : Level → List ℕ → List ℕ
level_bytes One uid = checked 0x88 (slice_index uid 0) (slice_index uid 1) (slice_index uid 2)
level_bytes Two uid = checked (slice_index uid 3) (slice_index uid 4) (slice_index uid 5) (slice_index uid 6)
