-- The blocks that lie in a buffer.
use Rattle.std.specs.Prelude.{◌≡◌, ℕ, ◌+◌, ◌*◌, cond, List, [], ◌∷◌, ◌++◌, map, length, take, drop, replicate, ◌==◌, slice_index, refl}
use Rattle.std.specs.List.{range_with_len}
use Rattle.std.proofs.lemmas.List.FromFn.{length-map-range_with_len}
use Rattle.std.proofs.lemmas.Bool.{cond_both}
use Rattle.memory.specs.Memory.{Contents}

-- the four bytes of block b
abbrev pub four : List ℕ → ℕ → List ℕ
four cells b = slice_index cells (4 * b) ∷ slice_index cells (4 * b + 1) ∷ slice_index cells (4 * b + 2) ∷ slice_index cells (4 * b + 3) ∷ []

-- the 64 blocks of a buffer of 256 bytes
unfoldable pub blocks_in : List ℕ → List (List ℕ)
blocks_in cells = map (four cells) (range_with_len 0 64)

-- four bytes put from address a on, all others kept
abbrev pub put_four : List ℕ → ℕ → List ℕ → List ℕ
put_four cells a bytes = take a cells ++ (bytes ++ drop (a + 4) cells)

unfoldable pub zeros : List (List ℕ)
zeros = replicate 64 (0 ∷ 0 ∷ 0 ∷ 0 ∷ [])

-- in a buffer of another length all blocks are zeros and no writes are left
abbrev pub pictured : List ℕ → ℕ → Contents
pictured cells left = cond (length cells == 256) (record { blocks = blocks_in cells; left = left }) (record { blocks = zeros; left = 0 })

pub length_in : (cells : List ℕ) → length (blocks_in cells) ≡ 64
unfolding blocks_in
length_in cells = length-map-range_with_len (four cells) 0 64

length-zeros : length zeros ≡ 64
unfolding zeros
length-zeros = refl

-- there are always 64
pub all_pictured : (cells : List ℕ) (left : ℕ) → length (pictured cells left).blocks ≡ 64
all_pictured cells left = cond_both (length cells == 256) _ _ (λ (m : Contents). length m.blocks ≡ 64) (λ _. length_in cells) (λ _. length-zeros)
