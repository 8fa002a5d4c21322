-- The blocks that a log of writes stands for.
use Rattle.std.specs.Prelude.{◌≡◌, ℕ, ◌-◌, min, List, [], ◌∷◌, map, length, take}
use Rattle.std.specs.List.{range_with_len}
use Rattle.std.specs.Option.{unwrap_or}
use Rattle.std.proofs.lemmas.List.FromFn.{length-map-range_with_len}
use Rattle.memory.specs.declared.latest.Record.{Record}
use Rattle.memory.specs.Memory.{Contents}
use Rattle.memory.specs.Latest.{latest_of}

-- a block holds its latest record's bytes, or zeros
abbrev pub block_by : List Record → ℕ → List ℕ
block_by rs b = unwrap_or (latest_of rs b) (0 ∷ 0 ∷ 0 ∷ 0 ∷ [])

unfoldable pub blocks_by : List Record → List (List ℕ)
blocks_by rs = map (block_by rs) (range_with_len 0 64)

-- the first places hold the records; the writes left are the unused ones among the first 4,096
abbrev pub logged : List Record → ℕ → Contents
logged places used = record { blocks = blocks_by (take used places); left = min (length places) 4096 - used }

pub length_by : (rs : List Record) → length (blocks_by rs) ≡ 64
unfolding blocks_by
length_by rs = length-map-range_with_len (block_by rs) 0 64

-- there are always 64
pub all_logged : (places : List Record) (used : ℕ) → length (logged places used).blocks ≡ 64
all_logged places used = length_by (take used places)
