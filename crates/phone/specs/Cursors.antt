-- A cursor stands for what a walk has ahead of it.
use Rattle.std.specs.Prelude.{ℕ, zero, suc, ◌-◌, Bool, false, cond, List, [], ◌∷◌, replicate, Some, None, Option, slice_index, slice_index_or}

-- the picture, the end of its area, and the addresses that are still to be taken
pub record Ahead : Type 0 where
  pub picture : List ℕ
  pub end : ℕ
  pub left : List ℕ

-- the unskipped among n addresses from `at` on
unfoldable pub free : List Bool → ℕ → ℕ → List ℕ
free s at zero = []
free s at (suc n) = cond (slice_index_or s at false) (free s (suc at) n) (at ∷ free s (suc at) n)

-- what a cursor's fields stand for: its addresses are the unskipped from `next` up to `end`
abbrev pub ahead : List ℕ → ℕ → ℕ → List Bool → Ahead
ahead pic next end s = record { picture = pic; end = end; left = free s next (end - next) }

-- the area's first address is 16, and nothing is skipped at first
unfoldable pub fresh : List ℕ → ℕ → Ahead
fresh pic e = ahead pic 16 e (replicate 256 false)

-- the same with other addresses left
abbrev pub leaving : Ahead → List ℕ → Ahead
leaving a l = record { picture = a.picture; end = a.end; left = l }

-- the first address and its byte
abbrev pub first : List ℕ → List ℕ → Option (ℕ × ℕ)
first pic [] = None
first pic (a ∷ l) = Some (a, slice_index pic a)

abbrev pub rest : List ℕ → List ℕ
rest [] = []
rest (a ∷ l) = l
