-- The latest record of a block.
use Rattle.std.specs.Prelude.{ℕ, cond, List, [], ◌∷◌, Some, None, Option, ◌==◌}
use Rattle.memory.specs.declared.latest.Record.{Record}

-- a later one wins over an earlier one
abbrev pub later_or : Option (List ℕ) → Option (List ℕ) → Option (List ℕ)
later_or (Some bytes) earlier = Some bytes
later_or None earlier = earlier

-- what one record says of block b
abbrev pub said_by : Record → ℕ → Option (List ℕ)
said_by r b = cond (r.block == b) (Some r.bytes) None

unfoldable pub latest_of : List Record → ℕ → Option (List ℕ)
latest_of [] b = None
latest_of (r ∷ rs) b = later_or (latest_of rs b) (said_by r b)
