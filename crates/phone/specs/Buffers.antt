-- A buffer that bytes are put into.
use Rattle.std.specs.Prelude.{ℕ, ◌+◌, List, ◌++◌, length, take, drop}

-- bytes put over a buffer from place i on: the rest is kept
unfoldable pub over : List ℕ → ℕ → List ℕ → List ℕ
over s i bs = take i s ++ (bs ++ drop (i + length bs) s)
