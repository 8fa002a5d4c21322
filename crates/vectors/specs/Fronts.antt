-- The first bytes of a picture.
use Rattle.std.specs.Prelude.{ℕ, List, [], ◌∷◌}

-- twelve bytes 00h, and a capability container with the area's size
abbrev pub front : ℕ → List ℕ
front size = 0 ∷ 0 ∷ 0 ∷ 0 ∷ 0 ∷ 0 ∷ 0 ∷ 0 ∷ 0 ∷ 0 ∷ 0 ∷ 0 ∷ 0xe1 ∷ 0x10 ∷ size ∷ 0 ∷ []
