-- A word by its signs.
use Rattle.std.proofs.Common.{◌≡◌, ℕ, ◌+◌, List, [], ◌∷◌, length, get_or, drop, ap, ◌∙◌, arith}
use Rattle.std.proofs.lemmas.List.{drop_more, drop_all}

-- from place i on, the word w has the signs of a text, and ends
abbrev pub Spells : List ℕ → ℕ → List ℕ → Type 0
Spells w i [] = length w ≡ i
Spells w i (x ∷ xs) = (get_or w i 0 ≡ x) × Spells w (i + 1) xs

longer : (w xs : List ℕ) (i : ℕ) → Spells w i xs → length w ≡ i + length xs
longer w [] i s = omega (arith, s)
longer w (x ∷ xs) i s = let l = longer w xs (i + 1) s.1 in omega arith

from : (w xs : List ℕ) (i : ℕ) → Spells w i xs → drop i w ≡ xs
from w [] i s = drop_all i w (omega (arith, s))
from w (x ∷ xs) i s =
    let l = longer w xs (i + 1) s.1 in
    drop_more w i 0 (omega arith) ∙ ap (λ z. z ∷ drop (i + 1) w) s.0 ∙ ap (λ z. x ∷ z) (from w xs (i + 1) s.1)

pub spelled : (w xs : List ℕ) → Spells w 0 xs → w ≡ xs
spelled w xs s = from w xs 0 s
