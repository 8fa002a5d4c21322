-- The words of a line: separated by spaces, up to the comment.
use Rattle.std.specs.Prelude.{ℕ, zero, suc, not, List, take, drop, ◌==◌}
use Rattle.std.specs.List.{prefix_len}

-- how many signs come before the first sign c
abbrev pub up_to : ℕ → List ℕ → ℕ
up_to c s = prefix_len (λ x. not (x == c)) s

-- how many spaces come first
abbrev pub spaces : List ℕ → ℕ
spaces s = prefix_len (λ x. x == 32) s

-- what comes after those
abbrev pub unspaced : List ℕ → List ℕ
unspaced s = drop (spaces s) s

-- the line without its comment, which `#` starts
unfoldable pub uncommented : List ℕ → List ℕ
uncommented s = take (up_to 35 s) s

-- the first word, empty where there is none
unfoldable pub first : List ℕ → List ℕ
first s = take (up_to 32 (unspaced s)) (unspaced s)

-- what follows the first word
unfoldable pub rest : List ℕ → List ℕ
rest s = drop (up_to 32 (unspaced s)) (unspaced s)

-- the word with k words before it, empty where there is none
abbrev pub word : ℕ → List ℕ → List ℕ
word zero s = first s
word (suc k) s = word k (rest s)
