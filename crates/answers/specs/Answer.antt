-- Answers as lines of text.
use Rattle.std.specs.Prelude.{ℕ, ◌+◌, ◌/◌, Bool, cond, List, [], ◌∷◌, ◌++◌, take, Ok, Err, codes, decimal, Result, ◌==◌}
use Rattle.air.specs.declared.fault.Fault.{Fault}
use Rattle.air.specs.declared.fault.Fault.TheVariants.{Memory, Call, Air, Layout}
use Rattle.answers.specs.Hex.{hex}

-- a text and the line's end
abbrev pub line : List ℕ → List ℕ
line t = t ++ (10 ∷ [])

-- number, layer and address of a refusal
abbrev pub refusal : ℕ → List ℕ → ℕ → List ℕ
refusal n l a = codes "refused " ++ (decimal n ++ (codes " " ++ (l ++ (codes " " ++ decimal a))))

-- the word for a fault's layer
abbrev pub layer : Fault → List ℕ
layer (Memory n a) = codes "memory"
layer (Call n a) = codes "call"
layer (Air n a) = codes "air"
layer (Layout n a) = codes "layout"

-- a fault, with the word for its layer
abbrev pub refused : Fault → List ℕ
refused (Memory n a) = refusal n (codes "memory") a
refused (Call n a) = refusal n (codes "call") a
refused (Air n a) = refusal n (codes "air") a
refused (Layout n a) = refusal n (codes "layout") a

-- where a box is made
abbrev pub made_line : Result (Unit {0}) Fault → List ℕ
made_line (Ok x) = line (codes "made")
made_line (Err f) = line (refused f)

-- the number drawn, and the code's three bytes as they are
abbrev pub drawn_line : ℕ → List ℕ → List ℕ
drawn_line n code = line ((codes "drawn " ++ (decimal n ++ codes " ")) ++ code)

-- where power comes: whether there is a code, and the number drawn
abbrev pub power_line : Result (Bool × ℕ) Fault → List ℕ → List ℕ
power_line (Ok p) code = cond p.0 (drawn_line p.1 code) (line (codes "no code"))
power_line (Err f) code = line (refused f)

-- the bytes of a buffer that bits take, as far as it goes
abbrev pub bytes_of : ℕ → List ℕ → List ℕ
bytes_of n buffer = take ((n + 7) / 8) buffer

-- the number of bits, and their bytes; no bits are silence
abbrev pub answered : Result ℕ Fault → List ℕ → List ℕ
answered (Ok n) buffer = cond (n == 0) (codes "silence") (codes "answer " ++ (decimal n ++ (codes " " ++ hex (bytes_of n buffer))))
answered (Err f) buffer = refused f

-- the answer to a frame, and the whole buffer where it is to be shown
abbrev pub frame_line : Result ℕ Fault → List ℕ → Bool → List ℕ
frame_line r buffer shown = cond shown (answered r buffer ++ (codes " | " ++ line (hex buffer))) (line (answered r buffer))

-- how many writes are left
abbrev pub left_line : ℕ → List ℕ
left_line n = codes "left " ++ line (decimal n)

-- a row of the memory
abbrev pub row_line : List ℕ → List ℕ
row_line bs = line (hex bs)
