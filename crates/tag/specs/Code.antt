-- Tap codes.
use Rattle.std.specs.Prelude.{◌≡◌, ℕ, ◌+◌, ◌/◌, ◌%◌, ◌<◌, cond, List, [], ◌∷◌, ◌≢◌, nat_lt}

-- the number of codes, 36 × 36 × 36
abbrev pub codes : ℕ
codes = 46656

-- 0 to 9, then A to Z
abbrev pub digit : ℕ → ℕ
digit n = cond (nat_lt n 10) (48 + n) (55 + n)

-- three digits of n in base 36, highest first
abbrev pub digits : ℕ → List ℕ
digits n = digit (n / 1296) ∷ digit (n / 36 % 36) ∷ digit (n % 36) ∷ []

abbrev pub hyphens : List ℕ
hyphens = 45 ∷ 45 ∷ 45 ∷ []

-- the code of tap number n
abbrev pub code_of : ℕ → List ℕ
code_of n = cond (nat_lt n codes) (digits n) hyphens

-- two tap numbers never have one code, and no code is three hyphens
pub record Apart : Type 0 where
  pub once : (m n : ℕ) → m < codes → n < codes → code_of m ≡ code_of n → m ≡ n
  pub drawn : (n : ℕ) → n < codes → code_of n ≢ hyphens
