-- A lock area by the blocks that its bits touch.
use Rattle.std.proofs.Common.{◌≡◌, ℕ, ◌+◌, ◌*◌, ◌/◌, ◌<◌, ◌≤◌, true, ltb, leb, ⊎_elim, arith}
use Rattle.std.proofs.lemmas.Bool.{and_parts, and_from, leb-true, ltb-true, le-leb, lt-ltb, cases_lt}
use Rattle.phone.specs.Areas.{inside, lock_area, Touched, Blockwise}

only : (a n x : ℕ) → 0 < n → inside (lock_area a n) x ≡ true → Touched a n x
only a n x p h =
    let q = and_parts (leb (a / 4 * 4) x) (ltb x ((a + (n + 7) / 8 + 3) / 4 * 4)) h in
    let l : a / 4 * 4 ≤ x = leb-true (a / 4 * 4) x q.0 in
    let u : x < (a + (n + 7) / 8 + 3) / 4 * 4 = ltb-true x ((a + (n + 7) / 8 + 3) / 4 * 4) q.1 in
    ⊎_elim
    (λ s. record { byte = a; from_start = omega arith; holds_a_bit = omega arith; same_block = omega arith })
    (λ s. record { byte = x / 4 * 4; from_start = s; holds_a_bit = omega arith; same_block = omega arith })
    (cases_lt (x / 4 * 4) a)

all : (a n x : ℕ) → Touched a n x → inside (lock_area a n) x ≡ true
all a n x t =
    let b : ℕ = t.byte in
    let f = t.from_start in
    let k = t.holds_a_bit in
    let s = t.same_block in
    let l : a / 4 * 4 ≤ x = omega arith in
    let u : x < (a + (n + 7) / 8 + 3) / 4 * 4 = omega arith in
    and_from _ _ (le-leb (a / 4 * 4) x l) (lt-ltb x ((a + (n + 7) / 8 + 3) / 4 * 4) u)

pub blockwise : Blockwise
blockwise = record { only_touched = only; all_touched = all }
