-- A block read from a buffer, and one put into it.
use Rattle.std.proofs.Common.{◌≡◌, ℕ, zero, suc, ◌+◌, ◌*◌, ◌<◌, ◌≤◌, ◌≢◌, List, [], ◌∷◌, ◌++◌, length, get_or, set, take, drop, sym, refl, ap, ◌∙◌, ⊎_elim, arith, length-set, add-zero, length-append, length-drop}
use borrow.Rule.Slice.PartMut.{put_mid}
use Rattle.std.specs.Simd.{first_chunks}
use lib.ListN.{get_or-replicate}
use Rattle.std.proofs.lemmas.List.{get_or-set_same, get_or-set_other, get_or-take, get_or-drop, drop-drop, drop-take, length-take-le, ext_get_or}
use Rattle.std.proofs.lemmas.Slice.{between_is, between-put_mid, take-put_mid_below, drop-put_mid}
use Rattle.std.proofs.lemmas.List.FromFn.{get_or-map-range_with_len}
use Rattle.std.proofs.lemmas.Bool.{cases_eq, cases_order}
use Rattle.memory.specs.Picture.{four, blocks_in, zeros, length_in}

pub block_at : (cells : List ℕ) (b : ℕ) → b < 64 → get_or (blocks_in cells) b [] ≡ four cells b
unfolding blocks_in
block_at cells b h = get_or-map-range_with_len (four cells) 0 64 b b [] h (omega arith)

by_four : (d : List ℕ) → length d ≡ 4 → d ≡ get_or d 0 0 ∷ get_or d 1 0 ∷ get_or d 2 0 ∷ get_or d 3 0 ∷ []
by_four [] h = let z : ⊥ = omega arith in absurd z
by_four (a ∷ []) h = let z : ⊥ = omega arith in absurd z
by_four (a ∷ b ∷ []) h = let z : ⊥ = omega arith in absurd z
by_four (a ∷ b ∷ c ∷ []) h = let z : ⊥ = omega arith in absurd z
by_four (a ∷ b ∷ c ∷ d ∷ []) h = refl
by_four (a ∷ b ∷ c ∷ d ∷ e ∷ r) h = let z : ⊥ = omega arith in absurd z

four_at : (xs : List ℕ) (a : ℕ) → a + 4 ≤ length xs → take 4 (drop a xs) ≡ get_or xs a 0 ∷ get_or xs (a + 1) 0 ∷ get_or xs (a + 2) 0 ∷ get_or xs (a + 3) 0 ∷ []
four_at xs a h =
    let long : length (take 4 (drop a xs)) ≡ 4 = length-take-le 4 (drop a xs) (omega (arith, length-drop a xs)) in
    let at = λ (j : ℕ) (below : j < 4). get_or-take 4 (drop a xs) j 0 below ∙ get_or-drop a xs j 0 in
    by_four (take 4 (drop a xs)) long
    ∙ (λ i. (at 0 (omega arith) ∙ ap (λ n. get_or xs n 0) (add-zero a)) i ∷ at 1 (omega arith) i ∷ at 2 (omega arith) i ∷ at 3 (omega arith) i ∷ [])

chunk_at : (k b : ℕ) (xs : List ℕ) → b < k → get_or (first_chunks 4 k xs) b [] ≡ take 4 (drop (4 * b) xs)
chunk_at zero b xs h = absurd (omega arith)
chunk_at (suc k) zero xs h = refl
chunk_at (suc k) (suc b) xs h =
    let on : 4 + 4 * b ≡ 4 * suc b = omega arith in
    chunk_at k b (drop 4 xs) (omega arith) ∙ ap (take 4) (drop-drop (4 * b) 4 xs) ∙ ap (λ n. take 4 (drop n xs)) on

-- a buffer in chunks of four is its blocks
pub chunk_is : (cells : List ℕ) (k b n : ℕ) → length cells ≡ 256 → k ≡ 64 → n ≡ b → b < 64 → get_or (first_chunks 4 k cells) n [] ≡ get_or (blocks_in cells) b []
chunk_is cells k b n h ek en hb =
    ap (λ m. get_or (first_chunks 4 k cells) m []) en ∙ chunk_at k b cells (omega arith) ∙ four_at cells (4 * b) (omega arith) ∙ sym (block_at cells b hb)

pub zeros_at : (b : ℕ) → b < 64 → get_or zeros b [] ≡ 0 ∷ 0 ∷ 0 ∷ 0 ∷ []
unfolding zeros
zeros_at b h = get_or-replicate 64 b (0 ∷ 0 ∷ 0 ∷ 0 ∷ []) [] h

four_is : (xs : List ℕ) (k : ℕ) → 4 * k + 4 ≤ length xs → four xs k ≡ take 4 (drop (4 * k) xs)
four_is xs k h = sym (four_at xs (4 * k) h)

-- the same, of the bytes up to its end
four_of : (xs : List ℕ) (k : ℕ) → 4 * k + 4 ≤ length xs → four xs k ≡ drop (4 * k) (take (4 * k + 4) xs)
four_of xs k h = four_is xs k h ∙ sym (drop-take (4 * k) 4 xs)

module _ (s d : List ℕ) (b len : ℕ) (size : length s ≡ 256) (count : length d ≡ 4) (four_long : len ≡ 4) (below : b < 64) where
  abbrev put : List ℕ
  put = put_mid (4 * b) len s d

  length-put : length put ≡ 256
  length-put =
      omega (
        arith,
        length-append (take (4 * b) s) (d ++ drop len (drop (4 * b) s)),
        length-append d (drop len (drop (4 * b) s)),
        length-take-le (4 * b) s (omega arith),
        length-drop len (drop (4 * b) s),
        length-drop (4 * b) s,
      )

  same_block : four put b ≡ d
  same_block = four_of put b (omega (arith, length-put)) ∙ sym (between_is put (4 * b) (4 * b + 4)) ∙ between-put_mid (4 * b) len s d (4 * b + 4) (omega arith) (omega arith)

  other_block : (k : ℕ) → k < 64 → k ≢ b → four put k ≡ four s k
  other_block k h n =
      ⊎_elim (λ e. absurd (n e)) (⊎_elim
      (λ l. four_of put k (omega (arith, length-put)) ∙ ap (drop (4 * k)) (take-put_mid_below (4 * b) len s d (4 * k + 4) (omega arith) (omega arith)) ∙ sym (four_of s k (omega arith)))
      (λ l. four_is put k (omega (arith, length-put)) ∙ ap (take 4) (drop-put_mid (4 * b) len s d (4 * k) (omega arith) (omega arith) (omega arith)) ∙ sym (four_is s k (omega arith))))
      (cases_order k b)

  -- four bytes put where block b lies are block b, and the other blocks stay
  pub put_in : blocks_in put ≡ set (blocks_in s) b d
  put_in =
      let le : length (set (blocks_in s) b d) ≡ 64 = simp length-set (length_in s) in
      let lp = length_in put in
      ext_get_or [] _ _ (lp ∙ sym le)
      (λ k h.
      let k64 : k < 64 = omega (arith, lp) in
      let inb : b < length (blocks_in s) = omega (arith, length_in s) in
      ⊎_elim
      (λ e. let q = get_or-set_same (blocks_in s) b d [] inb in let r = block_at put k k64 in let f = same_block in cc)
      (λ n. let q = get_or-set_other (blocks_in s) b k d [] n in let r = block_at put k k64 in let r2 = block_at s k k64 in let f = other_block k k64 n in cc)
      (cases_eq k b))
