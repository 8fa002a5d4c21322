-- The bytes that READ shows, block by block.
use Rattle.std.proofs.Common.{◌≡◌, ℕ, ◌+◌, ◌*◌, ◌/◌, ◌%◌, ◌<◌, List, [], ◌∷◌, ◌++◌, get_or, sym, ap, ◌∙◌, arith}
use Rattle.tag.specs.Window.{Window, stored_at, window_by, byte_shown, block_shown, shown_at, shown_from}

module _ (blocks : List (List ℕ)) (code : List ℕ) where
  abbrev w : Window
  w = window_by (stored_at blocks) code

  spot : (a x b j : ℕ) → a ≡ x → x / 4 ≡ b → x % 4 ≡ j → shown_at blocks code a ≡ byte_shown w x (get_or (get_or blocks b []) j 0)
  unfolding shown_at
  spot a x b j e p q =
      ap (λ z. byte_shown w z (get_or (get_or blocks (z / 4) []) (z % 4) 0)) e
      ∙ ap (λ z. byte_shown w x (get_or (get_or blocks z []) (x % 4) 0)) p
      ∙ ap (λ z. byte_shown w x (get_or (get_or blocks b []) z 0)) q

  -- the i-th block from block b on
  pub four_shown : (b i : ℕ) → b < 64 → i < 4
      → block_shown w ((b + i) % 64) (get_or blocks ((b + i) % 64) [])
      ≡ shown_at blocks code ((4 * b + 4 * i) % 256) ∷ shown_at blocks code ((4 * b + (4 * i + 1)) % 256)
      ∷ shown_at blocks code ((4 * b + (4 * i + 2)) % 256) ∷ shown_at blocks code ((4 * b + (4 * i + 3)) % 256) ∷ []
  four_shown b i hb hi =
      let z = (b + i) % 64 in
      let e0 = spot ((4 * b + 4 * i) % 256) (4 * z) z 0 (omega arith) (omega arith) (omega arith) in
      let e1 = spot ((4 * b + (4 * i + 1)) % 256) (4 * z + 1) z 1 (omega arith) (omega arith) (omega arith) in
      let e2 = spot ((4 * b + (4 * i + 2)) % 256) (4 * z + 2) z 2 (omega arith) (omega arith) (omega arith) in
      let e3 = spot ((4 * b + (4 * i + 3)) % 256) (4 * z + 3) z 3 (omega arith) (omega arith) (omega arith) in
      λ j. sym e0 j ∷ sym e1 j ∷ sym e2 j ∷ sym e3 j ∷ []

  pub all_shown : (b b1 b2 b3 : ℕ) → b < 64 → b1 ≡ (b + 1) % 64 → b2 ≡ (b + 2) % 64 → b3 ≡ (b + 3) % 64
      → block_shown w b (get_or blocks b [])
      ++ (block_shown w b1 (get_or blocks b1 [])
      ++ (block_shown w b2 (get_or blocks b2 [])
      ++ block_shown w b3 (get_or blocks b3 [])))
      ≡ shown_from blocks code b
  unfolding shown_from
  all_shown b b1 b2 b3 h e1 e2 e3 =
      let at = λ (k : ℕ). block_shown w k (get_or blocks k []) in
      let m : b ≡ (b + 0) % 64 = omega arith in
      let f0 = ap at m ∙ four_shown b 0 h (omega arith) in
      let f1 = ap at e1 ∙ four_shown b 1 h (omega arith) in
      let f2 = ap at e2 ∙ four_shown b 2 h (omega arith) in
      let f3 = ap at e3 ∙ four_shown b 3 h (omega arith) in
      λ j. f0 j ++ (f1 j ++ (f2 j ++ f3 j))
