-- Blocks written one after the other.
use Rattle.std.proofs.Common.{◌≡◌, ℕ, ◌+◌, ◌-◌, ◌<◌, List, [], ◌∷◌, ◌++◌, length, get_or, take, sym, refl, ap, ◌∙◌, arith}
use Rattle.std.proofs.lemmas.List.FromFn.{length-map-range_with_len, get_or-map-range_with_len}
use Rattle.std.proofs.lemmas.List.{take_more, take_more_set, take_all}
use Rattle.std.proofs.lemmas.Bool.{lt-ltb}
use Rattle.memory.specs.Memory.{Contents, stored, written}
use Rattle.tag.specs.declared.making.Identity.{Identity}
use Rattle.tag.specs.Making.{made_block, made_blocks, all_made}

length_made : (i : Identity) → length (made_blocks i) ≡ 64
unfolding made_blocks
length_made i = length-map-range_with_len (made_block i) 0 64

made_at : (i : Identity) (b : ℕ) → b < 64 → get_or (made_blocks i) b [] ≡ made_block i b
unfolding made_blocks
made_at i b h = get_or-map-range_with_len (made_block i) 0 64 b b [] h (omega arith)

module _ (m : Contents) (b : ℕ) (below : b < 64) (some : 0 < m.left) where
  pub taken : (bytes : List ℕ) → written m b bytes ≡ stored m b bytes
  taken bytes = rw (lt-ltb b 64 below) (rw (lt-ltb 0 m.left some) refl)

  -- one block more is as made
  pub one_more : (next : Contents) (i : Identity) → length m.blocks ≡ 64 → next ≡ written m b (made_block i b) → take b m.blocks ≡ take b (made_blocks i)
      → (next.left + 1 ≡ m.left) × (take (b + 1) next.blocks ≡ take (b + 1) (made_blocks i))
  one_more next i all e sofar =
      let s = e ∙ taken (made_block i b) in
      let n : b < length (made_blocks i) = omega (arith, length_made i, below) in (
        omega (arith, ap (λ n. n.left) s),
        ap (λ n. take (b + 1) n.blocks) s ∙ take_more_set m.blocks b (made_block i b) (omega arith)
            ∙ ap (λ l. l ++ made_block i b ∷ []) sofar ∙ ap (λ d. take b (made_blocks i) ++ d ∷ []) (sym (made_at i b below)) ∙ sym (take_more (made_blocks i) b [] n),
      )

pub all_written : (start m : Contents) (b : ℕ) (i : Identity) → b ≡ 64 → m.left + b ≡ start.left → take b m.blocks ≡ take b (made_blocks i) → length m.blocks ≡ 64
    → m ≡ all_made start i
all_written start m b i at count sofar all =
    let blocks : m.blocks ≡ made_blocks i = sym (take_all b m.blocks (omega arith)) ∙ sofar ∙ take_all b (made_blocks i) (omega (arith, length_made i)) in
    let left : m.left ≡ start.left - 64 = omega arith in
    λ j. record { blocks = blocks j; left = left j }
