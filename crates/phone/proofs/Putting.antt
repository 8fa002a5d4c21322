-- Bytes put over a buffer.
use Rattle.std.proofs.Common.{◌≡◌, ℕ, ◌+◌, ◌≤◌, List, ◌++◌, length, sym, refl, ap, ◌∙◌, length-append}
use Rattle.std.proofs.lemmas.List.Edits.{paste_all, paste-paste}
use Rattle.std.proofs.lemmas.Slice.{put_mid-paste}
use lib.Seq.{paste}
use borrow.Rule.Slice.PartMut.{put_mid}
use Rattle.phone.specs.Buffers.{over}

paste-over : (s : List ℕ) (i : ℕ) (bs : List ℕ) → paste s i bs (length bs) ≡ over s i bs
unfolding over
paste-over s i bs = paste_all s i bs (length bs) refl

-- a part that is written over
pub put_mid-over : (s bs t : List ℕ) (i k : ℕ) → t ≡ bs → k ≡ length bs → put_mid i k s t ≡ over s i bs
put_mid-over s bs t i k e h = put_mid-paste i k s t bs (length bs) e (sym h) refl ∙ paste-over s i bs

-- bytes put after bytes
pub over-over : (s : List ℕ) (i j : ℕ) (bs cs : List ℕ) → j ≡ i + length bs → i ≤ length s → over (over s i bs) j cs ≡ over s i (bs ++ cs)
over-over s i j bs cs e h =
    let p : List ℕ = paste s i bs (length bs) in
    ap (λ z. over z j cs) (sym (paste-over s i bs)) ∙ sym (paste-over p j cs) ∙ ap (λ z. paste p z cs (length cs)) e
    ∙ paste-paste s i bs cs (length bs) (length cs) refl refl h ∙ ap (paste s i (bs ++ cs)) (sym (length-append bs cs)) ∙ paste-over s i (bs ++ cs)
