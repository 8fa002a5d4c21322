-- A picture whose front is filled in.
use Rattle.std.proofs.Common.{◌≡◌, ℕ, ◌-◌, min, List, ◌++◌, length, take, drop, replicate, sym, ap, ◌∙◌, ⊎_elim, arith}
use Rattle.std.proofs.lemmas.List.{take_all, drop-replicate}
use Rattle.std.proofs.lemmas.Bool.{cases_lt}
use Rattle.pictures.specs.Padded.{padded}

pub filled : (bytes : List ℕ) (n : ℕ) → n ≡ min (length bytes) 256 → take n bytes ++ drop n (replicate 256 0) ≡ padded bytes
filled bytes n h =
    let d : drop n (replicate 256 0) ≡ replicate (256 - n) 0 = drop-replicate n 256 0 in
    ⊎_elim
    (λ k. let e : n ≡ 256 = omega arith in
    let z : 256 - length bytes ≡ 256 - n = omega arith in
    ap (λ t. take n bytes ++ t) d ∙ ap (λ m. take m bytes ++ replicate (256 - n) 0) e ∙ ap (λ m. take 256 bytes ++ replicate m 0) (sym z))
    (λ k. let e : n ≡ length bytes = omega arith in
    let a = take_all n bytes (omega arith) in
    let b = take_all 256 bytes k in
    ap (λ t. take n bytes ++ t) d ∙ ap (λ t. t ++ replicate (256 - n) 0) (a ∙ sym b) ∙ ap (λ m. take 256 bytes ++ replicate (256 - m) 0) e)
    (cases_lt 256 (length bytes))
