-- Bytes in hexadecimal digits, in our words and in the library's.
use Rattle.std.proofs.Common.{◌≡◌, ℕ, suc, ◌/◌, ◌%◌, ◌<◌, ◌==◌, true, false, List, [], ◌∷◌, length, slice_index, refl, sym, ◌∙◌, arith}
use Rattle.std.proofs.lemmas.Bool.{agree_below_at, eqb-true, cond-false}
use Rattle.std.specs.List.{flat_map}
use Rattle.answers.specs.Hex.{digit_of, digits_of, hex}
use Rattle.hex.specs.Hex.{IsBytes, encode_with, encode_upper, upper_digits}

digit : (k : ℕ) → k < 16 → digit_of k ≡ slice_index upper_digits k
digit k h = eqb-true _ _ (agree_below_at (λ n. digit_of n == slice_index upper_digits n) (λ n. true) 16 k refl h)

encoded : (bs : List ℕ) → IsBytes bs → flat_map digits_of bs ≡ encode_upper bs
unfolding encode_with
encoded [] h = refl
encoded (b ∷ bs) h =
    let fits : b < 256 = h 0 in
    let high = digit (b / 16) (omega arith) in
    let low = digit (b % 16) (omega arith) in
    let rest = encoded bs (λ k. h (suc k)) in
    rw (high, low, rest) refl

-- where there are bytes, they are shown as the library's digits
pub shown : (bs : List ℕ) → IsBytes bs → (length bs == 0) ≡ false → encode_upper bs ≡ hex bs
shown bs h e = sym (cond-false _ _ _ e ∙ encoded bs h)
