-- Bytes in hexadecimal digits, in our words and in the library's.
use Rattle.std.proofs.Common.{false, ◌≡◌, ℕ, ◌+◌, ◌*◌, ◌%◌, ◌&&◌, List, [], ◌∷◌, length, Some, None, Option, Ok, Err, Result, refl, sym, ap, ◌∙◌, inl, inr, arith}
use Rattle.std.proofs.lemmas.Bool.{and_cases, cases_eq, cond-true, cond-false, eq-eqb, ne_eqb}
use Rattle.std.specs.Char.{is_ascii_hexdigit}
use Rattle.std.specs.List.{list_all}
use Rattle.std.specs.Result.{result_ok}
use Rattle.calls.specs.Hex.{digit_value, with_high, prepended, written, written_as}
use Rattle.hex.specs.Hex.{hex_digit_value, digit_or_error, decode_pairs, decode_of, decode_sized, ◌>>=◌}
use Rattle.hex.specs.declared.error.FromHexError.{FromHexError}
use Rattle.hex.proofs.HexLemmas.{decode_of-even, decode_of-odd, decode_sized-twice, decode_sized-other, decode_sized-odd}

same_value : (d : ℕ) → digit_value d ≡ hex_digit_value d
same_value d = grind arith

-- a byte and those after it
joined : (o p : Option ℕ) (h l i : ℕ) (r : Result (List ℕ) FromHexError)
    → prepended (with_high o p) (result_ok r)
    ≡ result_ok ((digit_or_error h i o >>= (λ a. digit_or_error l (i + 1) p >>= (λ b. Ok (a * 16 + b)))) >>= (λ b. r >>= (λ bs. Ok (b ∷ bs))))
joined None p h l i r = refl
joined (Some a) None h l i r = refl
joined (Some a) (Some b) h l i (Ok bs) = refl
joined (Some a) (Some b) h l i (Err e) = refl

pairs : (i : ℕ) (s : List ℕ) → written s ≡ result_ok (decode_pairs i s)
unfolding written decode_pairs
pairs i [] = refl
pairs i (d ∷ []) = refl
pairs i (h ∷ l ∷ ds) =
    ap (λ z. prepended (with_high z (digit_value l)) (written ds)) (same_value h)
    ∙ ap (λ z. prepended (with_high (hex_digit_value h) z) (written ds)) (same_value l)
    ∙ ap (prepended (with_high (hex_digit_value h) (hex_digit_value l))) (pairs (i + 2) ds)
    ∙ joined (hex_digit_value h) (hex_digit_value l) h l i (decode_pairs (i + 2) ds)

none_after : (o : Option ℕ) → prepended o None ≡ None
none_after None = refl
none_after (Some b) = refl

odd : (s : List ℕ) → length s % 2 ≡ 1 → written s ≡ None
unfolding written
odd [] h = absurd (omega arith)
odd (d ∷ []) h = refl
odd (x ∷ y ∷ ds) h =
    let o : Option ℕ = with_high (digit_value x) (digit_value y) in
    ap (prepended o) (odd ds (omega arith)) ∙ none_after o

-- the bytes that a text writes are those that decoding it gives
pub whole : (s : List ℕ) → written s ≡ result_ok (decode_of s)
whole s =
    elim (cases_eq (length s % 2) 1) [
      | inl h ↦ odd s h ∙ sym (ap result_ok (decode_of-odd s h))
      | inr h ↦ pairs 0 s ∙ sym (ap result_ok (decode_of-even s (omega arith)))
    ]

no_value : (d : ℕ) → is_ascii_hexdigit d ≡ false → digit_value d ≡ None
no_value d h = grind arith

none_low : (o : Option ℕ) → with_high o None ≡ None
none_low None = refl
none_low (Some a) = refl

-- a text that has a sign other than a digit writes no bytes
pub unwritten : (s : List ℕ) → list_all is_ascii_hexdigit s ≡ false → written s ≡ None
unfolding written
unwritten [] h = cc h
unwritten (d ∷ []) h = refl
unwritten (x ∷ y ∷ ds) h =
    elim (and_cases (is_ascii_hexdigit x) (is_ascii_hexdigit y && list_all is_ascii_hexdigit ds) h) [
      | inl e ↦ ap (λ z. prepended (with_high z (digit_value y)) (written ds)) (no_value x e)
      | inr r ↦
          elim (and_cases (is_ascii_hexdigit y) (list_all is_ascii_hexdigit ds) r) [
            | inl e ↦
                ap (λ z. prepended (with_high (digit_value x) z) (written ds)) (no_value y e)
                ∙ ap (λ z. prepended z (written ds)) (none_low (digit_value x))
            | inr e ↦
                ap (prepended (with_high (digit_value x) (digit_value y))) (unwritten ds e)
                ∙ none_after (with_high (digit_value x) (digit_value y))
          ]
    ]

other : (n : ℕ) (s : List ℕ) → (length s ≡ 2 * n → ⊥) → result_ok (decode_sized s n) ≡ None
other n s h =
    elim (cases_eq (length s % 2) 1) [
      | inl o ↦ ap result_ok (decode_sized-odd s n o)
      | inr e ↦ ap result_ok (decode_sized-other s n (omega arith) (λ m. h (omega arith)))
    ]

-- and so they are where just n bytes are decoded
pub sized : (n : ℕ) (s : List ℕ) → written_as n s ≡ result_ok (decode_sized s n)
sized n s =
    elim (cases_eq (length s) (2 * n)) [
      | inl h ↦ cond-true _ _ _ (eq-eqb _ _ h) ∙ whole s ∙ sym (ap result_ok (decode_sized-twice s n h))
      | inr h ↦ cond-false _ _ _ (ne_eqb _ _ h) ∙ sym (other n s h)
    ]
