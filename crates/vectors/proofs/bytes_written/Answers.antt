use Rattle.std.proofs.lemmas.Bool.{true≢false, and_from, and_parts, cond-false, cond_both, or_from, or_parts}
use Rattle.std.specs.List.{AllPass, list_all, list_any}
use Rattle.std.specs.Char.{is_ascii_lowercase}
use Rattle.std.proofs.Common.{true, false, ◌≡◌, ℕ, suc, ◌/◌, List, [], ◌∷◌, length, Some, None, Ok, Err, Result, refl, sym, ap, ◌∙◌, arith}
use Rattle.std.specs.Prelude.{MatchResult}
use Rattle.std.specs.Result.{result_ok}
use Rattle.std.proofs.lemmas.List.{take-append-le, take_all}
use Rattle.hex.specs.Hex.{decode_of, decode_sized, is_hex_digit}
use Rattle.hex.specs.declared.error.FromHexError.{FromHexError}
use Rattle.hex.proofs.HexLemmas.{decode_of-ok}
use Rattle.vectors.specs.Hex.{is_capital_digit, written}
use Rattle.vectors.proofs.bytes_written.Goals as goal

decoded : (d : Result (List ℕ) FromHexError) (r : Result (Unit {0}) FromHexError) (u : Unit {0}) (out : List ℕ)
    → r ≡ Ok u → MatchResult d (λ bs. (r ≡ Ok tt) × (out ≡ bs)) (λ e. r ≡ Err e) → result_ok d ≡ Some out
decoded (Ok bs) r u out e h = ap Some (sym h.1)
decoded (Err x) r u out e h = cc (sym e ∙ h)

half : (s : List ℕ) → decode_sized s (length s / 2) ≡ decode_of s
half s = grind arith

not_small : (d : ℕ) → is_capital_digit d ≡ true → is_ascii_lowercase d ≡ false
not_small d h = grind arith

no_small : (s : List ℕ) → list_all is_capital_digit s ≡ true → list_any is_ascii_lowercase s ≡ false
no_small [] h = refl
no_small (d ∷ ds) h =
    let p = and_parts (is_capital_digit d) (list_all is_capital_digit ds) h in
    or_from _ _ (not_small d p.0) (no_small ds p.1)

capital : (d : ℕ) → is_hex_digit d ≡ true → is_ascii_lowercase d ≡ false → is_capital_digit d ≡ true
capital d h l = grind arith

capitals : (s : List ℕ) → AllPass is_hex_digit s → list_any is_ascii_lowercase s ≡ false → list_all is_capital_digit s ≡ true
capitals [] h l = refl
capitals (d ∷ ds) h l =
    let p = or_parts (is_ascii_lowercase d) (list_any is_ascii_lowercase ds) l in
    and_from _ _ (capital d (h 0 d (omega arith)) p.0) (capitals ds (λ k e m. h (suc k) e (omega arith)) p.1)

refused : (s : List ℕ) (d : Result (List ℕ) FromHexError) → decode_of s ≡ d → list_any is_ascii_lowercase s ≡ false → list_all is_capital_digit s ≡ false → result_ok d ≡ None
refused s (Ok bs) e a h = absurd (true≢false (sym (capitals s (decode_of-ok s bs e).1 a) ∙ h))
refused s (Err x) e a h = refl

unwritten : (s : List ℕ) → list_all is_capital_digit s ≡ false → written s ≡ None
unwritten s h = cond_both _ _ _ (λ o. o ≡ None) (λ _. refl) (λ a. refused s (decode_of s) refl a h)

pub returns-then-not-are_capital_digits : goal.returns-then-not-are_capital_digits
returns-then-not-are_capital_digits c =
    record { made = sym (unwritten c.args.text.now (sym c.are_capital_digits.ensures.value ∙ c.if-not-are_capital_digits.true)) }

pub returns-in-Ok : goal.returns-in-Ok
returns-in-Ok c =
    let text : List ℕ = c.args.text.now in
    let out : List ℕ = c.decode_to_slice.new.out in
    let n : length c.deref_mut.result.now ≡ length text / 2 = omega (arith, c.in_ok-bytes.ensures.len) in
    let a : list_any is_ascii_lowercase text ≡ false = no_small text (sym c.are_capital_digits.ensures.value ∙ c.if-not-are_capital_digits.false) in
    let d : result_ok (decode_sized text (length c.deref_mut.result.now)) ≡ Some out = decoded _ _ _ out c.in-Ok.is c.decode_to_slice.ensures.value in
    let w : written text ≡ Some out = cond-false _ _ _ a ∙ ap result_ok (sym (half text) ∙ ap (decode_sized text) (sym n)) ∙ d in
    let t = take-append-le c.in_ok-bytes.bytes.len out _ (omega arith) ∙ take_all c.in_ok-bytes.bytes.len out (omega arith) in
    record { made = ap Some t ∙ sym w }
