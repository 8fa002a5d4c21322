-- A code tells its tap number: each digit has an inverse.
use Rattle.std.proofs.Common.{◌≡◌, ℕ, ◌+◌, ◌-◌, ◌*◌, ◌/◌, ◌%◌, ◌<◌, ◌≤◌, cond, ltb, List, get_or, sym, ap, ◌∙◌, arith}
use Rattle.std.proofs.lemmas.Bool.{cond-true, lt-ltb}
use Rattle.std.proofs.lemmas.Bool.Decides.{nat_tests}
use Rattle.tag.specs.Code.{codes, digit, digits, code_of, Apart}

abbrev worth : ℕ → ℕ
worth c = cond (ltb c 58) (c - 48) (c - 55)

abbrev number : List ℕ → ℕ
number s = (worth (get_or s 0 0) * 36 + worth (get_or s 1 0)) * 36 + worth (get_or s 2 0)

worth_digit : (n : ℕ) → worth (digit n) ≡ n
worth_digit n = grind (arith, nat_tests)

digit_above : (n : ℕ) → 48 ≤ digit n
digit_above n = grind (arith, nat_tests)

number_digits : (n : ℕ) → n < codes → number (digits n) ≡ n
number_digits n h =
    let e : (n / 1296 * 36 + n / 36 % 36) * 36 + n % 36 ≡ n = omega arith in
    let a = worth_digit (n / 1296) in
    let b = worth_digit (n / 36 % 36) in
    let c = worth_digit (n % 36) in
    cc

below : (n : ℕ) → n < codes → code_of n ≡ digits n
below n h = cond-true _ _ _ (lt-ltb n codes h)

pub apart : Apart
apart = record {
  once = λ m n hm hn e. sym (number_digits m hm) ∙ ap number (sym (below m hm) ∙ e ∙ below n hn) ∙ number_digits n hn;
  drawn = λ n h e.
      let f : digit (n % 36) ≡ 45 = ap (λ s. get_or s 2 0) (sym (below n h) ∙ e) in
      let g = digit_above (n % 36) in
      omega (arith, f, g);
}
