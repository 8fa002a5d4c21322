-- One digit after the other.
use Rattle.std.proofs.Common.{◌≡◌, ℕ, ◌+◌, ◌<◌, ◌≤◌, List, length, get_or, drop, Some, None, Option, sym, ap, ◌∙◌}
use Rattle.std.proofs.lemmas.List.{drop_more, drop_all}
use Rattle.calls.specs.Decimal.{with_digit, number_on}

-- a digit goes over to the number so far
pub digit_on : (n : ℕ) (ds : List ℕ) (i : ℕ) (o w : Option ℕ) → i < length ds → o ≡ with_digit n (get_or ds i 0) → number_on (Some n) (drop i ds) ≡ w → number_on o (drop (i + 1) ds) ≡ w
unfolding number_on
digit_on n ds i o w h e v = ap (λ z. number_on z (drop (i + 1) ds)) e ∙ sym (ap (number_on (Some n)) (drop_more ds i 0 h)) ∙ v

-- what follows no number is no number
pub none_on : (ds : List ℕ) (w : Option ℕ) → number_on None ds ≡ w → None ≡ w
unfolding number_on
none_on ds w v = v

pub no_digit_left : (n : ℕ) (ds : List ℕ) (i : ℕ) (w : Option ℕ) → length ds ≤ i → number_on (Some n) (drop i ds) ≡ w → Some n ≡ w
unfolding number_on
no_digit_left n ds i w h v = sym (ap (number_on (Some n)) (drop_all i ds h)) ∙ v
