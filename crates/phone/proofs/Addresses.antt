-- The list of the addresses that are still to be taken.
use Rattle.std.proofs.Common.{◌≡◌, ℕ, zero, suc, ap, ◌+◌, ◌-◌, ◌<◌, ◌≤◌, Bool, true, false, cond, not, ltb, leb, ⊎_elim, ◌||◌, List, [], ◌∷◌, get_or, take, drop, length, min, Option, Some, None, MatchOption, ◌++◌, sym, refl, ◌∙◌, add-one, arith}
use Rattle.std.proofs.lemmas.Grind.{common_steps}
use Rattle.std.proofs.lemmas.List.Sums.{sum_by-cons}
use Rattle.std.proofs.Math.Seq.{drop-cons}
use Rattle.std.proofs.lemmas.List.{length-take}
use Rattle.std.proofs.lemmas.Bool.{cases_lt, and_right, le-leb, lt-leb, lt-ltb, le-ltb, cond-true, cond-false}
use Rattle.std.specs.List.{count_by}
use Rattle.phone.specs.declared.area.Area.{Area}
use Rattle.phone.specs.Areas.{inside, outside}
use Rattle.phone.specs.Cursors.{free, rest}

pub free_none : (s : List Bool) (a e : ℕ) → e ≤ a → free s a (e - a) ≡ []
unfolding free
free_none s a e h = let z : e - a ≡ 0 = omega arith in rw z

free_more : (s : List Bool) (a e : ℕ) → a < e → free s a (e - a) ≡ cond (get_or s a false) (free s (a + 1) (e - (a + 1))) (a ∷ free s (a + 1) (e - (a + 1)))
unfolding free
free_more s a e h = let z : e - a ≡ suc (e - (a + 1)) = omega arith in rw (z, add-one)

-- the n addresses from `next` up to `at` are skipped
free_past : (s : List Bool) (n next at e : ℕ) → next + n ≡ at → at ≤ e → ((k : ℕ) → next ≤ k → k < at → get_or s k false ≡ true) → free s next (e - next) ≡ free s at (e - at)
free_past s zero next at e h l g = let z : next ≡ at = omega arith in rw z
free_past s (suc n) next at e h l g =
    free_more s next e (omega arith) ∙ cond-true _ _ _ (g next (omega arith) (omega arith))
    ∙ free_past s n (next + 1) at e (omega arith) l (λ k a b. g k (omega arith) b)

-- the first free address, and those behind it
pub record Free (s : List Bool) (next e at : ℕ) : Type 0 where
  pub within : at < e
  pub is : free s next (e - next) ≡ at ∷ free s (at + 1) (e - (at + 1))

-- what a search over the map finds
pub first_free : (s : List Bool) (next e : ℕ) (r : Option ℕ) → next ≤ e
    → MatchOption r ((k : ℕ) → next ≤ k → k < e → get_or s k false ≡ true) (λ at. (next ≤ at) × (at < e) × (get_or s at false ≡ false) × ((k : ℕ) → next ≤ k → k < at → get_or s k false ≡ true))
    → MatchOption r (free s next (e - next) ≡ []) (Free s next e)
first_free s next e None l g = free_past s (e - next) next e e (omega arith) (omega arith) g ∙ free_none s e e (omega arith)
first_free s next e (Some at) l g =
    let a = g.0 in
    let b = g.1 in
    record { within = b; is = free_past s (at - next) next at e (omega arith) (omega arith) g.3 ∙ free_more s at e b ∙ cond-false _ _ _ g.2 }

-- they are counted in the map
pub length-free : (s : List Bool) (n a : ℕ) → a + n ≤ length s → length (free s a n) ≡ count_by not (take n (drop a s))
unfolding free
length-free s zero a h = refl
length-free s (suc n) a h =
    let d = drop-cons s a false (omega arith) in
    let e = sum_by-cons (λ b. cond (not b) 1 0) (get_or s a false) (take n (drop (suc a) s)) in
    one (get_or s a false) (free s (suc a) n) _ (length-free s n (suc a) (omega arith)) ∙ sym e ∙ ap (λ l. count_by not (take (suc n) l)) (sym d)
  where
    one : (b : Bool) (l : List ℕ) (m : ℕ) → length l ≡ m → length (cond b l (a ∷ l)) ≡ cond (not b) 1 0 + m
    one true l m h = omega arith
    one false l m h = omega arith

one_outside : (a : ℕ) (r : Area) (F T : List ℕ) (t g w : Bool) → t ≡ (w || g) → w ≡ inside r a → T ≡ outside r F → cond t T (a ∷ T) ≡ outside r (cond g F (a ∷ F))
unfolding outside
one_outside a r F T t true true e v h = rw (e, h)
one_outside a r F T t true false e v h = rw (e, h)
one_outside a r F T t false true e v h = rw (e, h) (sym (cond-true _ _ _ (sym v)))
one_outside a r F T t false false e v h = rw (e, h) (sym (cond-false _ _ _ (sym v)))

-- an area put into the map takes its addresses out of what is left
pub free-outside : (r : Area) (s t : List Bool) (n a : ℕ) → ((k : ℕ) → a ≤ k → k < a + n → get_or t k false ≡ (inside r k || get_or s k false)) → free t a n ≡ outside r (free s a n)
unfolding free outside
free-outside r s t zero a h = refl
free-outside r s t (suc n) a h =
    one_outside a r (free s (suc a) n) (free t (suc a) n) (get_or t a false) (get_or s a false) (inside r a) (h a (omega arith) (omega arith)) refl
    (free-outside r s t n (suc a) (λ k l m. h k (omega arith) (omega arith)))

-- a part of the map is set
pub marked : (r : Area) (s ts : List Bool) (i j : ℕ) → length s ≡ 256 → i ≡ min r.start (min r.stop 256) → j ≡ min r.stop 256 → length ts ≡ length (take (j - i) (drop i s)) → ((m : ℕ) → m < length ts → get_or ts m false ≡ true)
    → (k : ℕ) → k < 256 → get_or (take i s ++ (ts ++ drop (j - i) (drop i s))) k false ≡ (inside r k || get_or s k false)
marked r s ts i j l p q e h k u =
    let n = length-take i s in
    let m : length ts ≡ j - i = grind (arith, common_steps) in
    ⊎_elim
    (λ a. let g : get_or (take i s ++ (ts ++ drop (j - i) (drop i s))) k false ≡ get_or s k false = grind (arith, common_steps) in
    let o : leb r.start k ≡ false = lt-leb _ _ (omega arith) in rw (g, o))
    (λ a. ⊎_elim
    (λ b. let t = h (k - i) (omega arith) in
    let g : get_or (take i s ++ (ts ++ drop (j - i) (drop i s))) k false ≡ true = grind (arith, common_steps) in
    let o : leb r.start k ≡ true = le-leb _ _ (omega arith) in
    let v : ltb k r.stop ≡ true = lt-ltb _ _ (omega arith) in rw (g, o, v))
    (λ b. let g : get_or (take i s ++ (ts ++ drop (j - i) (drop i s))) k false ≡ get_or s k false = grind (arith, common_steps) in
    let v : ltb k r.stop ≡ false = le-ltb _ _ (omega arith) in rw (g, and_right (leb r.start k) _ v))
    (cases_lt k j))
    (cases_lt k i)

pub rest-drop : (i : ℕ) (l : List ℕ) → rest (drop i l) ≡ drop (i + 1) l
rest-drop zero [] = refl
rest-drop zero (x ∷ l) = refl
rest-drop (suc i) [] = rw add-one
rest-drop (suc i) (x ∷ l) = rest-drop i l ∙ rw (add-one (suc i), add-one i)
