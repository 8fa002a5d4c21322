-- Lists of addresses in rising order, and what of them is visible.
use Rattle.std.proofs.Common.{◌≡◌, ℕ, zero, suc, ◌+◌, ◌*◌, ◌<◌, ◌≤◌, Bool, true, false, cond, ◌&&◌, ◌||◌, List, [], ◌∷◌, ◌++◌, length, get_or, sym, refl, ap, ◌∙◌, ⊎_elim, arith}
use Rattle.std.proofs.lemmas.Bool.{cases_Bool, cond-false, lt-ltb, le-ltb, ltb-true, false≢true, and_parts, and_right, or_from, or_cases}
use Rattle.std.proofs.Math.Bool.{and-true}
use Rattle.std.proofs.ByRecursion.{All-get_or}
use Rattle.std.specs.List.{flat_map, AllByRecursion, range_with_len}
use Rattle.phone.specs.declared.area.Area.{Area}
use Rattle.phone.specs.Areas.{inside, outside, named}
use Rattle.phone.specs.Layout.{area, byte, control}
use Rattle.phone.specs.Tiling.{type_of, Passed, hides, hidden, visible}

abbrev pub Above : ℕ → List ℕ → Type 0
Above b l = AllByRecursion (λ a. b < a) l

abbrev pub Rising : List ℕ → Type 0
Rising [] = Unit {0}
Rising (a ∷ l) = Above a l × Rising l

pub above_left : (b : ℕ) (xs ys : List ℕ) → Above b (xs ++ ys) → Above b xs
above_left b [] ys h = tt
above_left b (x ∷ xs) ys h = (h.0, above_left b xs ys h.1)

pub above_right : (b : ℕ) (xs ys : List ℕ) → Above b (xs ++ ys) → Above b ys
above_right b [] ys h = h
above_right b (x ∷ xs) ys h = above_right b xs ys h.1

pub rising_left : (xs ys : List ℕ) → Rising (xs ++ ys) → Rising xs
rising_left [] ys h = tt
rising_left (x ∷ xs) ys h = (above_left x xs ys h.0, rising_left xs ys h.1)

pub rising_right : (xs ys : List ℕ) → Rising (xs ++ ys) → Rising ys
rising_right [] ys h = h
rising_right (x ∷ xs) ys h = rising_right xs ys h.1

-- each address of the front lies below all behind
pub crossing : (xs ys : List ℕ) → Rising (xs ++ ys) → AllByRecursion (λ a. Above a ys) xs
crossing [] ys h = tt
crossing (x ∷ xs) ys h = (above_right x xs ys h.0, crossing xs ys h.1)

counting_above : (b n a : ℕ) → b < a → Above b (range_with_len a n)
counting_above b zero a h = tt
counting_above b (suc n) a h = (h, counting_above b n (a + 1) (omega arith))

counting_rising : (n a : ℕ) → Rising (range_with_len a n)
counting_rising zero a = tt
counting_rising (suc n) a = (counting_above a n (a + 1) (omega arith), counting_rising n (a + 1))

pub rising_area : (pic : List ℕ) → Rising (area pic)
unfolding area
rising_area pic = counting_rising (8 * get_or pic 14 0) 16

-- what comes after a TLV, without what it hides

all_outside : (P : ℕ → Type 0) (r : Area) (l : List ℕ) → AllByRecursion P l → AllByRecursion P (outside r l)
unfolding outside
all_outside P r [] h = tt
all_outside P r (x ∷ l) h =
    elim (inside r x) as (λ b. AllByRecursion P (cond b (outside r l) (x ∷ outside r l))) [ true ↦ all_outside P r l h.1 | false ↦ (h.0, all_outside P r l h.1) ]

rising_outside : (r : Area) (l : List ℕ) → Rising l → Rising (outside r l)
unfolding outside
rising_outside r [] h = tt
rising_outside r (x ∷ l) h =
    elim (inside r x) as (λ b. Rising (cond b (outside r l) (x ∷ outside r l)))
    [ true ↦ rising_outside r l h.1 | false ↦ (all_outside (λ a. x < a) r l h.0, rising_outside r l h.1) ]

-- the area that a control TLV names
abbrev pub area_of : List ℕ → List ℕ → Area
area_of pic m = named (type_of pic m) (byte pic m 2) (byte pic m 3) (byte pic m 4)

abbrev pub pruned : List ℕ → List ℕ → List ℕ → List ℕ
pruned pic m l = cond (control (type_of pic m)) (outside (area_of pic m) l) l

pub all_pruned : (P : ℕ → Type 0) (pic m l : List ℕ) → AllByRecursion P l → AllByRecursion P (pruned pic m l)
all_pruned P pic m l h =
    elim (control (type_of pic m)) as (λ b. AllByRecursion P (cond b (outside (area_of pic m) l) l)) [ true ↦ all_outside P _ l h | false ↦ h ]

pub rising_pruned : (pic m l : List ℕ) → Rising l → Rising (pruned pic m l)
rising_pruned pic m l h =
    elim (control (type_of pic m)) as (λ b. Rising (cond b (outside (area_of pic m) l) l)) [ true ↦ rising_outside _ l h | false ↦ h ]

-- what is visible

pub visible-++ : (pic : List ℕ) (ms : List (List ℕ)) (xs ys : List ℕ) → visible pic ms (xs ++ ys) ≡ visible pic ms xs ++ visible pic ms ys
unfolding visible
visible-++ pic ms [] ys = refl
visible-++ pic ms (x ∷ xs) ys =
    let h = visible-++ pic ms xs ys in
    elim (hidden pic ms x) as (λ b. cond b (visible pic ms (xs ++ ys)) (x ∷ visible pic ms (xs ++ ys)) ≡ cond b (visible pic ms xs) (x ∷ visible pic ms xs) ++ visible pic ms ys)
    [ true ↦ h | false ↦ ap (λ z. x ∷ z) h ]

visible_all : (pic : List ℕ) (ms : List (List ℕ)) (xs : List ℕ) → AllByRecursion (λ a. hidden pic ms a ≡ false) xs → visible pic ms xs ≡ xs
unfolding visible
visible_all pic ms [] h = refl
visible_all pic ms (x ∷ xs) h = cond-false _ _ _ h.0 ∙ ap (λ z. x ∷ z) (visible_all pic ms xs h.1)

pub visible_nil : (pic : List ℕ) (xs : List ℕ) → visible pic [] xs ≡ xs
unfolding visible hidden
visible_nil pic [] = refl
visible_nil pic (x ∷ xs) = ap (λ z. x ∷ z) (visible_nil pic xs)

pub all_visible : (P : ℕ → Type 0) (pic : List ℕ) (ms : List (List ℕ)) (l : List ℕ) → AllByRecursion P l → AllByRecursion P (visible pic ms l)
unfolding visible
all_visible P pic ms [] h = tt
all_visible P pic ms (x ∷ l) h =
    elim (hidden pic ms x) as (λ b. AllByRecursion P (cond b (visible pic ms l) (x ∷ visible pic ms l))) [ true ↦ all_visible P pic ms l h.1 | false ↦ (h.0, all_visible P pic ms l h.1) ]

pub rising_visible : (pic : List ℕ) (ms : List (List ℕ)) (l : List ℕ) → Rising l → Rising (visible pic ms l)
unfolding visible
rising_visible pic ms [] h = tt
rising_visible pic ms (x ∷ l) h =
    elim (hidden pic ms x) as (λ b. Rising (cond b (visible pic ms l) (x ∷ visible pic ms l)))
    [ true ↦ rising_visible pic ms l h.1 | false ↦ (all_visible (λ a. x < a) pic ms l h.0, rising_visible pic ms l h.1) ]

-- a control TLV in front hides as much as it prunes
prunes : (pic m : List ℕ) (ms : List (List ℕ)) (c : Bool) (r : Area) (l : List ℕ) → AllByRecursion (λ a. hides pic m a ≡ (c && inside r a)) l → visible pic (m ∷ ms) l ≡ visible pic ms (cond c (outside r l) l)
unfolding visible hidden outside
prunes pic m ms true r [] h = refl
prunes pic m ms false r [] h = refl
prunes pic m ms false r (x ∷ l) h =
    let i = prunes pic m ms false r l h.1 in
    let e : (hides pic m x || hidden pic ms x) ≡ hidden pic ms x = rw h.0 in
    rw e (ap (λ z. cond (hidden pic ms x) z (x ∷ z)) i)
prunes pic m ms true r (x ∷ l) h =
    let i = prunes pic m ms true r l h.1 in
    let e : (hides pic m x || hidden pic ms x) ≡ (inside r x || hidden pic ms x) = ap (λ z. z || hidden pic ms x) h.0 in
    rw e (elim (inside r x) as (λ b. cond (b || hidden pic ms x) (visible pic (m ∷ ms) l) (x ∷ visible pic (m ∷ ms) l) ≡ visible pic ms (cond b (outside r l) (x ∷ outside r l)))
    [ true ↦ i | false ↦ ap (λ z. cond (hidden pic ms x) z (x ∷ z)) i ])

hides_past : (pic m : List ℕ) (a : ℕ) → (control (type_of pic m) ≡ true → get_or m 4 0 < a) → hides pic m a ≡ (control (type_of pic m) && inside (area_of pic m) a)
unfolding hides
hides_past pic m a h =
    ⊎_elim (λ t. rw t (let k = lt-ltb _ _ (h t) in rw (k, and-true))) (λ f. rw f) (cases_Bool (control (type_of pic m)))

hides_all_past : (pic m l : List ℕ) → (control (type_of pic m) ≡ true → Above (get_or m 4 0) l) → AllByRecursion (λ a. hides pic m a ≡ (control (type_of pic m) && inside (area_of pic m) a)) l
hides_all_past pic m [] h = tt
hides_all_past pic m (x ∷ l) h = (hides_past pic m x (λ c. (h c).0), hides_all_past pic m l (λ c. (h c).1))

-- a control TLV that is passed has five bytes
pub five : (pic m : List ℕ) → Passed pic m → control (type_of pic m) ≡ true → length m ≡ 5
five pic m p c =
    ⊎_elim (λ n. let z : control (type_of pic m) ≡ false = ap control n.is_null in absurd (false≢true (sym z ∙ c))) (λ s. let e = s.three c in let f = s.full in omega arith) p.form

pub pruning : (pic m more : List ℕ) (ms : List (List ℕ)) → Passed pic m → Rising (m ++ more) → visible pic (m ∷ ms) more ≡ visible pic ms (pruned pic m more)
pruning pic m more ms p r =
    let lt : control (type_of pic m) ≡ true → Above (get_or m 4 0) more = λ c. let n = five pic m p c in All-get_or (λ a. Above a more) m 4 0 (omega arith) (crossing m more r) in
    prunes pic m ms (control (type_of pic m)) (area_of pic m) more (hides_all_past pic m more lt)

-- it hides nothing up to its last byte

pub fifth : (m : List ℕ) → Rising m → length m ≡ 5 → AllByRecursion (λ a. a ≤ get_or m 4 0) m
fifth [] r h = tt
fifth (a ∷ []) r h = let z : ⊥ = omega arith in absurd z
fifth (a ∷ b ∷ []) r h = let z : ⊥ = omega arith in absurd z
fifth (a ∷ b ∷ c ∷ []) r h = let z : ⊥ = omega arith in absurd z
fifth (a ∷ b ∷ c ∷ d ∷ []) r h = let z : ⊥ = omega arith in absurd z
fifth (a ∷ b ∷ c ∷ d ∷ e ∷ []) r h =
    let ae : a < e = r.0.1.1.1.0 in
    let be : b < e = r.1.0.1.1.0 in
    let ce : c < e = r.1.1.0.1.0 in
    let de : d < e = r.1.1.1.0.0 in
    (omega arith, (omega arith, (omega arith, (omega arith, (omega arith, tt)))))
fifth (a ∷ b ∷ c ∷ d ∷ e ∷ f ∷ m) r h = let z : ⊥ = omega arith in absurd z

up_to_last : (pic m : List ℕ) (a : ℕ) → (control (type_of pic m) ≡ true → a ≤ get_or m 4 0) → hides pic m a ≡ false
unfolding hides
up_to_last pic m a h = ⊎_elim (λ t. rw t (let k = le-ltb _ _ (h t) in and_right _ _ k)) (λ f. rw f) (cases_Bool (control (type_of pic m)))

abbrev pub Later : ℕ → List (List ℕ) → Type 0
Later b ms = AllByRecursion (λ m. Above b m) ms

-- none of what comes later hides an address before it
unhidden : (pic : List ℕ) (ms : List (List ℕ)) (a : ℕ) → AllByRecursion (Passed pic) ms → Later a ms → hidden pic ms a ≡ false
unfolding hidden
unhidden pic [] a p l = refl
unhidden pic (m ∷ ms) a p l =
    or_from _ _
    (up_to_last pic m a (λ c. let f = five pic m p.0 c in let k = All-get_or (λ x. a < x) m 4 0 (omega arith) l.0 in omega arith))
    (unhidden pic ms a p.1 l.1)

unhidden_all : (pic m : List ℕ) (ms : List (List ℕ)) (more xs : List ℕ) → ((a : ℕ) → Above a more → Later a ms) → AllByRecursion (Passed pic) ms → AllByRecursion (λ a. Above a more) xs → (control (type_of pic m) ≡ true → AllByRecursion (λ a. a ≤ get_or m 4 0) xs) → AllByRecursion (λ a. hidden pic (m ∷ ms) a ≡ false) xs
unfolding hidden
unhidden_all pic m ms more [] l p h k = tt
unhidden_all pic m ms more (x ∷ xs) l p h k =
    (or_from _ _ (up_to_last pic m x (λ c. (k c).0)) (unhidden pic ms x p (l x h.0)), unhidden_all pic m ms more xs l p h.1 (λ c. (k c).1))

-- a TLV in front is visible as a whole
pub front_visible : (pic m more : List ℕ) (ms : List (List ℕ)) → Passed pic m → Rising (m ++ more) → ((a : ℕ) → Above a more → Later a ms) → AllByRecursion (Passed pic) ms → visible pic (m ∷ ms) m ≡ m
front_visible pic m more ms p r l q =
    visible_all pic (m ∷ ms) m (unhidden_all pic m ms more m l q (crossing m more r) (λ c. fifth m (rising_left m more r) (five pic m p c)))

pub hides_control : (pic m : List ℕ) (a : ℕ) → hides pic m a ≡ true → (control (type_of pic m) ≡ true) × (get_or m 4 0 < a)
unfolding hides
hides_control pic m a h =
    let p = and_parts _ _ h in
    let q = and_parts _ _ p.1 in
    (p.0, ltb-true (get_or m 4 0) a q.1)

-- what later TLVs hide lies past all that comes before them
hidden_past : (pic : List ℕ) (ms : List (List ℕ)) (y a : ℕ) → AllByRecursion (Passed pic) ms → Above y (flat_map (λ m. m) ms) → hidden pic ms a ≡ true → y < a
unfolding hidden
hidden_past pic [] y a p u h = absurd (false≢true h)
hidden_past pic (m ∷ ms) y a p u h =
    ⊎_elim
    (λ k. let q = hides_control pic m a k in
    let f = five pic m p.0 q.0 in
    let g = All-get_or (λ x. y < x) m 4 0 (omega arith) (above_left y m (flat_map (λ x. x) ms) u) in
    let e = q.1 in omega arith)
    (λ k. hidden_past pic ms y a p.1 (above_right y m (flat_map (λ x. x) ms) u) k)
    (or_cases _ _ h)

pub hidden_all_past : (pic : List ℕ) (ms : List (List ℕ)) (a : ℕ) (xs rest : List ℕ) → AllByRecursion (Passed pic) ms → AllByRecursion (λ y. Above y (flat_map (λ m. m) ms ++ rest)) xs → hidden pic ms a ≡ true → AllByRecursion (λ y. y < a) xs
hidden_all_past pic ms a [] rest p u h = tt
hidden_all_past pic ms a (x ∷ xs) rest p u h = (hidden_past pic ms x a p (above_left x (flat_map (λ m. m) ms) rest u.0) h, hidden_all_past pic ms a xs rest p u.1 h)
