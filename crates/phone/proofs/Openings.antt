-- Where a walk begins.
use Rattle.std.proofs.Common.{◌≡◌, ℕ, zero, suc, ◌+◌, ◌-◌, ◌*◌, ◌/◌, ◌≤◌, Bool, true, false, cond, ◌&&◌, eqb, leb, List, ◌∷◌, length, get_or, replicate, Ok, Err, sym, refl, ap, ◌∙◌, subst, add-one, arith}
use Rattle.std.proofs.lemmas.Bool.{cond-true, cond-false, leb-true, and_parts}
use Rattle.std.proofs.lemmas.List.FromFn.{length-range_with_len}
use Rattle.std.specs.List.{range_with_len}
use Rattle.air.specs.declared.fault.Fault.{Fault}
use Rattle.air.specs.declared.fault.Fault.TheVariants.{Call, Layout}
use Rattle.air.specs.Faults.{number_of, address_of}
use Rattle.phone.specs.Cursors.{Ahead, free, fresh}
use Rattle.phone.specs.Layout.{area_end, area, accepted, opened, Findings, failed, walk_over, walked}

unskipped : (n k : ℕ) → get_or (replicate n false) k false ≡ false
unskipped zero k = refl
unskipped (suc n) zero = refl
unskipped (suc n) (suc k) = unskipped n k

free_all : (s : List Bool) → ((k : ℕ) → get_or s k false ≡ false) → (n a : ℕ) → free s a n ≡ range_with_len a n
unfolding free
free_all s h zero a = refl
free_all s h (suc n) a = rw add-one (cond-false _ _ _ (h a) ∙ ap (λ z. a ∷ z) (free_all s h n (suc a)))

left_fresh : (pic : List ℕ) → (fresh pic (area_end pic)).left ≡ area pic
unfolding fresh area
left_fresh pic =
    let e : 16 + 8 * get_or pic 14 0 - 16 ≡ 8 * get_or pic 14 0 = omega arith in
    rw e (free_all (replicate 256 false) (unskipped 256) (8 * get_or pic 14 0) 16)

length-area : (pic : List ℕ) → length (area pic) ≡ 8 * get_or pic 14 0
unfolding area
length-area pic = length-range_with_len 16 (8 * get_or pic 14 0)

pub record Opened (pic : List ℕ) (c : Ahead) : Type 0 where
  pub finds : walk_over c.picture c.end c.left ≡ walked pic
  pub few : length c.left ≤ 240

is_open : (c o : Ahead) (b a : Bool) → cond b (cond a (Ok o) (Err (Layout 9 12))) (Err (Call 6 0)) ≡ Ok c → (b ≡ true) × (a ≡ true) × (o ≡ c)
is_open c o true true h = (refl, refl, cc)
is_open c o true false h = cc
is_open c o false a h = cc

accepted_end : (pic : List ℕ) → accepted pic ≡ true → area_end pic ≤ 256
accepted_end pic h =
    let p = and_parts (eqb (get_or pic 12 0) 0xe1) (eqb (get_or pic 13 0 / 16) 1 && leb (area_end pic) 256) h in
    leb-true (area_end pic) 256 (and_parts (eqb (get_or pic 13 0 / 16) 1) (leb (area_end pic) 256) p.1).1

fresh_walk : (pic : List ℕ) → walk_over (fresh pic (area_end pic)).picture (fresh pic (area_end pic)).end (fresh pic (area_end pic)).left ≡ walk_over pic (area_end pic) (area pic)
unfolding fresh
fresh_walk pic = ap (walk_over pic (area_end pic)) (left_fresh pic)

pub opening : (pic : List ℕ) (c : Ahead) → Ok c ≡ opened pic → Opened pic c
opening pic c h =
    let o = is_open c _ (eqb (length pic) 256) (accepted pic) (sym h) in
    let s = accepted_end pic o.1 in
    let n : length (fresh pic (area_end pic)).left ≡ 8 * get_or pic 14 0 = ap length (left_fresh pic) ∙ length-area pic in
    subst (Opened pic) o.2 (record { finds = fresh_walk pic ∙ sym (cond-true _ _ _ o.0 ∙ cond-true _ _ _ o.1); few = omega arith })

refused : (f : Fault) (o : Ahead) (w : Findings) (b a : Bool) → Err f ≡ cond b (cond a (Ok o) (Err (Layout 9 12))) (Err (Call 6 0)) → (cond b (cond a w (failed (Layout 9 12))) (failed (Call 6 0)) ≡ failed f) × (number_of f ≤ 256) × (address_of f ≤ 256)
refused f o w true true k = cc
refused f o w true false k = let e : f ≡ Layout 9 12 = cc in rw e (refl, omega arith, omega arith)
refused f o w false a k = let e : f ≡ Call 6 0 = cc in rw e (refl, omega arith, omega arith)

pub not_opening : (pic : List ℕ) (f : Fault) → Err f ≡ opened pic → (walked pic ≡ failed f) × (number_of f ≤ 256) × (address_of f ≤ 256)
not_opening pic f h = refused f _ _ (eqb (length pic) 256) (accepted pic) h
