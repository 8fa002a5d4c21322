-- What a walk finds lies so in the picture.
use Rattle.std.proofs.Common.{◌≡◌, ℕ, zero, suc, ◌+◌, ◌<◌, Bool, true, false, cond, not, ◌&&◌, eqb, leb, ◌⊎◌, List, [], ◌∷◌, ◌++◌, length, get_or, take, drop, is_ok, Ok, Err, Result, sym, refl, ap, ◌∙◌, subst, inl, inr, ⊎_elim, append_assoc, arith}
use Rattle.std.proofs.lemmas.Bool.{cases_Bool, cond-true, cond-false, ne_eqb, eq-eqb, eqb-true, eqb-false, leb-false, not-true, and_parts}
use Rattle.std.proofs.lemmas.List.{take-append-drop, length-take-le, get_or-take}
use Rattle.std.specs.List.{flat_map, AllByRecursion}
use Rattle.air.specs.declared.fault.Fault.{Fault}
use Rattle.air.specs.declared.fault.Fault.TheVariants.{Layout}
use Rattle.phone.specs.declared.layout.Tlv.{Tlv}
use Rattle.phone.specs.Areas.{named, outside}
use Rattle.phone.specs.Layout.{area, area_end, control, named_in, cleared, sized, tlv, valued, beyond, Findings, failed, met, onto, going, walks, walk_over}
use Rattle.phone.specs.Tiling.{type_of, Null, Sized, Passed, entry, visible, Meets, Lengthy, Fails, nothing_left, terminated, no_length, long, not_three, cut_short, Ends, found, Lies}
use Rattle.phone.proofs.Steps.{ok_right, ok_either, then_three, says, shorter}
use Rattle.phone.proofs.Rising.{Above, Rising, Later, above_left, above_right, rising_right, rising_area, pruned, all_pruned, rising_pruned, visible-++, visible_nil, pruning, front_visible}

-- what is found among the addresses l
record Rest (pic : List ℕ) (e : ℕ) (l : List ℕ) (w : Findings) : Type 0 where
  before : List (List ℕ)
  rest : List ℕ
  last : Findings
  tiles : visible pic before l ≡ flat_map (λ m. m) before ++ rest
  passed : AllByRecursion (Passed pic) before
  ends : Ends pic e rest last
  finds : w ≡ found pic before last
  later : (b : ℕ) → Above b l → Later b before

-- one TLV more in front
behind : (pic : List ℕ) (e : ℕ) (m more : List ℕ) (w : Findings) → Passed pic m → Rising (m ++ more) → Rest pic e (pruned pic m more) w → Rest pic e (m ++ more) (onto (entry pic m) w)
behind pic e m more w p r s =
    let ms : List (List ℕ) = s.before in
    let v1 = front_visible pic m more ms p r (λ a h. s.later a (all_pruned (λ x. a < x) pic m more h)) s.passed in
    let v2 = pruning pic m more ms p r in
    record {
      before = m ∷ ms;
      rest = s.rest;
      last = s.last;
      tiles = visible-++ pic (m ∷ ms) m more ∙ ap (λ z. z ++ visible pic (m ∷ ms) more) v1 ∙ ap (λ z. m ++ z) (v2 ∙ s.tiles) ∙ sym (append_assoc m (flat_map (λ x. x) ms) s.rest);
      passed = (p, s.passed);
      ends = s.ends;
      finds = ap (onto (entry pic m)) s.finds;
      later = λ b h. (above_left b m more h, s.later b (all_pruned (λ x. b < x) pic m more (above_right b m more h)));
    }

-- a TLV that is read is whole

record Reads (pic l : List ℕ) (t : Tlv) : Type 0 where
  mine : List ℕ
  more : List ℕ
  split : l ≡ mine ++ more
  form : Null pic mine ⊎ Sized pic mine
  not_end : type_of pic mine ≡ 0xfe → ⊥
  on : beyond pic l ≡ pruned pic mine more
  is_entry : entry pic mine ≡ t
  is_type : t.kind ≡ type_of pic mine

pub pruned_same : (pic : List ℕ) (x q n : ℕ) (vs : List ℕ) → (control (get_or pic x 0) ≡ true → n ≡ 3) → cleared pic (get_or pic x 0) n vs ≡ pruned pic (x ∷ q ∷ take n vs) (drop n vs)
pruned_same pic x q n vs h =
    ⊎_elim
    (λ t.
    let n3 = h t in
    let g0 : get_or (take n vs) 0 0 ≡ get_or vs 0 0 = get_or-take n vs 0 0 (omega arith) in
    let g1 : get_or (take n vs) 1 0 ≡ get_or vs 1 0 = get_or-take n vs 1 0 (omega arith) in
    let g2 : get_or (take n vs) 2 0 ≡ get_or vs 2 0 = get_or-take n vs 2 0 (omega arith) in
    let k : ℕ = get_or pic x 0 in
    let e : named k (get_or pic (get_or (take n vs) 0 0) 0) (get_or pic (get_or (take n vs) 1 0) 0) (get_or pic (get_or (take n vs) 2 0) 0) ≡ named_in pic k vs = cc in
    cond-true _ _ _ t ∙ sym (cond-true _ _ _ t ∙ ap (λ z. outside z (drop n vs)) e))
    (λ f. cond-false _ _ _ f ∙ sym (cond-false _ _ _ f)) (cases_Bool (control (get_or pic x 0)))

null_read : (pic : List ℕ) (x : ℕ) (l : List ℕ) (t : Tlv) → get_or pic x 0 ≡ 0 → record { at = x; kind = 0; length = 0; place = x + 1 } ≡ t → Reads pic (x ∷ l) t
null_read pic x l t k h =
    let kd : t.kind ≡ 0 = sym (ap (λ (z : Tlv). z.kind) h) in
    record {
      mine = x ∷ [];
      more = l;
      split = refl;
      form = inl (record { is_null = k; alone = refl });
      not_end = λ e. omega arith;
      on = cond-true _ _ _ (eq-eqb _ _ k) ∙ sym (cond-false _ _ _ (ap control k));
      is_entry = cond-true _ _ _ (eq-eqb _ _ k) ∙ h;
      is_type = kd ∙ sym k;
    }

sized_read : (pic : List ℕ) (x : ℕ) (l : List ℕ) (t : Tlv) → (get_or pic x 0 ≡ 0 → ⊥) → (get_or pic x 0 ≡ 0xfe → ⊥) → sized pic x (get_or pic x 0) l ≡ Ok t → Reads pic (x ∷ l) t
sized_read pic x [] t z f h = cc
sized_read pic x (q ∷ vs) t z f h =
    let n : ℕ = get_or pic q 0 in
    let r = says pic x q vs t h in
    let l = length-take-le n vs r.enough in
    record {
      mine = x ∷ q ∷ take n vs;
      more = drop n vs;
      split = ap (λ y. x ∷ q ∷ y) (sym (take-append-drop n vs));
      form = inr (record { full = omega arith; not_null = z; not_long = r.not_long; three = r.three });
      not_end = f;
      on = cond-false _ _ _ (ne_eqb _ _ z) ∙ pruned_same pic x q n vs r.three;
      is_entry = cond-false _ _ _ (ne_eqb _ _ z) ∙ r.is;
      is_type = sym (ap (λ (y : Tlv). y.kind) r.is);
    }

reads : (pic : List ℕ) (e : ℕ) (l : List ℕ) (t : Tlv) → tlv pic e l ≡ Ok t → Reads pic l t
reads pic e [] t h = cc
reads pic e (x ∷ l) t h =
    ⊎_elim
    (λ p. null_read pic x l t (eqb-true (get_or pic x 0) 0 p.0) p.1)
    (λ p. let q = ok_right (eqb (get_or pic x 0) 0xfe) (Layout 13 x) _ t p.1 in
    sized_read pic x l t (eqb-false (get_or pic x 0) 0 p.0) (eqb-false (get_or pic x 0) 0xfe q.0) q.1)
    (ok_either (eqb (get_or pic x 0) 0) _ _ t h)

-- a message that is read stands first

sized_meets : (pic : List ℕ) (x : ℕ) (l : List ℕ) (t : Tlv) → eqb (get_or pic x 0) 0 ≡ false → sized pic x (get_or pic x 0) l ≡ Ok t → t.kind ≡ 3 → Meets pic (x ∷ l) (met t (valued pic (x ∷ l)))
sized_meets pic x [] t z h k3 = cc
sized_meets pic x (q ∷ vs) t z h k3 =
    let n : ℕ = get_or pic q 0 in
    let r = says pic x q vs t h in
    let v : valued pic (x ∷ q ∷ vs) ≡ vs = cond-false _ _ _ z in
    let F : ℕ → Tlv = λ y. record { at = x; kind = y; length = n; place = q + 1 } in
    let is-3 : get_or pic x 0 ≡ 3 = ap (λ (y : Tlv). y.kind) r.is ∙ k3 in
    let m : Meets pic (x ∷ q ∷ vs) (met (F (get_or pic x 0)) vs) =
    record {
      type_at = x;
      length_at = q;
      behind = drop n vs;
      split = ap (λ y. x ∷ q ∷ y) (sym (take-append-drop n vs));
      is_message = is-3;
      not_long = r.not_long;
      whole = length-take-le n vs r.enough;
      answers = refl;
      lists = ap (λ y. F y ∷ []) is-3;
    } in
    let mt : Meets pic (x ∷ q ∷ vs) (met t vs) = subst (λ y. Meets pic (x ∷ q ∷ vs) (met y vs)) r.is m in
    subst (λ y. Meets pic (x ∷ q ∷ vs) (met t y)) (sym v) mt

meets : (pic : List ℕ) (e : ℕ) (l : List ℕ) (t : Tlv) → tlv pic e l ≡ Ok t → t.kind ≡ 3 → Meets pic l (met t (valued pic l))
meets pic e [] t h k = cc
meets pic e (x ∷ l) t h k =
    ⊎_elim
    (λ p. let y = ap (λ (z : Tlv). z.kind) p.1 in let b : ⊥ = omega arith in absurd b)
    (λ p. sized_meets pic x l t p.0 (ok_right (eqb (get_or pic x 0) 0xfe) (Layout 13 x) _ t p.1).1 k)
    (ok_either (eqb (get_or pic x 0) 0) _ _ t h)

-- a fault is the one of what stands first

err_right : (b : Bool) (g f : Fault) (r : Result Tlv Fault) → cond b (Err g) r ≡ Err f → ((b ≡ true) × (g ≡ f)) ⊎ ((b ≡ false) × (r ≡ Err f))
err_right true g f r h = inl (refl, cc)
err_right false g f r h = inr (refl, h)

err_past : (b : Bool) (u : Tlv) (f : Fault) (r : Result Tlv Fault) → cond b (Ok u) r ≡ Err f → (b ≡ false) × (r ≡ Err f)
err_past true u f r h = cc
err_past false u f r h = (refl, h)

sized_fails : (pic : List ℕ) (e x : ℕ) (l : List ℕ) (f : Fault) → Lengthy (get_or pic x 0) → sized pic x (get_or pic x 0) l ≡ Err f → Fails pic e (x ∷ l) f
sized_fails pic e x [] f y h = let g : Layout 11 x ≡ f = cc in subst (Fails pic e (x ∷ [])) g (no_length x y)
sized_fails pic e x (q ∷ vs) f y h =
    let n : ℕ = get_or pic q 0 in
    let k : ℕ = get_or pic x 0 in
    let P : Fault → Type 0 = Fails pic e (x ∷ q ∷ vs) in
    ⊎_elim
    (λ a. subst P a.1 (long x q vs y (eqb-true n 255 a.0)))
    (λ a. ⊎_elim
    (λ b. let p = and_parts (control k) (not (eqb n 3)) b.0 in
    subst P b.1 (not_three x q vs p.0 (eqb-false n 255 a.0) (eqb-false n 3 (not-true (eqb n 3) p.1))))
    (λ b. let c = err_past (leb n (length vs)) _ f _ b.1 in
    let g : Layout 11 x ≡ f = cc c.1 in
    subst P g
    (cut_short x q vs y (eqb-false n 255 a.0) (λ z. eqb-true n 3 (then_three (control k) (eqb n 3) b.0 z)) (leb-false n (length vs) c.0)))
    (err_right (control k && not (eqb n 3)) (Layout 10 x) f _ a.1))
    (err_right (eqb n 255) (Layout 12 x) f _ h)

fails : (pic : List ℕ) (e : ℕ) (l : List ℕ) (f : Fault) → tlv pic e l ≡ Err f → Fails pic e l f
fails pic e [] f h = let g : Layout 13 e ≡ f = cc in subst (Fails pic e []) g nothing_left
fails pic e (x ∷ l) f h =
    let k : ℕ = get_or pic x 0 in
    let a = err_past (eqb k 0) _ f _ h in
    ⊎_elim
    (λ b. subst (Fails pic e (x ∷ l)) b.1 (terminated x l (eqb-true k 0xfe b.0)))
    (λ b. sized_fails pic e x l f (record { not_null = eqb-false k 0 a.0; not_end = eqb-false k 0xfe b.0 }) b.1)
    (err_right (eqb k 0xfe) (Layout 13 x) f _ a.1)

-- the whole walk

at_end : (pic : List ℕ) (e : ℕ) (l : List ℕ) (w : Findings) → Ends pic e l w → Rest pic e l w
at_end pic e l w h = record { before = []; rest = l; last = w; tiles = visible_nil pic l; passed = tt; ends = h; finds = refl; later = λ b a. tt }

passing : (pic : List ℕ) (e : ℕ) (l : List ℕ) (t : Tlv) (w : Findings) → Rising l → Reads pic l t → (t.kind ≡ 3 → ⊥) → Rest pic e (beyond pic l) w → Rest pic e l (onto t w)
passing pic e l t w u r k s =
    let p : Passed pic r.mine = record { form = r.form; not_end = r.not_end; not_message = λ y. k (r.is_type ∙ y) } in
    let v : Rising (r.mine ++ r.more) = subst Rising r.split u in
    let s2 : Rest pic e (pruned pic r.mine r.more) w = subst (λ y. Rest pic e y w) r.on s in
    let b : Rest pic e (r.mine ++ r.more) (onto t w) = subst (λ y. Rest pic e (r.mine ++ r.more) (onto y w)) r.is_entry (behind pic e r.mine r.more w p v s2) in
    subst (λ y. Rest pic e y (onto t w)) (sym r.split) b

rising_beyond : (pic l : List ℕ) (t : Tlv) → Rising l → Reads pic l t → Rising (beyond pic l)
rising_beyond pic l t u r =
    let v : Rising (r.mine ++ r.more) = subst Rising r.split u in
    subst Rising (sym r.on) (rising_pruned pic r.mine r.more (rising_right r.mine r.more v))

lays : (pic : List ℕ) (e n : ℕ) (l : List ℕ) → Rising l → length l < n → Rest pic e l (walks pic e n l)
unfolding walks
lays pic e zero l u h = let b : ⊥ = omega arith in absurd b
lays pic e (suc n) l u h =
    elim (tlv pic e l) as (λ r. tlv pic e l ≡ r → Rest pic e l (going (valued pic l) r (walks pic e n (beyond pic l)))) [
      | Ok t ↦ λ q.
          let r = reads pic e l t q in
          let s = shorter pic e l (ap is_ok q) in
          ⊎_elim
          (λ b. subst (Rest pic e l) (sym (cond-true _ _ _ b)) (at_end pic e l (met t (valued pic l)) (inl (meets pic e l t q (eqb-true _ _ b)))))
          (λ b. subst (Rest pic e l) (sym (cond-false _ _ _ b))
          (passing pic e l t (walks pic e n (beyond pic l)) u r (eqb-false _ _ b) (lays pic e n (beyond pic l) (rising_beyond pic l t u r) (omega arith))))
          (cases_Bool (eqb t.kind 3))
      | Err f ↦ λ q. at_end pic e l (failed f) (inr (f, fails pic e l f q, refl))
    ]
    refl

pub lies : (pic : List ℕ) → Lies pic (walk_over pic (area_end pic) (area pic))
lies pic =
    let r = lays pic (area_end pic) (suc (length (area pic))) (area pic) (rising_area pic) (omega arith) in
    record { before = r.before; rest = r.rest; last = r.last; tiles = r.tiles; passed = r.passed; ends = r.ends; finds = r.finds }
