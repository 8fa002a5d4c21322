-- One TLV after the other.
use Rattle.std.proofs.Common.{◌≡◌, ℕ, zero, suc, ◌+◌, ◌<◌, ◌≤◌, Bool, true, false, cond, not, ◌&&◌, eqb, leb, ◌⊎◌, List, [], ◌∷◌, length, get_or, take, drop, is_ok, Some, None, Ok, Err, Result, sym, refl, ap, ◌∙◌, subst, inl, inr, ⊎_elim, arith, length-drop}
use Rattle.std.proofs.lemmas.Bool.{cond-true, cond-false, cond_both, ne_eqb, eq-eqb, eqb-true, eqb-false, leb-true, false≢true}
use Rattle.air.specs.declared.fault.Fault.{Fault}
use Rattle.air.specs.declared.fault.Fault.TheVariants.{Layout}
use Rattle.phone.specs.declared.area.Area.{Area}
use Rattle.phone.specs.declared.layout.Message.{Message}
use Rattle.phone.specs.declared.layout.Tlv.{Tlv}
use Rattle.phone.specs.Areas.{inside, outside}
use Rattle.phone.specs.Cursors.{Ahead, leaving}
use Rattle.phone.specs.Layout.{byte, control, named_in, cleared, sized, tlv, valued, past_length, beyond, Findings, failed, met, onto, going, walks, walk_over, message_of, onward}

-- what one TLV that is read says of its value

pub ok_right : (b : Bool) (g : Fault) (r : Result Tlv Fault) (t : Tlv) → cond b (Err g) r ≡ Ok t → (b ≡ false) × (r ≡ Ok t)
ok_right true g r t h = cc
ok_right false g r t h = (refl, h)

ok_left : (b : Bool) (u : Tlv) (g : Fault) (t : Tlv) → cond b (Ok u) (Err g) ≡ Ok t → (b ≡ true) × (u ≡ t)
ok_left true u g t h = (refl, cc)
ok_left false u g t h = cc

pub ok_either : (b : Bool) (u : Tlv) (r : Result Tlv Fault) (t : Tlv) → cond b (Ok u) r ≡ Ok t → ((b ≡ true) × (u ≡ t)) ⊎ ((b ≡ false) × (r ≡ Ok t))
ok_either true u r t h = inl (refl, cc)
ok_either false u r t h = inr (refl, h)

pub then_three : (c d : Bool) → (c && not d) ≡ false → c ≡ true → d ≡ true
then_three true true h k = refl
then_three true false h k = sym h
then_three false d h k = absurd (false≢true k)

-- a TLV with a length that is read: what its length byte says holds
pub record Says (pic : List ℕ) (x q : ℕ) (vs : List ℕ) (t : Tlv) : Type 0 where
  pub not_long : get_or pic q 0 ≡ 255 → ⊥
  pub three : control (get_or pic x 0) ≡ true → get_or pic q 0 ≡ 3
  pub enough : get_or pic q 0 ≤ length vs
  pub is : record { at = x; kind = get_or pic x 0; length = get_or pic q 0; place = q + 1 } ≡ t

pub says : (pic : List ℕ) (x q : ℕ) (vs : List ℕ) (t : Tlv) → sized pic x (get_or pic x 0) (q ∷ vs) ≡ Ok t → Says pic x q vs t
says pic x q vs t h =
    let n : ℕ = get_or pic q 0 in
    let k : ℕ = get_or pic x 0 in
    let a = ok_right (eqb n 255) (Layout 12 x) _ t h in
    let b = ok_right (control k && not (eqb n 3)) (Layout 10 x) _ t a.1 in
    let c = ok_left (leb n (length vs)) _ (Layout 11 x) t b.1 in
    record {
      not_long = eqb-false n 255 a.0;
      three = λ y. eqb-true n 3 (then_three (control k) (eqb n 3) b.0 y);
      enough = leb-true n (length vs) c.0;
      is = c.1;
    }

record Fits (pic l : List ℕ) (t : Tlv) : Type 0 where
  three : control t.kind ≡ true → t.length ≡ 3
  enough : t.length ≤ length (valued pic l)
  kind_is : t.kind ≡ byte pic l 0
  then : beyond pic l ≡ cleared pic t.kind t.length (valued pic l)

null_fits : (pic : List ℕ) (x : ℕ) (l : List ℕ) → eqb (get_or pic x 0) 0 ≡ true → Fits pic (x ∷ l) (record { at = x; kind = 0; length = 0; place = x + 1 })
null_fits pic x l b = record { three = λ c. absurd (false≢true c); enough = omega arith; kind_is = sym (eqb-true _ _ b); then = cond-true _ _ _ b ∙ sym (cond-true _ _ _ b) }

sized_fits : (pic : List ℕ) (x : ℕ) (l : List ℕ) (t : Tlv) → eqb (get_or pic x 0) 0 ≡ false → sized pic x (get_or pic x 0) l ≡ Ok t → Fits pic (x ∷ l) t
sized_fits pic x [] t z h = cc
sized_fits pic x (q ∷ vs) t z h =
    let r = says pic x q vs t h in
    let e = r.enough in
    let v : valued pic (x ∷ q ∷ vs) ≡ vs = cond-false _ _ _ z in
    let l = ap length v in
    let u : Fits pic (x ∷ q ∷ vs) (record { at = x; kind = get_or pic x 0; length = get_or pic q 0; place = q + 1 }) =
    record { three = r.three; enough = omega arith; kind_is = refl; then = cond-false _ _ _ z ∙ sym (ap (cleared pic (get_or pic x 0) (get_or pic q 0)) v) } in
    subst (Fits pic (x ∷ q ∷ vs)) r.is u

fits : (pic : List ℕ) (e : ℕ) (l : List ℕ) (t : Tlv) → Ok t ≡ tlv pic e l → Fits pic l t
fits pic e [] t h = cc
fits pic e (x ∷ l) t h =
    ⊎_elim (λ p. subst (Fits pic (x ∷ l)) p.1 (null_fits pic x l p.0))
    (λ p. sized_fits pic x l t p.0 (ok_right (eqb (get_or pic x 0) 0xfe) (Layout 13 x) _ t p.1).1)
    (ok_either (eqb (get_or pic x 0) 0) _ _ t (sym h))

onward_passed : (pic l : List ℕ) (t : Tlv) → Fits pic l t → (t.kind ≡ 3 → ⊥) → onward pic l ≡ beyond pic l
onward_passed pic l t f k = cond-false _ _ _ (ne_eqb _ _ (λ e. k (f.kind_is ∙ e)))

-- the walk does not depend on how many turns it is given beyond those it needs

length-outside : (r : Area) (l : List ℕ) → length (outside r l) ≤ length l
unfolding outside
length-outside r [] = omega arith
length-outside r (x ∷ l) =
    let h = length-outside r l in
    cond_both (inside r x) (outside r l) (x ∷ outside r l) (λ z. length z ≤ suc (length l)) (λ _. omega arith) (λ _. omega arith)

length-cleared : (pic : List ℕ) (k n : ℕ) (l : List ℕ) → length (cleared pic k n l) ≤ length l
length-cleared pic k n l =
    let d = length-drop n l in
    let o = length-outside (named_in pic k l) (drop n l) in
    cond_both (control k) (outside (named_in pic k l) (drop n l)) (drop n l) (λ z. length z ≤ length l) (λ _. omega arith) (λ _. omega arith)

length-past_length : (pic : List ℕ) (k : ℕ) (l : List ℕ) → length (past_length pic k l) ≤ length l
length-past_length pic k [] = omega arith
length-past_length pic k (q ∷ l) = let h = length-cleared pic k (get_or pic q 0) l in omega arith

-- a TLV takes at least one address
pub shorter : (pic : List ℕ) (e : ℕ) (l : List ℕ) → is_ok (tlv pic e l) ≡ true → length (beyond pic l) < length l
shorter pic e [] h = absurd (false≢true h)
shorter pic e (t ∷ l) h =
    let p = length-past_length pic (get_or pic t 0) l in
    cond_both (eqb (get_or pic t 0) 0) l (past_length pic (get_or pic t 0) l) (λ z. length z < suc (length l)) (λ _. omega arith) (λ _. omega arith)

going_same : (v : List ℕ) (r : Result Tlv Fault) (w z : Findings) → (is_ok r ≡ true → w ≡ z) → going v r w ≡ going v r z
going_same v (Err f) w z h = refl
going_same v (Ok t) w z h = ap (λ y. cond (eqb t.kind 3) (met t v) (onto t y)) (h refl)

turns_enough : (pic : List ℕ) (e n m : ℕ) (l : List ℕ) → length l < n → length l < m → walks pic e n l ≡ walks pic e m l
unfolding walks
turns_enough pic e zero m l h k = let b : ⊥ = omega arith in absurd b
turns_enough pic e (suc n) zero l h k = let b : ⊥ = omega arith in absurd b
turns_enough pic e (suc n) (suc m) l h k =
    going_same (valued pic l) (tlv pic e l) (walks pic e n (beyond pic l)) (walks pic e m (beyond pic l))
    (λ o. let s = shorter pic e l o in turns_enough pic e n m (beyond pic l) (omega arith) (omega arith))

-- the three laws of a walk: a fault ends it, a message ends it, any other TLV is passed

pub walk_fails : (pic : List ℕ) (e : ℕ) (l : List ℕ) (f : Fault) → tlv pic e l ≡ Err f → walk_over pic e l ≡ failed f
unfolding walks
walk_fails pic e l f h = rw h

pub walk_meets : (pic : List ℕ) (e : ℕ) (l : List ℕ) (t : Tlv) → tlv pic e l ≡ Ok t → t.kind ≡ 3 → walk_over pic e l ≡ met t (valued pic l)
unfolding walks
walk_meets pic e l t h k = rw h (cond-true _ _ _ (eq-eqb _ _ k))

pub walk_passes : (pic : List ℕ) (e : ℕ) (l : List ℕ) (t : Tlv) → tlv pic e l ≡ Ok t → (t.kind ≡ 3 → ⊥) → walk_over pic e l ≡ onto t (walk_over pic e (beyond pic l))
unfolding walks
walk_passes pic e l t h k =
    let s = shorter pic e l (ap is_ok h) in
    let g = turns_enough pic e (length l) (suc (length (beyond pic l))) (beyond pic l) (omega arith) (omega arith) in
    let q : walks pic e (suc (length l)) l ≡ going (valued pic l) (Ok t) (walks pic e (length l) (beyond pic l)) = ap (λ z. going (valued pic l) z (walks pic e (length l) (beyond pic l))) h in
    q ∙ cond-false _ _ _ (ne_eqb _ _ k) ∙ ap (onto t) g

-- the same of the answer

answered : (w v : Findings) → w ≡ v → v.answer ≡ w.answer
answered w v e = sym (ap (λ (z : Findings). z.answer) e)

pub answer_fails : (pic : List ℕ) (e : ℕ) (l : List ℕ) (f : Fault) → Err f ≡ tlv pic e l → Err f ≡ (walk_over pic e l).answer
answer_fails pic e l f h = answered (walk_over pic e l) (failed f) (walk_fails pic e l f (sym h))

-- what a TLV that is a message says, and one that is none
is_message : (t : Tlv) (m : Message) → Some m ≡ message_of t → (t.kind ≡ 3) × (m ≡ record { place = t.place; length = t.length })
is_message t m h =
    elim (eqb t.kind 3) as (λ b. eqb t.kind 3 ≡ b → Some m ≡ cond b (Some (record { place = t.place; length = t.length })) None → (t.kind ≡ 3) × (m ≡ record { place = t.place; length = t.length }))
    [ true ↦ λ e k. (eqb-true _ _ e, cc) | false ↦ λ e k. cc ] refl h

no_message : (t : Tlv) → None ≡ message_of t → t.kind ≡ 3 → ⊥
no_message t h k = let e = h ∙ cond-true _ _ _ (eq-eqb _ _ k) in cc

-- nothing but the answer is left
abbrev pub ended : List ℕ → Result Message Fault → Findings
ended v r = record { tlvs = []; value = v; answer = r }

pub walk_ends : (pic : List ℕ) (e : ℕ) (l : List ℕ) (t : Tlv) (m : Message) → Ok t ≡ tlv pic e l → Some m ≡ message_of t → walk_over pic e l ≡ onto t (ended (take t.length (valued pic l)) (Ok m))
walk_ends pic e l t m h k =
    let i = is_message t m k in
    walk_meets pic e l t (sym h) i.0 ∙ ap (λ z. onto t (ended (take t.length (valued pic l)) (Ok z))) (sym i.1)

pub answer_meets : (pic : List ℕ) (e : ℕ) (l : List ℕ) (t : Tlv) (m : Message) → Ok t ≡ tlv pic e l → Some m ≡ message_of t → Ok m ≡ (walk_over pic e l).answer
answer_meets pic e l t m h k = answered (walk_over pic e l) _ (walk_ends pic e l t m h k)

-- what is ahead was moved past a TLV: less is left, and the walk from there on is the rest of the walk
pub record Moved (s t : Ahead) (v : Tlv) : Type 0 where
  pub fewer : length t.left < length s.left
  pub finds : walk_over s.picture s.end s.left ≡ onto v (walk_over t.picture t.end t.left)

moving_on : (s : Ahead) (v : Tlv) → Ok v ≡ tlv s.picture s.end s.left → (v.kind ≡ 3 → ⊥) → Moved s (leaving s (onward s.picture s.left)) v
moving_on s v h k =
    let pic : List ℕ = s.picture in
    let o = onward_passed pic s.left v (fits pic s.end s.left v h) k in
    let n = shorter pic s.end s.left (sym (ap is_ok h)) in
    rw o (record { fewer = n; finds = walk_passes pic s.end s.left v (sym h) k })

pub moving : (s t : Ahead) (v : Tlv) → Ok v ≡ tlv s.picture s.end s.left → t ≡ leaving s (onward s.picture s.left) → None ≡ message_of v → Moved s t v
moving s t v h a k = subst (λ z. Moved s z v) (sym a) (moving_on s v h (no_message v k))
