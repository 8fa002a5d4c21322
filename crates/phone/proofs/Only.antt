-- What lies in a picture is what its walk finds.
use Rattle.std.proofs.Common.{◌≡◌, ℕ, ◌+◌, ◌<◌, ◌≤◌, Bool, true, false, not, ◌&&◌, eqb, List, [], ◌∷◌, ◌++◌, length, get_or, drop, Ok, Err, Result, sym, refl, ap, ◌∙◌, subst, ⊎_elim, append_assoc, arith, length-append}
use Rattle.std.proofs.lemmas.Bool.{cases_Bool, cond-true, cond-false, le-leb, lt-leb, ne_eqb, eq-eqb, eqb-true, false≢true, or_cases}
use Rattle.std.proofs.ByRecursion.{All-weaker}
use Rattle.std.proofs.lemmas.List.{take_at, drop_at}
use Rattle.std.specs.List.{flat_map, AllByRecursion}
use Rattle.air.specs.declared.fault.Fault.{Fault}
use Rattle.phone.specs.declared.layout.Tlv.{Tlv}
use Rattle.phone.specs.declared.layout.Message.{Message}
use Rattle.phone.specs.Layout.{accepted, area, area_end, control, cleared, sized, tlv, valued, beyond, Findings, met, onto, walk_over, walked}
use Rattle.phone.specs.Tiling.{type_of, Null, Sized, Passed, entry, hidden, visible, Meets, Lengthy, Fails, nothing_left, terminated, no_length, long, not_three, cut_short, Ends, found, Lies, LaidOut, ReadOff}
use Rattle.phone.proofs.Steps.{walk_fails, walk_meets, walk_passes}
use Rattle.phone.proofs.Rising.{Above, Rising, rising_left, rising_right, crossing, rising_area, pruned, rising_pruned, visible_nil, all_visible, rising_visible, pruning, five, fifth, hides_control, hidden_all_past}
use Rattle.phone.proofs.Blocks.{blockwise}
use Rattle.phone.proofs.Lying.{pruned_same, lies}

-- what stands first is what the rules of one TLV give

and_not : (c d : Bool) → (c ≡ true → d ≡ true) → (c && not d) ≡ false
and_not true true h = refl
and_not true false h = sym (h refl)
and_not false d h = refl

lengthy : (pic : List ℕ) (e t : ℕ) (l : List ℕ) → Lengthy (get_or pic t 0) → tlv pic e (t ∷ l) ≡ sized pic t (get_or pic t 0) l
lengthy pic e t l y = cond-false _ _ _ (ne_eqb _ _ y.not_null) ∙ cond-false _ _ _ (ne_eqb _ _ y.not_end)

control_lengthy : (k : ℕ) → control k ≡ true → Lengthy k
control_lengthy k c = record { not_null = λ z. absurd (false≢true (sym (ap control z) ∙ c)); not_end = λ z. absurd (false≢true (sym (ap control z) ∙ c)) }

fault_first : (pic : List ℕ) (e : ℕ) (l : List ℕ) (f : Fault) → Fails pic e l f → tlv pic e l ≡ Err f
fault_first pic e l f nothing_left = refl
fault_first pic e l f (terminated t m k) =
    let z : get_or pic t 0 ≡ 0 → ⊥ = λ y. omega arith in
    cond-false _ _ _ (ne_eqb _ _ z) ∙ cond-true _ _ _ (eq-eqb _ _ k)
fault_first pic e l f (no_length t y) = lengthy pic e t [] y
fault_first pic e l f (long t q m y h) = lengthy pic e t (q ∷ m) y ∙ cond-true _ _ _ (eq-eqb _ _ h)
fault_first pic e l f (not_three t q m c h k) =
    let n3 : (control (get_or pic t 0) && not (eqb (get_or pic q 0) 3)) ≡ true = rw (c, ne_eqb (get_or pic q 0) 3 k) in
    lengthy pic e t (q ∷ m) (control_lengthy _ c) ∙ cond-false _ _ _ (ne_eqb _ _ h) ∙ cond-true _ _ _ n3
fault_first pic e l f (cut_short t q m y h c n) =
    let n3 : (control (get_or pic t 0) && not (eqb (get_or pic q 0) 3)) ≡ false = and_not (control (get_or pic t 0)) (eqb (get_or pic q 0) 3) (λ z. eq-eqb _ _ (c z)) in
    lengthy pic e t (q ∷ m) y ∙ cond-false _ _ _ (ne_eqb _ _ h) ∙ cond-false _ _ _ n3 ∙ cond-false _ _ _ (lt-leb _ _ n)

-- a whole TLV in front is read
record Written (pic : List ℕ) (e : ℕ) (m more : List ℕ) : Type 0 where
  value : tlv pic e (m ++ more) ≡ Ok (entry pic m)
  on : beyond pic (m ++ more) ≡ pruned pic m more

entry_kind : (pic m : List ℕ) → (entry pic m).kind ≡ type_of pic m
entry_kind pic m =
    ⊎_elim (λ b. ap (λ (t : Tlv). t.kind) (cond-true _ _ _ b) ∙ sym (eqb-true _ _ b)) (λ b. ap (λ (t : Tlv). t.kind) (cond-false _ _ _ b)) (cases_Bool (eqb (type_of pic m) 0))

null_written : (pic : List ℕ) (e : ℕ) (m more : List ℕ) → Null pic m → Written pic e m more
null_written pic e [] more n = let a = n.alone in let z : ⊥ = omega arith in absurd z
null_written pic e (x ∷ []) more n =
    let k = n.is_null in
    let b = eq-eqb _ _ k in
    record { value = cond-true _ _ _ b ∙ ap Ok (sym (cond-true _ _ _ b)); on = cond-true _ _ _ b ∙ sym (cond-false _ _ _ (ap control k)) }
null_written pic e (x ∷ y ∷ m) more n = let a = n.alone in let z : ⊥ = omega arith in absurd z

sized_written : (pic : List ℕ) (e : ℕ) (m more : List ℕ) → Sized pic m → (type_of pic m ≡ 0xfe → ⊥) → Written pic e m more
sized_written pic e [] more s h = let f = s.full in let z : ⊥ = omega arith in absurd z
sized_written pic e (x ∷ []) more s h = let f = s.full in let z : ⊥ = omega arith in absurd z
sized_written pic e (x ∷ q ∷ v) more s h =
    let n : ℕ = get_or pic q 0 in
    let k : ℕ = get_or pic x 0 in
    let ln : length v ≡ n = let f = s.full in omega arith in
    let th = s.three in
    let en : n ≤ length (v ++ more) = omega (arith, length-append v more) in
    let z = ne_eqb k 0 s.not_null in
    let n3 : (control k && not (eqb n 3)) ≡ false = and_not (control k) (eqb n 3) (λ y. eq-eqb n 3 (th y)) in
    let p : cleared pic k n (v ++ more) ≡ pruned pic (x ∷ q ∷ v) more =
    pruned_same pic x q n (v ++ more) th ∙ ap (λ y. pruned pic (x ∷ q ∷ y) (drop n (v ++ more))) (take_at v more n ln) ∙ ap (λ y. pruned pic (x ∷ q ∷ v) y) (drop_at v more n ln) in
    record {
      value = lengthy pic e x (q ∷ (v ++ more)) (record { not_null = s.not_null; not_end = h }) ∙ cond-false _ _ _ (ne_eqb n 255 s.not_long) ∙ cond-false _ _ _ n3 ∙ cond-true _ _ _ (le-leb n (length (v ++ more)) en)
          ∙ ap Ok (sym (cond-false _ _ _ z));
      on = cond-false _ _ _ z ∙ p;
    }

written : (pic : List ℕ) (e : ℕ) (m more : List ℕ) → Passed pic m → Written pic e m more
written pic e m more p = ⊎_elim (λ n. null_written pic e m more n) (λ s. sized_written pic e m more s p.not_end) p.form

same_findings : (w v : Findings) → w.tlvs ≡ v.tlvs → w.value ≡ v.value → w.answer ≡ v.answer → w ≡ v
same_findings w v p q r =
    let a : List Tlv → Findings = λ z. record { tlvs = z; value = w.value; answer = w.answer } in
    let b : List ℕ → Findings = λ z. record { tlvs = v.tlvs; value = z; answer = w.answer } in
    let c : Result Message Fault → Findings = λ z. record { tlvs = v.tlvs; value = v.value; answer = z } in
    ap a p ∙ ap b q ∙ ap c r

message_first : (pic : List ℕ) (e : ℕ) (l : List ℕ) (w : Findings) → Meets pic l w → walk_over pic e l ≡ w
message_first pic e l w h =
    let t : ℕ = h.type_at in
    let q : ℕ = h.length_at in
    let n : ℕ = get_or pic q 0 in
    let m : List ℕ = t ∷ q ∷ w.value in
    let k = h.is_message in
    let nn : get_or pic t 0 ≡ 0 → ⊥ = λ y. omega arith in
    let c0 : control (get_or pic t 0) ≡ false = ap control k in
    let wh = h.whole in
    let s : Sized pic m = record { full = omega arith; not_null = nn; not_long = h.not_long; three = λ y. absurd (false≢true (sym c0 ∙ y)) } in
    let wr = sized_written pic e m h.behind s (λ y. omega arith) in
    let en : (entry pic m).kind ≡ 3 = entry_kind pic m ∙ k in
    let g = walk_meets pic e (m ++ h.behind) (entry pic m) wr.value en in
    let nz = ne_eqb _ _ nn in
    let is_entry : entry pic m ≡ record { at = t; kind = 3; length = n; place = q + 1 } =
    let F : ℕ → Tlv = λ y. record { at = t; kind = y; length = n; place = q + 1 } in cond-false _ _ _ nz ∙ ap F k in
    let v : valued pic (m ++ h.behind) ≡ w.value ++ h.behind = cond-false _ _ _ nz in
    let x : met (entry pic m) (valued pic (m ++ h.behind)) ≡ met (record { at = t; kind = 3; length = n; place = q + 1 }) (w.value ++ h.behind) =
    ap (λ y. met y (valued pic (m ++ h.behind))) is_entry ∙ ap (met (record { at = t; kind = 3; length = n; place = q + 1 })) v in
    let y : met (record { at = t; kind = 3; length = n; place = q + 1 }) (w.value ++ h.behind) ≡ w =
    same_findings _ w (sym h.lists) (take_at w.value h.behind n wh) (sym h.answers) in
    ap (walk_over pic e) h.split ∙ g ∙ x ∙ y

end_first : (pic : List ℕ) (e : ℕ) (l : List ℕ) (w : Findings) → Ends pic e l w → walk_over pic e l ≡ w
end_first pic e l w h =
    ⊎_elim (λ m. message_first pic e l w m) (λ f. walk_fails pic e l f.0 (fault_first pic e l f.0 f.1) ∙ sym f.2) h

-- where nothing up to the end of m is hidden, m stands in front

record Front (pic : List ℕ) (ms : List (List ℕ)) (l m xs : List ℕ) : Type 0 where
  more : List ℕ
  split : l ≡ m ++ more
  then : visible pic ms more ≡ xs

front : (pic : List ℕ) (ms : List (List ℕ)) (l m xs : List ℕ) → Rising l → visible pic ms l ≡ m ++ xs → ((a : ℕ) → hidden pic ms a ≡ true → AllByRecursion (λ y. y < a) m) → Front pic ms l m xs
unfolding visible
front pic ms l [] xs u v h = record { more = l; split = refl; then = v }
front pic ms [] (y ∷ m) xs u v h = cc
front pic ms (x ∷ l) (y ∷ m) xs u v h =
    ⊎_elim
    (λ t.
    let e : visible pic ms l ≡ y ∷ (m ++ xs) = sym (cond-true _ _ _ t) ∙ v in
    let w : Above x (y ∷ (m ++ xs)) = subst (Above x) e (all_visible (λ a. x < a) pic ms l u.0) in
    let p = w.0 in
    let q = (h x t).0 in
    let z : ⊥ = omega arith in absurd z)
    (λ f.
    let e : x ∷ visible pic ms l ≡ y ∷ (m ++ xs) = sym (cond-false _ _ _ f) ∙ v in
    let r = front pic ms l m xs u.1 (cc) (λ a k. (h a k).1) in
    let s : x ∷ l ≡ y ∷ (m ++ r.more) = let q = r.split in cc in
    record { more = r.more; split = s; then = r.then })
    (cases_Bool (hidden pic ms x))

past : (pic x : List ℕ) (ms : List (List ℕ)) (r : List ℕ) → Passed pic x → AllByRecursion (Passed pic) ms → Rising x → AllByRecursion (λ y. Above y (flat_map (λ y. y) ms ++ r)) x → (a : ℕ) → hidden pic (x ∷ ms) a ≡ true → AllByRecursion (λ y. y < a) x
unfolding hidden
past pic x ms r px p ux cr a h =
    ⊎_elim
    (λ t. let q = hides_control pic x a t in
    let n = five pic x px q.0 in
    let e = q.1 in
    All-weaker (λ y. y ≤ get_or x 4 0) (λ y. y < a) (λ y d. omega arith) x (fifth x ux n))
    (λ t. hidden_all_past pic ms a x r p cr t)
    (or_cases _ _ h)

finds : (pic : List ℕ) (e : ℕ) (ms : List (List ℕ)) (l rest : List ℕ) (w : Findings) → Rising l → visible pic ms l ≡ flat_map (λ x. x) ms ++ rest → AllByRecursion (Passed pic) ms → Ends pic e rest w → walk_over pic e l ≡ found pic ms w
finds pic e [] l rest w u v p d = ap (walk_over pic e) (sym (visible_nil pic l) ∙ v) ∙ end_first pic e rest w d
finds pic e (x ∷ ms) l rest w u v p d =
    let X : List ℕ = flat_map (λ y. y) ms ++ rest in
    let v2 : visible pic (x ∷ ms) l ≡ x ++ X = v ∙ append_assoc x (flat_map (λ y. y) ms) rest in
    let ux : Rising (x ++ X) = subst Rising v2 (rising_visible pic (x ∷ ms) l u) in
    let cr = crossing x X ux in
    let fr = front pic (x ∷ ms) l x X u v2 (past pic x ms rest p.0 p.1 (rising_left x X ux) cr) in
    let more : List ℕ = fr.more in
    let ul : Rising (x ++ more) = subst Rising fr.split u in
    let pr = pruning pic x more ms p.0 ul in
    let wr = written pic e x more p.0 in
    let i = finds pic e ms (pruned pic x more) rest w (rising_pruned pic x more (rising_right x more ul)) (sym pr ∙ fr.then) p.1 d in
    let g = walk_passes pic e (x ++ more) (entry pic x) wr.value (λ y. p.0.not_message (sym (entry_kind pic x) ∙ y)) in
    ap (walk_over pic e) fr.split ∙ g ∙ ap (λ y. onto (entry pic x) (walk_over pic e y)) wr.on ∙ ap (onto (entry pic x)) i

pub only : (pic : List ℕ) (w : Findings) → Lies pic w → w ≡ walk_over pic (area_end pic) (area pic)
only pic w d = d.finds ∙ sym (finds pic (area_end pic) d.before (area pic) d.rest d.last (rising_area pic) d.tiles d.passed d.ends)

-- what is found in a picture is laid out there
pub laid_out : (pic : List ℕ) → LaidOut pic (walked pic)
laid_out pic =
    let w : Findings = walk_over pic (area_end pic) (area pic) in
    let on : length pic ≡ 256 → accepted pic ≡ true → walked pic ≡ w = λ l a. cond-true _ _ _ (eq-eqb _ _ l) ∙ cond-true _ _ _ a in
    record {
      no_picture = λ n. cond-false _ _ _ (ne_eqb _ _ n);
      no_container = λ l a. cond-true _ _ _ (eq-eqb _ _ l) ∙ cond-false _ _ _ a;
      lies = λ l a. subst (Lies pic) (sym (on l a)) (lies pic);
      only = λ l a v d. only pic v d ∙ sym (on l a);
      lock_areas = blockwise;
    }

pub read_off : (pic : List ℕ) (r : Result Message Fault) → r ≡ (walked pic).answer → ReadOff pic r
read_off pic r h = record { found_there = walked pic; laid_out = laid_out pic; answer_is = h }
