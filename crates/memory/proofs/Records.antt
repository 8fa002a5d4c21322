-- One record more, and what a run of records says of each block.
use Rattle.std.proofs.Common.{◌≡◌, ℕ, ◌+◌, ◌<◌, ◌≢◌, List, [], ◌∷◌, ◌++◌, length, get_or, take, set, Some, None, Option, unwrap_or, sym, refl, ap, ◌∙◌, ⊎_elim, arith, length-set}
use lib.Seq.{take-set-le}
use Rattle.std.proofs.lemmas.List.{get_or-set_same, get_or-set_other, ext_get_or, take_more}
use Rattle.std.proofs.lemmas.List.FromFn.{get_or-map-range_with_len}
use Rattle.std.proofs.lemmas.Bool.{cases_eq, cond-true, cond-false, eq-eqb, ne_eqb}
use Rattle.memory.specs.declared.latest.Record.{Record}
use Rattle.memory.specs.Latest.{later_or, said_by, latest_of}
use Rattle.memory.specs.Log.{block_by, blocks_by, length_by}

of_none : (b : ℕ) → latest_of [] b ≡ None
unfolding latest_of
of_none b = refl

later_assoc : (x y z : Option (List ℕ)) → later_or x (later_or y z) ≡ later_or (later_or x y) z
later_assoc (Some v) y z = refl
later_assoc None y z = refl

later_none : (x : Option (List ℕ)) → later_or x None ≡ x
later_none (Some v) = refl
later_none None = refl

-- the last record has the first word
of_more : (rs : List Record) (r : Record) (b : ℕ) → latest_of (rs ++ r ∷ []) b ≡ later_or (said_by r b) (latest_of rs b)
unfolding latest_of
of_more [] r b = sym (later_none (said_by r b))
of_more (x ∷ rs) r b = ap (λ v. later_or v (said_by x b)) (of_more rs r b) ∙ sym (later_assoc (said_by r b) (latest_of rs b) (said_by x b))

said_same : (r : Record) (b : ℕ) → r.block ≡ b → said_by r b ≡ Some r.bytes
said_same r b e = cond-true _ _ _ (eq-eqb _ _ e)

said_other : (r : Record) (b : ℕ) → r.block ≢ b → said_by r b ≡ None
said_other r b n = cond-false _ _ _ (ne_eqb _ _ n)

-- the last record is the block's
pub found : (all rs : List Record) (r : Record) (b : ℕ) → all ≡ rs ++ r ∷ [] → r.block ≡ b → latest_of all b ≡ Some r.bytes
found all rs r b e h = ap (λ l. latest_of l b) e ∙ of_more rs r b ∙ ap (λ v. later_or v (latest_of rs b)) (said_same r b h)

-- or it is not, and the others tell
pub passed : (all rs : List Record) (r : Record) (b : ℕ) → all ≡ rs ++ r ∷ [] → r.block ≢ b → latest_of all b ≡ latest_of rs b
passed all rs r b e h = ap (λ l. latest_of l b) e ∙ of_more rs r b ∙ ap (λ v. later_or v (latest_of rs b)) (said_other r b h)

pub none_left : (rs : List Record) (b : ℕ) → length rs ≡ 0 → latest_of rs b ≡ None
none_left [] b h = of_none b
none_left (r ∷ rs) b h = let w : ⊥ = omega arith in absurd w

pub block_at : (rs : List Record) (b : ℕ) → b < 64 → get_or (blocks_by rs) b [] ≡ block_by rs b
unfolding blocks_by
block_at rs b h = get_or-map-range_with_len (block_by rs) 0 64 b b [] h (omega arith)

-- a record more is its block written
pub one_more : (rs : List Record) (r : Record) → r.block < 64 → blocks_by (rs ++ r ∷ []) ≡ set (blocks_by rs) r.block r.bytes
one_more rs r hb =
    let more = rs ++ r ∷ [] in
    let le : length (set (blocks_by rs) r.block r.bytes) ≡ 64 = simp length-set (length_by rs) in
    ext_get_or [] _ _ (length_by more ∙ sym le)
    (λ k h.
    let k64 : k < 64 = omega (arith, length_by more) in
    let inb : r.block < length (blocks_by rs) = omega (arith, length_by rs) in
    ⊎_elim
    (λ e.
    let at : block_by more k ≡ r.bytes = ap (λ v. unwrap_or v (0 ∷ 0 ∷ 0 ∷ 0 ∷ [])) (found more rs r k refl (sym e)) in
    let q = get_or-set_same (blocks_by rs) r.block r.bytes [] inb in
    let z = ap (λ n. get_or (set (blocks_by rs) r.block r.bytes) n []) e in
    block_at more k k64 ∙ at ∙ sym q ∙ sym z)
    (λ n.
    let at : block_by more k ≡ block_by rs k = ap (λ v. unwrap_or v (0 ∷ 0 ∷ 0 ∷ 0 ∷ [])) (passed more rs r k refl (λ e. n (sym e))) in
    let q = get_or-set_other (blocks_by rs) r.block k r.bytes [] n in
    block_at more k k64 ∙ at ∙ sym (block_at rs k k64) ∙ sym q)
    (cases_eq k r.block))

-- a record put at the first unused place
pub appended : (places : List Record) (used : ℕ) (r : Record) → used < length places → r.block < 64
    → blocks_by (take (used + 1) (set places used r)) ≡ set (blocks_by (take used places)) r.block r.bytes
appended places used r h hb =
    let inside : used < length (set places used r) = simp length-set h in
    let t : take (used + 1) (set places used r) ≡ take used places ++ r ∷ [] =
    take_more (set places used r) used r inside
    ∙ ap (λ v. take used (set places used r) ++ v ∷ []) (get_or-set_same places used r r h)
    ∙ ap (λ v. v ++ r ∷ []) (take-set-le used places used r (omega arith)) in
    ap blocks_by t ∙ one_more (take used places) r hb
