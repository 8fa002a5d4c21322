-- The worked examples, by computation.
use Rattle.std.proofs.Common.{◌≡◌, ℕ, true, false, leb, List, [], ◌∷◌, ◌++◌, refl, ◌∙◌, arith}
use Rattle.std.proofs.lemmas.Bool.{eq-eqb, le-leb, lt-leb, cond-true, cond-false}
use Rattle.std.specs.List.{range_with_len}
use Rattle.air.specs.Crc.{byte_in, crc, sent}
use Rattle.air.specs.declared.fault.Fault.TheVariants.{Layout}
use Rattle.phone.specs.Areas.{starts, named, outside}
use Rattle.phone.specs.App.{reported}
use Rattle.phone.specs.Layout.{accepted, area, area_end, failed, walks, walked}
use Rattle.examples.specs.Worked.{Container, Worked, locked_picture}

zeros : sent (crc (0x00 ∷ 0x00 ∷ [])) ≡ 0xa0 ∷ 0x1e ∷ []
unfolding crc byte_in
zeros = refl

twelve : sent (crc (0x12 ∷ 0x34 ∷ [])) ≡ 0x26 ∷ 0xcf ∷ []
unfolding crc byte_in
twelve = refl

locks : outside (named 1 0xb0 0x18 0x34) (range_with_len 0 256) ≡ range_with_len 0 176 ++ range_with_len 180 76
unfolding outside named starts
locks = refl

accepts : (pic : List ℕ) → Container pic 0x1e → accepted pic ≡ true
accepts pic c =
    let m = eq-eqb _ _ c.magic in
    let v = eq-eqb _ _ c.version in
    let e = c.eights in
    let l : leb (area_end pic) 256 ≡ true = le-leb (area_end pic) 256 (omega arith) in
    rw (m, v) l

not_accepts : (pic : List ℕ) → Container pic 0x1f → accepted pic ≡ false
not_accepts pic c =
    let m = eq-eqb _ _ c.magic in
    let v = eq-eqb _ _ c.version in
    let e = c.eights in
    let l : leb (area_end pic) 256 ≡ false = lt-leb (area_end pic) 256 (omega arith) in
    rw (m, v) l

refuses : (pic : List ℕ) → Container pic 0x1f → walked pic ≡ failed (Layout 9 12)
refuses pic c = cond-true _ _ _ (eq-eqb _ _ c.full) ∙ cond-false _ _ _ (not_accepts pic c)

past_locks : reported (walked locked_picture).answer ≡ record { number = 0; place = 181; length = 0 }
unfolding walks area outside named starts
past_locks = refl

pub worked : Worked
worked = record { crc_of_zeros = zeros; crc_of_12_34 = twelve; lock_area = locks; size_accepted = accepts; size_refused = refuses; past_lock_area = past_locks }
