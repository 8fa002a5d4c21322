use Rattle.std.proofs.Common.{◌≡◌, ℕ, ◌+◌, ◌*◌, ◌/◌, ◌%◌, Bool, true, false, eqb, List, take, subst, sym, arith}
use lib.Bits.{bit_and, and_mask}
use Rattle.std.proofs.lemmas.Bool.{eq-eqb, ne_eqb}
use Rattle.tag.specs.Window.{Window, window_by, text_by, read_in}
use Rattle.tag.proofs.window.Window.new.Goals as goal
use Rattle.tag.proofs.window.Window.new.Goals.{in-true-true, in-true-false, in-false-true, in-false-false}

-- the window by what the two switches say
switched : (at : ℕ → ℕ) (code : List ℕ) (p q : Bool) → eqb (bit_and (at 185) 1) 1 ≡ p → eqb (bit_and (at 185 / 4) 1) 1 ≡ q
    → ◌≡◌ {A = Window} (record { start = (bit_and (at 184) 63 * 4) % 256 + at 185 / 64; text = text_by at p q code }) (window_by at code)
switched at code p q e f =
    let m = and_mask (at 184) 6 in
    let start : (bit_and (at 184) 63 * 4) % 256 + at 185 / 64 ≡ 4 * (at 184 % 64) + at 185 / 64 = omega (arith, m) in
    let a = and_mask (at 185) 1 in
    let b = and_mask (at 185 / 4) 1 in
    cc

pub returns : goal.returns
returns c =
    let at = read_in c.args.setting c.args.custom in
    let by = switched at c.args.code in
    let cut = λ (t : ℕ × List ℕ). ◌≡◌ {A = Window} (record { start = (bit_and (at 184) 63 * 4) % 256 + at 185 / 64; text = take t.0 t.1 }) (window_by at c.args.code) in
    elim c.if-setting-eq1.branch [
      | in-true-true w ↦ (let arm = w.in-true-true in record { value = subst cut (sym w.len-is) (by true true (eq-eqb _ _ arm.is-0) (eq-eqb _ _ arm.is-1)) })
      | in-true-false w ↦ (let arm = w.in-true-false in record { value = subst cut (sym w.len-is) (by true false (eq-eqb _ _ arm.is-0) (ne_eqb _ _ arm.is-1)) })
      | in-false-true w ↦ (let arm = w.in-false-true in record { value = subst cut (sym w.len-is) (by false true (ne_eqb _ _ arm.is-0) (eq-eqb _ _ arm.is-1)) })
      | in-false-false w ↦ (let arm = w.in-false-false in record { value = subst cut (sym w.len-is) (by false false (ne_eqb _ _ arm.is-0) (ne_eqb _ _ arm.is-1)) })
    ]
