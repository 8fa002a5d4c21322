use Rattle.std.proofs.Common.{◌-◌, ap, ◌∙◌, arith}
use Rattle.std.proofs.lemmas.Bool.{lt-ltb}
use Rattle.phone.specs.Areas.{outside}
use Rattle.phone.specs.Cursors.{Ahead, free, leaving}
use Rattle.phone.proofs.Addresses.{free-outside, marked}
use Rattle.phone.proofs.cursor.Cursor.skip.Goals as goal

pub returns : goal.returns
returns c =
    let f = c.self.inside in
    let b = c.below.ensures.value in
    let i = c.self.invariant in
    let t = c.self.told in
    let u = c.loop-skipped in
    let n = u.auto.skipped-items in
    let d = c.loop-skipped-test.false in
    let m = marked c.args.area f.skipped u.skipped-items c.below.result.start c.below.result.end t b.0 b.1 u.auto.skipped-items in
    let o = free-outside c.args.area f.skipped _ (f.end - f.next) f.next (λ k l h. m (λ x y. u.invariant x (omega arith) (lt-ltb _ _ (omega arith))) k (omega arith)) in
    let a : Ahead = record { picture = f.picture.now; end = f.end; left = free f.skipped f.next (f.end - f.next) } in
    record { after = ap (leaving a) o ∙ ap (λ (a : Ahead). leaving a (outside c.args.area a.left)) c.self.view_is }
