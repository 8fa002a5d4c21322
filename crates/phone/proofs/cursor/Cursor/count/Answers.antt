use Rattle.std.proofs.Common.{◌-◌, Bool, List, not, length, take, drop, sym, ap, ◌∙◌, arith}
use Rattle.std.proofs.lemmas.List.{take_all}
use Rattle.std.specs.List.{count_by}
use Rattle.phone.specs.Cursors.{Ahead}
use Rattle.phone.proofs.Addresses.{length-free}
use Rattle.phone.proofs.cursor.Cursor.count.Goals as goal

pub returns : goal.returns
returns c =
    let f = c.self.inside in
    let t = c.self.told in
    let i = c.self.invariant in
    let ahead : List Bool = take (f.end - f.next) (drop f.next f.skipped) in
    let all = take_all c.loop-skipped.skipped-index ahead c.loop-skipped-test.false in
    record {
      value =
          c.loop-skipped.invariant ∙ ap (count_by not) all ∙ sym (length-free f.skipped (f.end - f.next) f.next (omega arith))
          ∙ ap (λ (a : Ahead). length a.left) c.self.view_is;
    }
