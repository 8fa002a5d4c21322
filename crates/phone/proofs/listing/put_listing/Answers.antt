use Rattle.std.proofs.Common.{◌≡◌, length, sym, ap, ◌∙◌, arith}
use Rattle.phone.specs.Buffers.{over}
use Rattle.phone.specs.Layout.{walked}
use Rattle.phone.specs.Listing.{text}
use Rattle.phone.proofs.Openings.{opening, not_opening}
use Rattle.phone.proofs.Lines.{text-failed}
use Rattle.phone.proofs.Only.{laid_out}
use Rattle.phone.proofs.listing.put_listing.Goals as goal

pub put_walk-requires : goal.put_walk-requires
put_walk-requires c = let f = (opening c.args.picture.now c.in-Ok.cursor c.in-Ok.ensures.value).few in omega arith

pub returns-in-Ok : goal.returns-in-Ok
returns-in-Ok c =
    let o = opening c.args.picture.now c.in-Ok.cursor c.in-Ok.ensures.value in
    record {
      value = c.put_walk.ensures.value ∙ ap (λ w. length (text w)) o.finds;
      bound = let b = c.put_walk.ensures.bound in let f = o.few in omega arith;
      after = c.put_walk.ensures.after ∙ ap (λ w. over c.args.out.now 0 (text w)) o.finds;
      laid = laid_out c.args.picture.now;
    }

pub returns-in-Err : goal.returns-in-Err
returns-in-Err c =
    let f = c.in-Err.fault in
    let h = not_opening c.args.picture.now f c.in-Err.ensures.value in
    let t : c.last_line.result ≡ text (walked c.args.picture.now) = c.last_line.ensures.value ∙ sym (ap text h.0 ∙ text-failed f) in
    record {
      value = let v = c.put_line.ensures.value in let l = ap length t in omega arith;
      bound = let b = c.put_line.ensures.bound in omega arith;
      after = c.put_line.ensures.after ∙ ap (over c.args.out.now 0) t;
      laid = laid_out c.args.picture.now;
    }
