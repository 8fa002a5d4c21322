use Rattle.std.proofs.Common.{◌≡◌, Ok, Err, is_ok, sym, refl, ap, ◌∙◌, subst, ◌+◌, arith, length}
use Rattle.phone.specs.Buffers.{over}
use Rattle.phone.specs.Layout.{walk_over}
use Rattle.phone.specs.Listing.{tlv_line, last_line, text}
use Rattle.phone.proofs.Steps.{shorter, walk_fails, walk_ends, moving}
use Rattle.phone.proofs.Lines.{Stands, line_on, finish}
use Rattle.phone.proofs.listing.put_walk.Goals as goal

pub loop-tlv-smaller : goal.loop-tlv-smaller
loop-tlv-smaller c = (moving c.loop-tlv.cursor c.next_tlv.new.self c.in-Ok.tlv c.in-Ok.ensures.value (c.in-Ok.ensures.after refl) (sym c.in_default.is ∙ c.message.ensures.value)).fewer

pub loop-tlv-preserved : goal.loop-tlv-preserved
loop-tlv-preserved c =
    let l = c.loop-tlv in
    let t = c.in-Ok.tlv in
    let m = moving l.cursor c.next_tlv.new.self t c.in-Ok.ensures.value (c.in-Ok.ensures.after refl) (sym c.in_default.is ∙ c.message.ensures.value) in
    let f = m.fewer in
    let b = c.put_line-at.ensures.bound in
    let r = l.invariant.room in
    let q = c.tlv_line.ensures.value in
    let p : c.put_line-at.new.out ≡ over l.out l.at (tlv_line t) = let e = c.put_line-at.ensures.after in cc in
    let n : c.put_line-at.result ≡ l.at + length (tlv_line t) = let e = c.put_line-at.ensures.value in cc in
    record { stands = line_on l.out c.put_line-at.new.out l.at c.put_line-at.result t _ _ _ _ n (omega arith) m.finds p l.invariant.stands; room = omega arith }

pub returns-in-Some : goal.returns-in-Some
returns-in-Some c =
    let l = c.loop-tlv in
    let k = l.cursor in
    let t = c.in-Ok.tlv in
    let q = c.tlv_line.ensures.value in
    let w = walk_ends k.picture k.end k.left t c.in-Some.message c.in-Ok.ensures.value (sym c.in-Some.is ∙ c.message.ensures.value) in
    let p : c.put_line-at.new.out ≡ over l.out l.at (tlv_line t) = let e = c.put_line-at.ensures.after in cc in
    let n : c.put_line-at.result ≡ l.at + length (tlv_line t) = let e = c.put_line-at.ensures.value in cc in
    let st = line_on l.out c.put_line-at.new.out l.at c.put_line-at.result t _ _ _ _ n (omega arith) w p l.invariant.stands in
    let a : c.put_line.new.out ≡ over c.put_line-at.new.out c.put_line-at.result (last_line (Ok c.in-Some.message)) = let e = c.put_line.ensures.after in let z = c.last_line.ensures.value in cc in
    let b : c.put_line.result ≡ c.put_line-at.result + length (last_line (Ok c.in-Some.message)) = let e = c.put_line.ensures.value in let z = c.last_line.ensures.value in cc in
    let r = finish c.put_line-at.new.out c.put_line.new.out c.put_line-at.result c.put_line.result _ _ _ _ a b st in
    let x = shorter k.picture k.end k.left (sym (ap is_ok c.in-Ok.ensures.value)) in
    let y = c.put_line-at.ensures.bound in
    let z = c.put_line.ensures.bound in
    let m = l.invariant.room in
    record { value = r.counted; bound = omega arith; after = r.puts }

pub returns-in-Err : goal.returns-in-Err
returns-in-Err c =
    let l = c.loop-tlv in
    let k = l.cursor in
    let w = walk_fails k.picture k.end k.left c.in-Err.fault (sym c.in-Err.ensures.value) in
    let st = subst (λ v. Stands l.out l.at v c.args.out.now (text (walk_over c.args.cursor.picture c.args.cursor.end c.args.cursor.left))) w l.invariant.stands in
    let z = c.last_line-in-Err.ensures.value in
    let a : c.put_line-in-Err.new.out ≡ over l.out l.at (last_line (Err c.in-Err.fault)) = let e = c.put_line-in-Err.ensures.after in cc in
    let b : c.put_line-in-Err.result ≡ l.at + length (last_line (Err c.in-Err.fault)) = let e = c.put_line-in-Err.ensures.value in cc in
    let r = finish l.out c.put_line-in-Err.new.out l.at c.put_line-in-Err.result _ _ _ _ a b st in
    let y = c.put_line-in-Err.ensures.bound in
    let m = l.invariant.room in
    record { value = r.counted; bound = omega arith; after = r.puts }
