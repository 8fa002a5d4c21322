use Rattle.std.proofs.Common.{Err, sym, refl, ap, ◌∙◌}
use Rattle.std.proofs.lemmas.Result.{err_from_is_err_and}
use Rattle.std.proofs.lemmas.Bool.{cond-false, ne_eqb}
use Rattle.phone.specs.Layout.{Findings, opened}
use Rattle.phone.proofs.Openings.{opening, not_opening}
use Rattle.phone.proofs.Steps.{answer_fails, answer_meets, moving}
use Rattle.phone.proofs.Only.{read_off}
use Rattle.phone.proofs.layout.walk.Goals as goal

pub returns-in_err-picture : goal.returns-in_err-picture
returns-in_err-picture c =
    let p = err_from_is_err_and c.from_residual.result c.from_residual.ensures.1 in
    let q = c.in_err-picture.ensures in
    let v = p.1 ∙ ap Err (p.2 ∙ q.1) ∙ ap (λ (w : Findings). w.answer) (sym (cond-false _ _ _ (ne_eqb _ _ q.0))) in
    record { value = v; laid = read_off c.args.picture.now _ v }

pub returns-in_err-cursor : goal.returns-in_err-cursor
returns-in_err-cursor c =
    let p = err_from_is_err_and c.from_residual-in_err-cursor.result c.from_residual-in_err-cursor.ensures.1 in
    let h = not_opening c.args.picture.now c.in_err-cursor.field-0.0 (c.in_err-cursor.ensures.value ∙ ap opened c.in_ok-picture.ensures.1) in
    let v = p.1 ∙ ap Err p.2 ∙ sym (ap (λ (w : Findings). w.answer) h.0) in
    record { value = v; laid = read_off c.args.picture.now _ v }

pub loop-message-init : goal.loop-message-init
loop-message-init c =
    let o = opening c.args.picture.now c.in_ok-cursor.cursor (c.in_ok-cursor.ensures.value ∙ ap opened c.in_ok-picture.ensures.1) in
    ap (λ (w : Findings). w.answer) o.finds

pub returns-in_err-next_tlv : goal.returns-in_err-next_tlv
returns-in_err-next_tlv c =
    let p = err_from_is_err_and c.from_residual-in_err-next_tlv.result c.from_residual-in_err-next_tlv.ensures.1 in
    let s = c.loop-message.cursor in
    let h = answer_fails s.picture s.end s.left c.in_err-next_tlv.field-0.0 c.in_err-next_tlv.ensures.value in
    let v = p.1 ∙ ap Err p.2 ∙ h ∙ c.loop-message.invariant in
    record { value = v; laid = read_off c.args.picture.now _ v }

pub returns-in-Some : goal.returns-in-Some
returns-in-Some c =
    let s = c.loop-message.cursor in
    let h = answer_meets s.picture s.end s.left c.in_ok-next_tlv.field-0 c.in-Some.message c.in_ok-next_tlv.ensures.value (sym c.in-Some.is ∙ c.message.ensures.value) in
    let v = h ∙ c.loop-message.invariant in
    record { value = v; laid = read_off c.args.picture.now _ v }

pub loop-message-smaller : goal.loop-message-smaller
loop-message-smaller c =
    let n = c.in_ok-next_tlv.ensures in
    (moving c.loop-message.cursor c.next_tlv.new.self c.in_ok-next_tlv.field-0 n.value (n.after refl) (sym c.in_default.is ∙ c.message.ensures.value)).fewer

pub loop-message-preserved : goal.loop-message-preserved
loop-message-preserved c =
    let n = c.in_ok-next_tlv.ensures in
    let m = moving c.loop-message.cursor c.next_tlv.new.self c.in_ok-next_tlv.field-0 n.value (n.after refl) (sym c.in_default.is ∙ c.message.ensures.value) in
    sym (ap (λ (w : Findings). w.answer) m.finds) ∙ c.loop-message.invariant
