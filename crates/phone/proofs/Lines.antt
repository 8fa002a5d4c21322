-- Line after line of a listing.
use Rattle.std.proofs.Common.{◌≡◌, ℕ, ◌+◌, ◌≤◌, List, ◌++◌, Err, Result, length, sym, refl, ap, ◌∙◌, append_assoc, arith, length-append}
use Rattle.air.specs.declared.fault.Fault.{Fault}
use Rattle.phone.specs.declared.layout.Message.{Message}
use Rattle.phone.specs.declared.layout.Tlv.{Tlv}
use Rattle.phone.specs.Buffers.{over}
use Rattle.phone.specs.Layout.{Findings, failed, onto}
use Rattle.phone.specs.Listing.{tlv_line, last_line, text}
use Rattle.phone.proofs.Steps.{ended}
use Rattle.phone.proofs.Putting.{over-over}

text-onto : (t : Tlv) (w : Findings) → text (onto t w) ≡ tlv_line t ++ text w
unfolding text
text-onto t w = append_assoc (tlv_line t) _ (last_line w.answer)

pub text-failed : (f : Fault) → text (failed f) ≡ last_line (Err f)
unfolding text
text-failed f = refl

-- where a listing stands: the lines from place i on, put over the buffer, make the whole listing
pub record Stands (out : List ℕ) (i : ℕ) (w : Findings) (s : List ℕ) (whole : List ℕ) : Type 0 where
  pub gives : over out i (text w) ≡ over s 0 whole
  pub counts : i + length (text w) ≡ length whole

-- one line put, and the rest to come
pub line_on : (out nxt : List ℕ) (i j : ℕ) (t : Tlv) (v w : Findings) (s whole : List ℕ) → j ≡ i + length (tlv_line t) → i ≤ length out → v ≡ onto t w → nxt ≡ over out i (tlv_line t) → Stands out i v s whole → Stands nxt j w s whole
line_on out nxt i j t v w s whole l h e p st =
    let x : text v ≡ tlv_line t ++ text w = ap text e ∙ text-onto t w in
    let n : length (text v) ≡ length (tlv_line t) + length (text w) = ap length x ∙ length-append (tlv_line t) (text w) in
    let c = st.counts in
    record {
      gives = ap (λ z. over z j (text w)) p ∙ over-over out i j (tlv_line t) (text w) l h ∙ ap (over out i) (sym x) ∙ st.gives;
      counts = omega arith;
    }

-- the last line put
pub record Finished (fin : List ℕ) (n : ℕ) (s whole : List ℕ) : Type 0 where
  pub puts : fin ≡ over s 0 whole
  pub counted : n ≡ length whole

pub finish : (out fin : List ℕ) (i n : ℕ) (v : List ℕ) (r : Result Message Fault) (s whole : List ℕ) → fin ≡ over out i (last_line r) → n ≡ i + length (last_line r) → Stands out i (ended v r) s whole → Finished fin n s whole
unfolding text
finish out fin i n v r s whole f b st = record { puts = f ∙ st.gives; counted = b ∙ st.counts }
