use Rattle.std.proofs.Common.{◌≡◌, ℕ, Bool, false, cond, ◌||◌, eqb, List, Some, None, Ok, Option, Result, sym, ap, ◌∙◌, arith}
use Rattle.std.proofs.lemmas.Bool.{ne_eqb}
use Rattle.std.proofs.lemmas.Bool.Decides.{nat_tests}
use Rattle.air.specs.declared.fault.Fault.{Fault}
use Rattle.memory.specs.Block.{numbered}
use Rattle.tag.specs.declared.write.Change.{Change}
use Rattle.tag.specs.Locks.{locked}
use Rattle.tag.specs.Write.{closed, kill_by, merge_into, change_by}
use Rattle.tag.proofs.Tag.change_by.Goals as goal

same_number : (block b : ℕ) → ◌≡◌ {A = Result ℕ Fault} (Ok block) (numbered b) → block ≡ b
same_number block b e = grind (arith, nat_tests)

-- neither closed nor locked nor the keyhole
merges : (blocks : List (List ℕ)) (b : ℕ) (sent : List ℕ) → closed b ≡ false → locked blocks b ≡ false → eqb b 48 ≡ false → change_by blocks b sent ≡ Some (merge_into blocks b sent)
merges blocks b sent f l n = λ j. cond (f j || l j) None (cond (n j) (kill_by blocks sent) (Some (merge_into blocks b sent)))

merged : (blocks : List (List ℕ)) (b block : ℕ) (sent : List ℕ) (lock : Bool) (change : Change) → ◌≡◌ {A = Result ℕ Fault} (Ok block) (numbered b)
    → false ≡ closed block → ◌≡◌ {A = Result Bool Fault} (Ok lock) (Ok (locked blocks block)) → lock ≡ false → (block ≡ 48 → ⊥)
    → ◌≡◌ {A = Result Change Fault} (Ok change) (Ok (merge_into blocks block sent))
    → ◌≡◌ {A = Result (Option Change) Fault} (Ok (Some change)) (Ok (change_by blocks b sent))
merged blocks b block sent lock change e f l free n m =
    let l' : locked blocks block ≡ false = cc in
    let i = same_number block b e in
    let whole = merges blocks block sent (sym f) l' (ne_eqb _ _ n) in
    let m' : change ≡ merge_into blocks block sent = cc in
    ap (λ x. Ok (Some x)) m' ∙ ap Ok (sym whole) ∙ ap (λ x. Ok (change_by blocks x sent)) i

pub returns : goal.returns
returns g c =
    let blocks = (g.M.Memory.holds c.args.self.now.memory).blocks in
    record {
      value = merged blocks c.args.block c.in-Ok.block c.args.bytes c.in_ok-is_locked.field-0 c.in_ok-merge_into.field-0
          c.in-Ok.ensures c.if-is_closed.ensures.value c.in_ok-is_locked.ensures.value c.if-branch.false
          (λ h. c.if-number-eq-KEYHOLE.false (c.number.ensures.value ∙ h)) c.in_ok-merge_into.ensures.value;
    }
