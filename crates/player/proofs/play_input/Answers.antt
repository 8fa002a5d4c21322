use Rattle.std.proofs.Common.{◌≡◌, ℕ, ◌+◌, ◌<◌, Some, None, Option, IfSome, is_some, cond, arith}
use Rattle.player.proofs.play_input.Goals as goal

smaller : {X : Type 0} (o p : Option X) (a b : ℕ) (x : X) → p ≡ Some x → IfSome o (λ _. a < b) → cond (is_some o) (a + 1) 0 < cond (is_some p) (b + 1) 0
smaller None p a b x e h = rw e (omega arith)
smaller (Some y) p a b x e h = rw e (omega arith)

pub loop-line-smaller-in_ok-line-in-Blank : goal.loop-line-smaller-in_ok-line-in-Blank
loop-line-smaller-in_ok-line-in-Blank c = smaller _ _ _ _ _ c.in-Some.is c.in_ok-line-in-Blank.ensures.shorter

pub loop-line-smaller : goal.loop-line-smaller
loop-line-smaller c = smaller _ _ _ _ _ c.in-Some.is c.in_ok-line-in-Make.ensures.shorter
