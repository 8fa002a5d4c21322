use Rattle.std.proofs.Common.{◌≡◌, ℕ, ◌<◌, true, false, get_or}
use Rattle.phone.proofs.cursor.Cursor.skip.Given as goal

abbrev pub invariant-loop-skipped : goal.invariant-loop-skipped
invariant-loop-skipped l = (k : ℕ) → k < l.skipped-index → l.ahead ≡ true → get_or l.skipped-items k false ≡ true
