-- The lines that are still to come.
use Rattle.std.specs.Prelude.{◌-◌, ◌^◌, ◌<◌, ℕ, Option, IfSome}
use Rattle.player.specs.declared.Input.{Input}

-- no more lines than this are read, since their count is a `u64`
abbrev pub lines_left : Input → ℕ
lines_left i = 2 ^ 64 - 1 - i.number

-- a line that was read is no longer to come
abbrev pub IsShorter : {X : Type 0} → Input → Option X → Input → Type 0
IsShorter old line new = IfSome line (λ _. lines_left new < lines_left old)
