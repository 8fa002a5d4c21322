-- A block's number.
use Rattle.std.specs.Prelude.{ℕ, cond, Ok, Err, Result, nat_lt}
use Rattle.air.specs.declared.fault.Fault.{Fault}
use Rattle.air.specs.declared.fault.Fault.TheVariants.{Memory}

-- above 63 there is no block
abbrev pub numbered : ℕ → Result ℕ Fault
numbered b = cond (nat_lt b 64) (Ok b) (Err (Memory 14 0))
