use Rattle.std.proofs.Common.{◌≡◌, drop, Some}
use Rattle.calls.specs.Decimal.{number_on}
use Rattle.calls.proofs.decimal.number_in.Given as goal

-- the number so far and the digits that are left make up the whole
abbrev pub invariant-loop-digit : goal.invariant-loop-digit
invariant-loop-digit l = number_on (Some l.n) (drop l.digit-index l.word) ≡ number_on (Some 0) l.word
