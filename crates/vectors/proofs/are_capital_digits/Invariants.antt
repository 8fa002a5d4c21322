use Rattle.std.proofs.Common.{◌≡◌, take}
use Rattle.std.specs.List.{list_all}
use Rattle.vectors.specs.Hex.{is_capital_digit}
use Rattle.vectors.proofs.are_capital_digits.Given as goal

abbrev pub invariant-loop-sign : goal.invariant-loop-sign
invariant-loop-sign l = l.all ≡ list_all is_capital_digit (take l.sign-index l.sign-items)
