-- What a fault says, whatever its layer.
use Rattle.std.specs.Prelude.{ℕ}
use Rattle.air.specs.declared.fault.Fault.{Fault}
use Rattle.air.specs.declared.fault.Fault.TheVariants.{Memory, Call, Air, Layout}

abbrev pub number_of : Fault → ℕ
number_of (Memory n a) = n
number_of (Call n a) = n
number_of (Air n a) = n
number_of (Layout n a) = n

abbrev pub address_of : Fault → ℕ
address_of (Memory n a) = a
address_of (Call n a) = a
address_of (Air n a) = a
address_of (Layout n a) = a
