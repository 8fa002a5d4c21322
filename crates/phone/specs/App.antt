-- What the phone app in C is told of a walk.
use Rattle.std.specs.Prelude.{◌≡◌, ℕ, List, Ok, Err, Result}
use Rattle.air.specs.declared.fault.Fault.{Fault}
use Rattle.air.specs.Faults.{number_of, address_of}
use Rattle.phone.specs.declared.app.Report.{Report}
use Rattle.phone.specs.declared.layout.Message.{Message}
use Rattle.phone.specs.Tiling.{ReadOff}

-- number 0 with place and length of the message, or the fault's number with its address and 0
abbrev pub reported : Result Message Fault → Report
reported (Ok m) = record { number = 0; place = m.place; length = m.length }
reported (Err f) = record { number = number_of f; place = address_of f; length = 0 }

-- what is told is the answer that is laid out in the picture
pub record ReportedOff (pic : List ℕ) (r : Report) : Type 0 where
  pub answer : Result Message Fault
  pub is_read_off : ReadOff pic answer
  pub is_told : r ≡ reported answer
