-- What a tag holds.
use Rattle.std.specs.Prelude.{ℕ, Bool, cond, List}
use Rattle.memory.specs.Memory.{Contents}
use Rattle.tag.specs.declared.state.State.{State}
use Rattle.tag.specs.declared.state.State.TheVariants.{Idle, Halt}
use Rattle.tag.specs.declared.Tag.{Tag}

-- the contents of its memory, its state, whether its home is HALT, its UID and the code that it shows
pub record Box : Type 0 where
  pub mem : Contents
  pub state : State
  pub from_halt : Bool
  pub uid : List ℕ
  pub code : List ℕ

-- a tag over a memory, by what the memory holds
abbrev pub box_of : {M : Type 0} → (M → Contents) → Tag M → Box
box_of holds t = record { mem = holds t.memory; state = t.state; from_halt = t.from_halt; uid = t.uid; code = t.code }

abbrev pub in_state : Box → State → Box
in_state x s = record { mem = x.mem; state = s; from_halt = x.from_halt; uid = x.uid; code = x.code }

abbrev pub holding : Box → Contents → Box
holding x m = record { mem = m; state = x.state; from_halt = x.from_halt; uid = x.uid; code = x.code }

abbrev pub showing : Box → List ℕ → Box
showing x code = record { mem = x.mem; state = x.state; from_halt = x.from_halt; uid = x.uid; code = code }

-- home is HALT for a tag last woken from HALT, else IDLE
abbrev pub homed : Box → Box
homed x = in_state x (cond x.from_halt Halt Idle)
