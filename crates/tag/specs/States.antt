-- The step of a tag at a frame, state by state.
use Rattle.std.specs.Prelude.{ℕ, Bool, true, false, cond, List, Some, None, Option, nat_lt}
use Rattle.std.specs.Str.{bytes_eq}
use Rattle.air.specs.declared.answer.Answer.{Answer}
use Rattle.air.specs.declared.answer.Answer.TheVariants.{Silence, Atqa, Rest, Sak, Nack, Shown}
use Rattle.air.specs.declared.answer.Refusal.{Refusal}
use Rattle.air.specs.declared.answer.Refusal.TheVariants as refusal
use Rattle.air.specs.declared.bits.Bits.{Bits}
use Rattle.air.specs.declared.bits.Packed.{Packed}
use Rattle.air.specs.declared.frame.Frame.{Frame}
use Rattle.air.specs.declared.frame.Frame.TheVariants as frame
use Rattle.air.specs.declared.level.Level.{Level}
use Rattle.air.specs.declared.level.Level.TheVariants.{One, Two}
use Rattle.air.specs.Bits.{rest_after}
use Rattle.air.specs.Levels.{level_bytes}
use Rattle.tag.specs.declared.state.State.{State}
use Rattle.tag.specs.declared.state.State.TheVariants.{Off, Killed, Idle, Ready1, Ready2, Active, Halt}
use Rattle.tag.specs.Boxes.{Box, in_state, homed}
use Rattle.tag.specs.Read.{shown_by}
use Rattle.tag.specs.Write.{write_answer, write_box}

-- the answer to a frame, and the tag after it
pub record Step : Type 0 where
  pub answer : Answer
  pub after : Box

abbrev pub silent : Box → Step
silent x = record { answer = Silence; after = x }

-- an unlisted frame gets silence, and sends READY1, READY2 and ACTIVE home
abbrev pub lost : Box → Step
lost x = silent (homed x)

-- each NACK sends the tag home
abbrev pub nacked : Box → Refusal → Step
nacked x r = record { answer = Nack r; after = homed x }

-- waking leads to READY1, and tells where home is
abbrev pub woken : Box → Bool → Box
woken x from_halt = record { mem = x.mem; state = Ready1; from_halt = from_halt; uid = x.uid; code = x.code }

abbrev pub wake : Box → Bool → Step
wake x from_halt = record { answer = Atqa; after = woken x from_halt }

-- anticollision: the rest of the level's bits, or the frame counts as unlisted
abbrev pub rest_told : Box → Option Packed → Step
rest_told x (Some bits) = record { answer = Rest bits; after = x }
rest_told x None = lost x

abbrev pub met : Box → Level → Bits → Step
met x level given = rest_told x (rest_after (level_bytes level x.uid) given)

-- selection: with the tag's own bytes it leads on, else the frame counts as unlisted
abbrev pub chosen : Box → Level → List ℕ → State → Step
chosen x level bytes next = cond (bytes_eq bytes (level_bytes level x.uid)) (record { answer = Sak level; after = in_state x next }) (lost x)

abbrev pub read_step : Box → ℕ → Step
read_step x b = cond (nat_lt b 64) (record { answer = Shown (shown_by x b); after = x }) (nacked x refusal.Block)

abbrev pub idle_step : Box → Frame → Step
idle_step x frame.Reqa = wake x false
idle_step x frame.Wupa = wake x false
idle_step x (frame.Anticollision l g) = silent x
idle_step x (frame.Selection l bs) = silent x
idle_step x frame.Halt = silent x
idle_step x (frame.Read b) = silent x
idle_step x (frame.Write b d) = silent x
idle_step x frame.Damaged = silent x
idle_step x frame.Unlisted = silent x

abbrev pub halt_step : Box → Frame → Step
halt_step x frame.Reqa = silent x
halt_step x frame.Wupa = wake x true
halt_step x (frame.Anticollision l g) = silent x
halt_step x (frame.Selection l bs) = silent x
halt_step x frame.Halt = silent x
halt_step x (frame.Read b) = silent x
halt_step x (frame.Write b d) = silent x
halt_step x frame.Damaged = silent x
halt_step x frame.Unlisted = silent x

abbrev pub ready1_step : Box → Frame → Step
ready1_step x frame.Reqa = lost x
ready1_step x frame.Wupa = lost x
ready1_step x (frame.Anticollision One g) = met x One g
ready1_step x (frame.Anticollision Two g) = lost x
ready1_step x (frame.Selection One bs) = chosen x One bs Ready2
ready1_step x (frame.Selection Two bs) = lost x
ready1_step x frame.Halt = lost x
ready1_step x (frame.Read b) = lost x
ready1_step x (frame.Write b d) = lost x
ready1_step x frame.Damaged = lost x
ready1_step x frame.Unlisted = lost x

abbrev pub ready2_step : Box → Frame → Step
ready2_step x frame.Reqa = lost x
ready2_step x frame.Wupa = lost x
ready2_step x (frame.Anticollision One g) = lost x
ready2_step x (frame.Anticollision Two g) = met x Two g
ready2_step x (frame.Selection One bs) = lost x
ready2_step x (frame.Selection Two bs) = chosen x Two bs Active
ready2_step x frame.Halt = lost x
ready2_step x (frame.Read b) = lost x
ready2_step x (frame.Write b d) = lost x
ready2_step x frame.Damaged = lost x
ready2_step x frame.Unlisted = lost x

abbrev pub active_step : Box → Frame → Step
active_step x frame.Reqa = lost x
active_step x frame.Wupa = lost x
active_step x (frame.Anticollision l g) = lost x
active_step x (frame.Selection l bs) = lost x
active_step x frame.Halt = silent (in_state x Halt)
active_step x (frame.Read b) = read_step x b
active_step x (frame.Write b d) = record { answer = write_answer x b d; after = write_box x b d }
active_step x frame.Damaged = nacked x refusal.Crc
active_step x frame.Unlisted = lost x

abbrev pub step_in : State → Box → Frame → Step
step_in Off x f = silent x
step_in Killed x f = silent x
step_in Idle x f = idle_step x f
step_in Ready1 x f = ready1_step x f
step_in Ready2 x f = ready2_step x f
step_in Active x f = active_step x f
step_in Halt x f = halt_step x f

abbrev pub step_of : Box → Frame → Step
step_of x f = step_in x.state x f
