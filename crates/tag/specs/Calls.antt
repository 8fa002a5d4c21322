-- The call with a frame: the answer, the tag and the buffer after it.
use Rattle.std.specs.Prelude.{ℕ, cond, List, length, Ok, Err, Result, nat_lt}
use Rattle.air.specs.declared.fault.Fault.{Fault}
use Rattle.air.specs.declared.fault.Fault.TheVariants.{Call}
use Rattle.air.specs.declared.frame.Frame.{Frame}
use Rattle.air.specs.Answers.{bits_in, bytes_in, laid}
use Rattle.air.specs.Frames.{frame_of}
use Rattle.tag.specs.Boxes.{Box}
use Rattle.tag.specs.States.{step_of}

-- the frame that gets through: a buffer under 18 bytes is refused first (1), then what is no frame (2, 3)
unfoldable pub heard : List ℕ → ℕ → List ℕ → Result Frame Fault
heard f count buffer = cond (nat_lt (length buffer) 18) (Err (Call 1 0)) (frame_of f count)

-- the number of the answer's bits
abbrev pub answered : Box → Result Frame Fault → Result ℕ Fault
answered x (Ok f) = Ok (bits_in (step_of x f).answer)
answered x (Err e) = Err e

-- the tag; a refused call changes nothing
abbrev pub stepped : Box → Result Frame Fault → Box
stepped x (Ok f) = (step_of x f).after
stepped x (Err e) = x

-- the buffer: the answer first, and its later bytes kept
abbrev pub filled : Box → Result Frame Fault → List ℕ → List ℕ
filled x (Ok f) buffer = laid buffer (bytes_in (step_of x f).answer)
filled x (Err e) buffer = buffer

abbrev pub frame_answer : Box → List ℕ → ℕ → List ℕ → Result ℕ Fault
frame_answer x f count buffer = answered x (heard f count buffer)

abbrev pub frame_box : Box → List ℕ → ℕ → List ℕ → Box
frame_box x f count buffer = stepped x (heard f count buffer)

abbrev pub frame_buffer : Box → List ℕ → ℕ → List ℕ → List ℕ
frame_buffer x f count buffer = filled x (heard f count buffer) buffer
