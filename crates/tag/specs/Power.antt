-- Power on and the tap code.
use Rattle.std.specs.Prelude.{ℕ, ◌+◌, ◌*◌, ◌/◌, ◌%◌, Bool, true, false, cond, List, [], ◌∷◌, Some, None, Option, Ok, Err, Result, ◌==◌, nat_lt, slice_index}
use Rattle.air.specs.declared.fault.Fault.{Fault}
use Rattle.air.specs.declared.fault.Fault.TheVariants.{Call}
use Rattle.memory.specs.Memory.{Contents, block, takes, written}
use Rattle.tag.specs.declared.state.State.{State}
use Rattle.tag.specs.declared.state.State.TheVariants.{Off, Killed, Idle, Ready1, Ready2, Active, Halt}
use Rattle.tag.specs.Boxes.{Box, in_state, holding, showing}
use Rattle.tag.specs.Code.{codes, code_of, hyphens}

-- a number as four bytes, lowest first, and back
abbrev pub four_bytes : ℕ → List ℕ
four_bytes n = n % 256 ∷ n / 256 % 256 ∷ n / 65536 % 256 ∷ n / 16777216 % 256 ∷ []

abbrev pub number_in : List ℕ → ℕ
number_in d = slice_index d 0 + slice_index d 1 * 256 + slice_index d 2 * 65536 + slice_index d 3 * 16777216

-- the tap number is block 49
abbrev pub tap_number : Contents → ℕ
tap_number m = number_in (block m 49)

-- a tag is scrapped while address 200 holds A5h
abbrev pub scrapped : Contents → Bool
scrapped m = slice_index (block m 50) 0 == 0xa5

-- a code is drawn if there is one of the tap number and the memory takes the next number
abbrev pub draws : Contents → Bool
draws m = cond (nat_lt (tap_number m) codes) (takes m) false

abbrev pub drawing : Contents → Bool × ℕ
drawing m = cond (draws m) (true, tap_number m) (false, 0)

-- the number that is drawn, if one is
abbrev pub drawn : Contents → Option ℕ
drawn m = cond (draws m) (Some (tap_number m)) None

-- the next number is written where there is a code for this one
abbrev pub tap_counted : Contents → Contents
tap_counted m = cond (nat_lt (tap_number m) codes) (written m 49 (four_bytes (tap_number m + 1))) m

-- the code is the old number's, or else three hyphens until the next power on
abbrev pub drawn_box : Box → Box
drawn_box x = showing (holding x (tap_counted x.mem)) (cond (draws x.mem) (code_of (tap_number x.mem)) hyphens)

-- power on from OFF
abbrev pub started : Box → Box
started x = cond (scrapped x.mem) (showing (in_state x Killed) hyphens) (drawn_box (in_state x Idle))

abbrev pub is_off : State → Bool
is_off Off = true
is_off Killed = false
is_off Idle = false
is_off Ready1 = false
is_off Ready2 = false
is_off Active = false
is_off Halt = false

-- any other power on is refused (4) and changes nothing
abbrev pub powered : Box → Box
powered x = cond (is_off x.state) (started x) x

abbrev pub power_answer : Box → Result (Bool × ℕ) Fault
power_answer x = cond (is_off x.state) (Ok (cond (scrapped x.mem) (false, 0) (drawing x.mem))) (Err (Call 4 0))
