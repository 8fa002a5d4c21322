-- What a line of input calls for, or what was expected in it.
use Rattle.std.specs.Prelude.{◌≡◌, ℕ, cond, List, [], length, Some, None, Ok, Err, vec_items, codes, Option, Result, ◌==◌, nat_lt}
use Rattle.std.specs.Option.{ok_or}
use Rattle.std.specs.Str.{bytes_eq}
use Rattle.calls.specs.declared.call.Kind.{Kind}
use Rattle.calls.specs.declared.call.Kind.TheVariants.{Picture, Log}
use Rattle.calls.specs.declared.call.Line.{Line}
use Rattle.calls.specs.declared.call.Line.TheVariants.{Blank, Make, PowerOn, PowerOff, Frame, Memory}
use Rattle.calls.specs.declared.call.ReadError.{ReadError}
use Rattle.calls.specs.declared.call.ReadError.TheVariants.{Malformed, OutOfMemory}
use Rattle.calls.specs.declared.expected.Expected.{Expected}
use Rattle.calls.specs.declared.expected.Expected.TheVariants as expect
use Rattle.calls.specs.Words.{uncommented, first, rest, word}
use Rattle.calls.specs.Decimal.{number}
use Rattle.calls.specs.Hex.{written, written_as}

-- a call as a line gives it; a blank line gives none
pub data Call : Type 0 where
  blank : Call
  make : Kind → ℕ → List ℕ → List ℕ → List ℕ → Call
  power_on : Call
  power_off : Call
  frame : List ℕ → ℕ → Option ℕ → Call
  memory : Call

-- what a value of the code's type says, a frame's bytes as a list
abbrev pub said : Line → Call
said Blank = blank
said (Make o) = make o.kind o.size o.uid o.product o.password
said PowerOn = power_on
said PowerOff = power_off
said (Frame v n r) = frame (vec_items v) n r
said Memory = memory

-- what the code's answer says
abbrev pub read_as : Result Line Expected → Result Call Expected
read_as (Ok l) = Ok (said l)
read_as (Err e) = Err e

-- what is read is told as it is seen by v, or what was expected; only memory can keep that from being known
abbrev pub Reads : {X Y : Type 0} → (Y → X) → Result X Expected → Result Y ReadError → Type 0
Reads v r (Ok y) = Ok (v y) ≡ r
Reads v r (Err (Malformed e)) = Err e ≡ r
Reads v r (Err OutOfMemory) = Unit {0}

-- goes on with what was read; the first thing that is not as expected ends the reading
abbrev pub and_then : {X : Type 0} → Result X Expected → (X → Result Call Expected) → Result Call Expected
and_then (Ok x) f = f x
and_then (Err e) f = Err e

-- the call, if no word is left
abbrev pub at_end : List ℕ → Call → Result Call Expected
at_end w c = cond (length w == 0) (Ok c) (Err expect.End)

-- the kind of a box's memory
abbrev pub kind_in : List ℕ → Result Kind Expected
kind_in w = cond (bytes_eq w (codes "picture")) (Ok Picture) (cond (bytes_eq w (codes "log")) (Ok Log) (Err expect.Kind))

-- a picture has a number of writes, a log a number of places
abbrev pub size_in : Kind → List ℕ → Result ℕ Expected
size_in Picture w = ok_or (number w) expect.Writes
size_in Log w = ok_or (number w) expect.Places

-- kind, size, UID, product bytes and password
abbrev pub make_in : List ℕ → Result Call Expected
make_in s =
    and_then (kind_in (word 0 s)) (λ k.
    and_then (size_in k (word 1 s)) (λ n.
    and_then (ok_or (written_as 7 (word 2 s)) expect.Uid) (λ u.
    and_then (ok_or (written_as 4 (word 3 s)) expect.Product) (λ p.
    and_then (ok_or (written_as 4 (word 4 s)) expect.Password) (λ w.
    at_end (word 5 s) (make k n u p w))))))

-- pairs of digits, or `-` for no bytes
abbrev pub frame_bytes : List ℕ → Option (List ℕ)
frame_bytes w = cond (length w == 0) None (cond (bytes_eq w (codes "-")) (Some []) (written w))

-- a bit count, 0 to 255
abbrev pub below_256 : Option ℕ → Result ℕ Expected
below_256 None = Err expect.Count
below_256 (Some n) = cond (nat_lt n 256) (Ok n) (Err expect.Count)

-- 8 if absent
abbrev pub count_in : List ℕ → Result ℕ Expected
count_in w = cond (length w == 0) (Ok 8) (below_256 (number w))

-- a room in bytes
abbrev pub some_room : Option ℕ → Result (Option ℕ) Expected
some_room None = Err expect.Room
some_room (Some n) = Ok (Some n)

-- none if absent
abbrev pub room_in : List ℕ → Result (Option ℕ) Expected
room_in w = cond (length w == 0) (Ok None) (some_room (number w))

-- count and room of a frame
abbrev pub frame_with : List ℕ → List ℕ → Result Call Expected
frame_with bs s = and_then (count_in (word 0 s)) (λ n. and_then (room_in (word 1 s)) (λ r. at_end (word 2 s) (frame bs n r)))

-- bytes, count and room
abbrev pub frame_in : List ℕ → Result Call Expected
frame_in s = and_then (ok_or (frame_bytes (word 0 s)) expect.Frame) (λ bs. frame_with bs (rest s))

-- a call by its word w and what follows that; a missing word counts as an empty one throughout
abbrev pub call_in : List ℕ → List ℕ → Result Call Expected
call_in w s =
    cond (length w == 0) (Ok blank)
    (cond (bytes_eq w (codes "box")) (make_in s)
    (cond (bytes_eq w (codes "on")) (at_end (first s) power_on)
    (cond (bytes_eq w (codes "off")) (at_end (first s) power_off)
    (cond (bytes_eq w (codes "frame")) (frame_in s)
    (cond (bytes_eq w (codes "memory")) (at_end (first s) memory)
    (Err expect.Call))))))

-- a line of input
abbrev pub line_of : List ℕ → Result Call Expected
line_of s = call_in (first (uncommented s)) (rest (uncommented s))
