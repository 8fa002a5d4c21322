-- The layout rules: the capability container, and then each rule over the list of the addresses that a walk has still to take.
use Rattle.std.specs.Prelude.{ℕ, zero, suc, ◌+◌, ◌*◌, ◌/◌, ◌≤◌, Bool, cond, not, ◌&&◌, ◌||◌, List, [], ◌∷◌, length, take, drop, Some, None, Ok, Err, Option, Result, ◌==◌, nat_le, slice_index, slice_index_or}
use Rattle.std.specs.List.{range_with_len}
use Rattle.air.specs.declared.fault.Fault.{Fault}
use Rattle.air.specs.declared.fault.Fault.TheVariants.{Call, Layout}
use Rattle.air.specs.Faults.{address_of}
use Rattle.phone.specs.declared.area.Area.{Area}
use Rattle.phone.specs.declared.layout.Tlv.{Tlv}
use Rattle.phone.specs.declared.layout.Message.{Message}
use Rattle.phone.specs.Areas.{lock_control, memory_control, named, outside}
use Rattle.phone.specs.Cursors.{Ahead, fresh, rest}

-- types of TLVs
abbrev pub null : ℕ
null = 0x00

abbrev pub message : ℕ
message = 0x03

abbrev pub terminator : ℕ
terminator = 0xfe

-- lock control and memory control: they name areas that are skipped
abbrev pub control : ℕ → Bool
control kind = kind == lock_control || kind == memory_control

-- The capability container: E1h at 12, version 1 in the high digit of 13, the area's size in eights at 14. The area starts at 16.

abbrev pub area_end : List ℕ → ℕ
area_end pic = 16 + 8 * slice_index pic 14

unfoldable pub area : List ℕ → List ℕ
area pic = range_with_len 16 (8 * slice_index pic 14)

abbrev pub accepted : List ℕ → Bool
accepted pic = slice_index pic 12 == 0xe1 && (slice_index pic 13 / 16 == 1 && nat_le (area_end pic) 256)

-- what comes of a picture: fault 6 for one that is not of 256 bytes, fault 9 for one whose container is not accepted
abbrev pub by_container : {X : Type 0} → List ℕ → (Fault → X) → X → X
by_container pic refused x = cond (length pic == 256) (cond (accepted pic) x (refused (Layout 9 12))) (refused (Call 6 0))

-- the byte at the i-th of the addresses l
abbrev pub byte : List ℕ → List ℕ → ℕ → ℕ
byte pic l i = slice_index pic (slice_index l i)

-- One TLV, where the addresses l are still to be taken. Its type byte stands at the first of them, and the area ends before e.

-- From the length byte on, of a type `kind` at t. The faults in their order: no length byte (11), length FFh (12), a control TLV's length
-- that is not 3 (10), fewer addresses left than the length says (11); each at the type byte's address.
abbrev pub sized : List ℕ → ℕ → ℕ → List ℕ → Result Tlv Fault
sized pic t kind [] = Err (Layout 11 t)
sized pic t kind (q ∷ l) =
    let n = slice_index_or pic q 0 in
    cond (n == 255) (Err (Layout 12 t))
    (cond (control kind && not (n == 3)) (Err (Layout 10 t))
    (cond (nat_le n (length l)) (Ok (record { at = t; kind = kind; length = n; place = q + 1 })) (Err (Layout 11 t))))

-- The TLV, or its fault. A null has no length. A terminator and the area's end end the walk with no message (13).
abbrev pub tlv : List ℕ → ℕ → List ℕ → Result Tlv Fault
tlv pic e [] = Err (Layout 13 e)
tlv pic e (t ∷ l) =
    let k = slice_index_or pic t 0 in
    cond (k == null) (Ok (record { at = t; kind = null; length = 0; place = t + 1 })) (cond (k == terminator) (Err (Layout 13 t)) (sized pic t k l))

-- the addresses from the TLV's value on
abbrev pub valued : List ℕ → List ℕ → List ℕ
valued pic [] = []
valued pic (t ∷ l) = cond (slice_index pic t == null) l (rest l)

-- the area that a control TLV names: position, size and control are the first three bytes of its value
abbrev pub named_in : List ℕ → ℕ → List ℕ → Area
named_in pic kind l = named kind (byte pic l 0) (byte pic l 1) (byte pic l 2)

-- what is left after a value of n addresses: of a control TLV, without the area that it names
abbrev pub cleared : List ℕ → ℕ → ℕ → List ℕ → List ℕ
cleared pic kind n l = cond (control kind) (outside (named_in pic kind l) (drop n l)) (drop n l)

-- what is left after a TLV, from its length byte on
abbrev pub past_length : List ℕ → ℕ → List ℕ → List ℕ
past_length pic kind [] = []
past_length pic kind (q ∷ l) = cleared pic kind (slice_index pic q) l

-- the addresses after the TLV
abbrev pub beyond : List ℕ → List ℕ → List ℕ
beyond pic [] = []
beyond pic (t ∷ l) = cond (slice_index pic t == null) l (past_length pic (slice_index pic t) l)

-- What a walk finds: the TLVs that it finishes, the addresses of the message's value, and its answer.
pub record Findings : Type 0 where
  pub tlvs : List Tlv
  pub value : List ℕ
  pub answer : Result Message Fault

-- a fault ends the walk
abbrev pub failed : Fault → Findings
failed f = record { tlvs = []; value = []; answer = Err f }

-- a message ends it too, and its value are the next addresses, as many as its length says
abbrev pub met : Tlv → List ℕ → Findings
met t l = record { tlvs = t ∷ []; value = take t.length l; answer = Ok (record { place = t.place; length = t.length }) }

-- any other TLV is passed
abbrev pub onto : Tlv → Findings → Findings
onto t w = record { tlvs = t ∷ w.tlvs; value = w.value; answer = w.answer }

-- one TLV or fault, with the addresses from its value on, and what is found after it
abbrev pub going : List ℕ → Result Tlv Fault → Findings → Findings
going v (Err f) w = failed f
going v (Ok t) w = cond (t.kind == message) (met t v) (onto t w)

-- a walk of at most n TLVs over the addresses l; its end at 0 is never reached where n is more than the addresses
unfoldable pub walks : List ℕ → ℕ → ℕ → List ℕ → Findings
walks pic e zero l = failed (Layout 13 e)
walks pic e (suc n) l = going (valued pic l) (tlv pic e l) (walks pic e n (beyond pic l))

-- each TLV takes an address, so there are no more of them than addresses
abbrev pub walk_over : List ℕ → ℕ → List ℕ → Findings
walk_over pic e l = walks pic e (suc (length l)) l

-- the walk of a picture
abbrev pub walked : List ℕ → Findings
walked pic = by_container pic failed (walk_over pic (area_end pic) (area pic))

-- What the steps of the code give.

-- the message that a TLV is, if it is one
abbrev pub message_of : Tlv → Option Message
message_of t = cond (t.kind == message) (Some (record { place = t.place; length = t.length })) None

-- a cursor at the start of the area
abbrev pub opened : List ℕ → Result Ahead Fault
opened pic = by_container pic Err (Ok (fresh pic (area_end pic)))

-- the area that the next three bytes name, if there are so many
abbrev pub three : List ℕ → ℕ → List ℕ → Option Area
three pic kind l = cond (nat_le 3 (length l)) (Some (named_in pic kind l)) None

-- what reading one TLV leaves: the value of a message is still there, any other TLV is passed
abbrev pub onward : List ℕ → List ℕ → List ℕ
onward pic l = cond (byte pic l 0 == message) (valued pic l) (beyond pic l)

-- no address is past 256, the end of the largest area; said of the result and in no type, since a fault is of all layers and a TLV's numbers are bare
abbrev pub Bounded : Result Tlv Fault → Type 0
Bounded (Ok t) = (t.at ≤ 256) × (t.place ≤ 256)
Bounded (Err f) = address_of f ≤ 256
