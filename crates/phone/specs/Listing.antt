-- The text of a listing.
use Rattle.std.specs.Prelude.{ℕ, ◌-◌, ◌<◌, cond, List, [], ◌∷◌, ◌++◌, length, replicate, Ok, Err, decimal, Result, ◌==◌, nat_lt}
use Rattle.std.specs.List.{flat_map}
use Rattle.air.specs.declared.fault.Fault.{Fault}
use Rattle.air.specs.declared.fault.Fault.TheVariants.{Call}
use Rattle.air.specs.Faults.{number_of, address_of}
use Rattle.phone.specs.declared.layout.Tlv.{Tlv}
use Rattle.phone.specs.declared.layout.Message.{Message}
use Rattle.phone.specs.Buffers.{over}
use Rattle.phone.specs.Layout.{Findings, walked}

-- a number in decimal digits, right-justified in four columns
unfoldable pub column : ℕ → List ℕ
column n = replicate (4 - length (decimal n)) 32 ++ decimal n

unfoldable pub line : ℕ → ℕ → ℕ → List ℕ
line a b c = column a ++ (column b ++ (column c ++ (10 ∷ [])))

-- address, type and length of a TLV
abbrev pub tlv_line : Tlv → List ℕ
tlv_line t = line t.at t.kind t.length

-- the last line: 0, place and length of the message, or number and address of the fault and 0
abbrev pub last_line : Result Message Fault → List ℕ
last_line (Ok m) = line 0 m.place m.length
last_line (Err f) = line (number_of f) (address_of f) 0

-- an answer whose numbers have no more than four digits
abbrev pub IsNear : Result Message Fault → Type 0
IsNear (Ok m) = (m.place < 10000) × (m.length < 10000)
IsNear (Err f) = (number_of f < 10000) × (address_of f < 10000)

-- a line for each TLV that the walk finishes, and the last line
unfoldable pub text : Findings → List ℕ
text w = flat_map tlv_line w.tlvs ++ last_line w.answer

-- refused: a picture that is not of 256 bytes (6), then a buffer under 3,133 bytes (7)
abbrev pub by_sizes : {X : Type 0} → List ℕ → List ℕ → (Fault → X) → X → X
by_sizes pic out refused x = cond (length pic == 256) (cond (nat_lt (length out) 3133) (refused (Call 7 0)) x) (refused (Call 6 0))

-- how many bytes are put, or the refusal
abbrev pub listed : List ℕ → List ℕ → Result ℕ Fault
listed pic out = by_sizes pic out Err (Ok (length (text (walked pic))))

-- the buffer then: the text first, later bytes kept; all of it kept where the call is refused
abbrev pub listed_into : List ℕ → List ℕ → List ℕ
listed_into pic out = by_sizes pic out (λ _. out) (over out 0 (text (walked pic)))
