-- How an answer lies in the answer buffer.
use Rattle.std.specs.Prelude.{ℕ, ◌+◌, ◌/◌, cond, List, [], ◌∷◌, ◌++◌, length, take, drop, Ok, Err, Result, nat_lt}
use Rattle.air.specs.declared.answer.Answer.{Answer}
use Rattle.air.specs.declared.answer.Answer.TheVariants.{Silence, Atqa, Rest, Sak, Ack, Nack, Shown}
use Rattle.air.specs.declared.answer.Refusal.{Refusal}
use Rattle.air.specs.declared.answer.Refusal.TheVariants as refusal
use Rattle.air.specs.declared.fault.Fault.{Fault}
use Rattle.air.specs.declared.fault.Fault.TheVariants.{Call}
use Rattle.air.specs.declared.level.Level.{Level}
use Rattle.air.specs.declared.level.Level.TheVariants.{One, Two}
use Rattle.air.specs.Crc.{crc, sent}

-- bytes put first into a buffer, whose later bytes are kept
abbrev pub laid : List ℕ → List ℕ → List ℕ
laid buffer bytes = bytes ++ drop (length bytes) buffer

-- bytes and their CRC_A
abbrev pub with_crc : List ℕ → List ℕ
with_crc bytes = bytes ++ sent (crc bytes)

-- bit 2 says that the UID goes on
abbrev pub sak_of : Level → ℕ
sak_of One = 0x04
sak_of Two = 0x00

abbrev pub nack_of : Refusal → ℕ
nack_of refusal.Block = 0x0
nack_of refusal.Crc = 0x1
nack_of refusal.Memory = 0x5

-- the number of bits; silence has none
abbrev pub bits_in : Answer → ℕ
bits_in Silence = 0
bits_in Atqa = 16
bits_in (Rest bits) = bits.count
bits_in (Sak level) = 24
bits_in Ack = 4
bits_in (Nack r) = 4
bits_in (Shown bytes) = 144

-- the bytes that hold them
abbrev pub bytes_in : Answer → List ℕ
bytes_in Silence = []
bytes_in Atqa = 0x44 ∷ 0x00 ∷ []
bytes_in (Rest bits) = take ((bits.count + 7) / 8) bits.bytes
bytes_in (Sak level) = with_crc (sak_of level ∷ [])
bytes_in Ack = 0xa ∷ []
bytes_in (Nack r) = nack_of r ∷ []
bytes_in (Shown bytes) = with_crc bytes

-- a buffer under 18 bytes is refused (1) and left alone
abbrev pub put_answer : Answer → List ℕ → Result ℕ Fault
put_answer a buffer = cond (nat_lt (length buffer) 18) (Err (Call 1 0)) (Ok (bits_in a))

abbrev pub put_buffer : Answer → List ℕ → List ℕ
put_buffer a buffer = cond (nat_lt (length buffer) 18) buffer (laid buffer (bytes_in a))
