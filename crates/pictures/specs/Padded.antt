-- The picture that some bytes stand for, and its listing.
use Rattle.std.specs.Prelude.{ℕ, ◌-◌, cond, List, ◌++◌, length, take, replicate, Ok, Err, Result, nat_lt}
use Rattle.air.specs.declared.fault.Fault.{Fault}
use Rattle.air.specs.declared.fault.Fault.TheVariants.{Call}
use Rattle.phone.specs.Buffers.{over}
use Rattle.phone.specs.Layout.{walked}
use Rattle.phone.specs.Listing.{text}

-- the first 256 bytes; missing ones count as 00h
abbrev pub padded : List ℕ → List ℕ
padded bytes = take 256 bytes ++ replicate (256 - length bytes) 0

-- how many bytes are put; refused is only a buffer under 3,133 bytes (7)
abbrev pub put : List ℕ → List ℕ → Result ℕ Fault
put bytes out = cond (nat_lt (length out) 3133) (Err (Call 7 0)) (Ok (length (text (walked (padded bytes)))))

-- the buffer then: the listing first, later bytes kept; all of it kept where the call is refused
abbrev pub put_into : List ℕ → List ℕ → List ℕ
put_into bytes out = cond (nat_lt (length out) 3133) out (over out 0 (text (walked (padded bytes))))
