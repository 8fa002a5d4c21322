-- What was expected in a line that is malformed.
use Rattle.std.specs.Prelude.{ℕ, List, codes}
use Rattle.calls.specs.declared.expected.Expected.{Expected}
use Rattle.calls.specs.declared.expected.Expected.TheVariants.{Call, Kind, Writes, Places, Uid, Product, Password, Frame, Count, Room, End}

-- in plain words, to stand after `expected`
abbrev pub expectation : Expected → List ℕ
expectation Call = codes "`box`, `on`, `off`, `frame` or `memory`"
expectation Kind = codes "`picture` or `log`"
expectation Writes = codes "a number of writes up to 4294967295"
expectation Places = codes "a number of places up to 4294967295"
expectation Uid = codes "a UID of 14 hexadecimal digits"
expectation Product = codes "product bytes of 8 hexadecimal digits"
expectation Password = codes "a password of 8 hexadecimal digits"
expectation Frame = codes "a frame in pairs of hexadecimal digits, or `-`"
expectation Count = codes "a bit count from 0 to 255"
expectation Room = codes "a room of up to 4294967295 bytes"
expectation End = codes "the end of the line"
