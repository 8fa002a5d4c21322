-- bytes written in hexadecimal digits
pub mod Hex
-- the answers, as lines
pub mod Answer
