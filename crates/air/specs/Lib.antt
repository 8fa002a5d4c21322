-- bits of bytes
pub mod Bits
-- CRC_A, the check over a frame's bytes
pub mod Crc
-- a fault's number and address
pub mod Faults
-- cascade levels
pub mod Levels
-- what a frame asks
pub mod Frames
-- how an answer lies in the answer buffer
pub mod Answers
