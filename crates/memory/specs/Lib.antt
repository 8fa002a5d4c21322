-- what a memory means
pub mod Memory
-- a block's number
pub mod Block
-- the picture memory
pub mod Picture
-- the latest record of a block
pub mod Latest
-- the log memory
pub mod Log
