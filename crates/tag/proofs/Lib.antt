-- blocks written one after the other
mod Filling
-- codes tell their numbers
pub mod Coding
-- lock bits and their guards, bit by bit
pub mod Guarding
-- the bytes that READ shows, block by block
mod Showing
