-- the addresses still to be taken
pub mod Addresses
-- one TLV, and one after the other
pub mod Steps
-- where a walk begins
pub mod Openings
-- a lock area by blocks
pub mod Blocks
-- addresses in rising order, and what of them is visible
pub mod Rising
-- what a walk finds lies so
pub mod Lying
-- what lies so is what the walk finds
pub mod Only
-- bytes put into a buffer
pub mod Putting
-- line after line of a listing
pub mod Lines
