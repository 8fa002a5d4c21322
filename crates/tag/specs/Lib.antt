-- what a tag holds
pub mod Boxes
-- a tag made new
pub mod Making
-- tap codes
pub mod Code
-- power on and the tap code
pub mod Power
-- lock bits
pub mod Locks
-- the window, and the bytes that READ shows
pub mod Window
-- READ
pub mod Read
-- WRITE
pub mod Write
-- the step of a tag at a frame, state by state
pub mod States
-- the call with a frame
pub mod Calls
