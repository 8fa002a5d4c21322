-- areas that control TLVs name
pub mod Areas
-- the addresses that a walk has still to take
pub mod Cursors
-- the rules of a picture's layout
pub mod Layout
-- how TLVs lie in a picture, said without a walk
pub mod Tiling
-- bytes put into a buffer
pub mod Buffers
-- the text of a listing
pub mod Listing
-- what the phone app in C is told
pub mod App
