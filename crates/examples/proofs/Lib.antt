-- the worked examples, by computation
pub mod Showing
-- the worked examples of the tag end, by computation
pub mod Tapping
