-- the worked examples, as one set
pub mod Worked
-- the worked examples of the tag end
pub mod Tags
