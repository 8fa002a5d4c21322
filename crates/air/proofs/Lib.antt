-- the register over a whole byte
pub mod Register
-- bits as digits of a number
pub mod Cuts
-- the rest of a level's bits
pub mod Resting
