-- the lines that are still to come
pub mod Input
