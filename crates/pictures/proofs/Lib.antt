-- a picture whose front is filled in
pub mod Padding
