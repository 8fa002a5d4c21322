-- bytes written in hexadecimal digits
pub mod Hex
-- the first bytes of a picture
pub mod Fronts
