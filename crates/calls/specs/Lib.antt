-- the words of a line
pub mod Words
-- numbers written in decimal digits
pub mod Decimal
-- bytes written in hexadecimal digits
pub mod Hex
-- what is expected in a line
pub mod Expected
-- the calls that lines give
pub mod Call
