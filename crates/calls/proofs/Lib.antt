-- bytes written in hexadecimal digits
pub mod Digits
-- words by their signs
pub mod Spelling
-- numbers written in decimal digits
pub mod Numbers
