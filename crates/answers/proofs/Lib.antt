-- bytes written in hexadecimal digits
pub mod Encoding
