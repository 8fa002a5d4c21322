-- the picture that input bytes stand for
pub mod Padded
