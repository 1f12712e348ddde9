pub mod Parted
pub mod FirstWord
pub mod Digits
pub mod HexDigits
pub mod Utf8
