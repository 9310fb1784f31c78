-- Laws of lines that are answered.
pub mod Rooms
pub mod Loads
pub mod Told
pub mod Replies
pub mod OverLong
