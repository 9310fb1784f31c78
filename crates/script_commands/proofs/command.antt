-- Laws of commands.
pub mod Made
pub mod Names
