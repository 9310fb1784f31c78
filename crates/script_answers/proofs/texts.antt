-- Laws of the lines that are put.
pub mod Printed
pub mod Events
pub mod Copies
pub mod Sheets
pub mod Nexts
