pub mod Overrun
