pub mod Callers
