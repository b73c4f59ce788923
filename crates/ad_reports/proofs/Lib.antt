mod Summing
mod TableParts
