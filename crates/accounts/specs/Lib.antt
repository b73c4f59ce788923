pub mod AtHome
pub mod BookValue
pub mod LoadedTables
pub mod Shelved
pub mod PatternFault
pub mod Planned
