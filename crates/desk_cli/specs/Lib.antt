pub mod Saying
pub mod Throughout
pub mod Work
pub mod ScriptCall
pub mod RunCall
pub mod DrillCall
pub mod TopCall
pub mod ServeCall
