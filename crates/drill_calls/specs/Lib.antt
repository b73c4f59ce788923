pub mod Draws
pub mod DrillCalls
pub mod DrillRun
pub mod DrillTexts
pub mod Making
