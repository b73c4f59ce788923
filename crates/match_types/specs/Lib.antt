pub mod Fingerprint
pub mod Marks
pub mod Meets
pub mod Pattern
pub mod Tests
