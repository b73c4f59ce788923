pub mod Causes
pub mod Deciding
pub mod Fingerprints
pub mod Marked
pub mod Phrases
pub mod Spaces
