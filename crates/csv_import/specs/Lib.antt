pub mod ImportFile
pub mod ShownCsv
