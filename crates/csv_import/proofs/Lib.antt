mod FieldLemmas
mod ImportLemmas
mod LawLemmas
