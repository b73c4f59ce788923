mod OptionLemmas
mod ToldLemmas
