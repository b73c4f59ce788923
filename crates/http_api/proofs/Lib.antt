pub mod HeadEnds
pub mod FieldRoom
pub mod Messages
pub mod Growing
pub mod SessionLists
pub mod SessionMoves
pub mod SessionAnswers
mod BodyLemmas
mod FieldsLemmas
mod FieldsLengths
mod FieldsTrimmed
mod RoutesLemmas
mod QueryLemmas
mod VerdictLemmas
pub mod AnswerHead
pub mod AnswerParts
pub mod AnswerSending
pub mod AnswerSpots
pub mod JsonEscaping
pub mod JsonMembers
