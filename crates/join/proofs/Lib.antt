pub mod Placing
pub mod RowLaws
pub mod HeadEntries
pub mod PieceOrder
pub mod JoinAnswers
