pub mod At
pub mod Records
pub mod Walk
pub mod CommentList
pub mod InOrder
pub mod FormKinds
pub mod Contents
