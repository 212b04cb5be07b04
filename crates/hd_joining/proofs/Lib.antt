pub mod ArrivalLemmas
pub mod JoinLemmas
pub mod ExtendsLemmas
