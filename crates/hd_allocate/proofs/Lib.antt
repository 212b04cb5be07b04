pub mod FrontLemmas
pub mod ChoosingLemmas
pub mod ShelfLemmas
