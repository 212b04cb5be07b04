pub mod RisingLemmas
pub mod UnionLemmas
pub mod Passing
pub mod UnionLaws
pub mod Ahead
