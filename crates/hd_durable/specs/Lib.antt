pub mod Durable
pub mod Laws
