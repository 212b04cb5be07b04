pub mod StockValue
pub mod Counts
