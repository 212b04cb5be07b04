pub mod ChunkLemmas
