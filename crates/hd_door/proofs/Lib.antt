pub mod Nothing  -- of nothing no head is made
