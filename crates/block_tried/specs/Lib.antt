pub mod BlockTried
