pub mod OddJumps
