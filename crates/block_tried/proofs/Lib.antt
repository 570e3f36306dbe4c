pub mod BlockTriedLaws
