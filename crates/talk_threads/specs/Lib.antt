pub mod InFront
