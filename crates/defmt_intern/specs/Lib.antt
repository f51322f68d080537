pub mod Body
pub mod Catalog
pub mod Entries
pub mod Pieces
pub mod Name
pub mod Stamp
pub mod Table
