pub mod Appends
pub mod Bounds
pub mod ByteBounds
pub mod Fronts
pub mod Parts
mod PieceBounds
mod RoomSizes
mod StampParts
pub mod Utf8
mod Whole
