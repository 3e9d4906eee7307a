pub mod Following
pub mod FreeSplits
pub mod Kept
pub mod Moves
pub mod Opening
pub mod Seen
