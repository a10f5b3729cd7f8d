-- What only the contracts of private functions cite: a reader of the public ones needs none of it.
pub mod Alone
pub mod BoardEnd
pub mod Counts
pub mod Flying
pub mod KeeperView
pub mod Locked
pub mod Notes
pub mod Resumed
pub mod Seen
pub mod Turn
