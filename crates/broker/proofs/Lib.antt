-- The cases of a bid, by the map alone and whole, and of an again on an accepted set, and what the walks over a lent record share.
pub mod MapCases
pub mod BidCases
pub mod Granted
pub mod Moved
pub mod AgainCases
