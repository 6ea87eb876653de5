-- What the reader promises: auditors read Answer. Faults and Follow are for the contracts of its own functions.
pub mod Answer
pub mod Faults
pub mod Follow
