-- The theorems on the model, by subject.

-- tests, lists and answers
pub mod Bools
pub mod Counts
pub mod Lists
pub mod Slices
pub mod Each
pub mod Answers
-- walks by hand
pub mod ByHand
-- states: steps, ranks and sums
pub mod States
pub mod Ranks
pub mod Sums
-- reading: faults, words and well-formed sets, both ways
pub mod Held
pub mod Parity
pub mod Words
pub mod Faults
pub mod ReadAccepts
pub mod ReadTooMany
pub mod ReadExact
pub mod ReadNumbers
pub mod Renamed
pub mod RenamedTask
pub mod Unclaimed
pub mod Kept
pub mod Cleaned
pub mod Merged
-- holds and permitted states
pub mod Holds
pub mod HoldWalk
pub mod Permitted
pub mod OneHold
-- boxes, and the forbidden ones: exact, their sides, and the one that a claim runs into
pub mod Boxes
pub mod Choices
pub mod ForbiddenExact
pub mod Fits
pub mod ForbiddenSides
pub mod ForbiddenEach
pub mod FirstSet
pub mod SetSizes
pub mod BlockingBox
pub mod ForbiddenBlocker
pub mod TableOrder
-- unsafe boxes: one box, sound, complete
pub mod UnsafeBox
pub mod UnsafeSound
pub mod UnsafeComplete
-- the map: each byte, the whole, the ranks of a byte, and which states are reached
pub mod Byte
pub mod MapExact
pub mod Keep
pub mod DeadRanks
pub mod StatesCounted
pub mod ReachExact
pub mod NoUnsafe
-- the plan by sections: read back, counted, fitting
pub mod PlanBack
pub mod PlanCount
pub mod PlanFitting
pub mod Outcome
-- stored plans
pub mod PlanKinds
pub mod PlanScans
pub mod PlanScanned
pub mod FirstBoxes
pub mod Located
-- the service: the start is open, laws from three facts, and the broker that has them
pub mod StartOpen
pub mod ReleaseOpen
pub mod Moves
pub mod Service
pub mod Records
pub mod BidAnswers
pub mod BrokerRecord
-- the route
pub mod RouteStep
-- the programs: a file's words, numbers and rows of bytes, what is shown; the printer's, and the cleaner's
pub mod FileWords
pub mod Decimal
pub mod Rows
pub mod FileShown
pub mod ToPrint
pub mod Trials
pub mod PrintedLength
pub mod CleanedFile
