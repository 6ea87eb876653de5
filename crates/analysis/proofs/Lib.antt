-- InOrder: the plan's sections one after the other. CensusTaken: the states counted in the map. DeadLists: the dead states by the map. Answers: what each way through
-- the analysis answers and leaves.
pub mod InOrder
pub mod CensusTaken
pub mod DeadLists
pub mod Answers
