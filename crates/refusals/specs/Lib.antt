-- Refusals by name, and what the code's calls answer, as the model has it.
pub mod Answers
