-- Parts: what the cleaner writes, part by part, is the cleaned set. Answers: its answers, case by case.
pub mod Parts
pub mod Answers
