-- Parts: what two accepted sets tell, and that their parts, written one after the other, are the merged words. Read: what is read of them.
-- Answers: the merge's answers, case by case.
pub mod Parts
pub mod Read
pub mod Answers
