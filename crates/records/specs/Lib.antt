-- What the record promises: auditors read Says. Ranked is for the contracts of the calls' own functions.
pub mod Says
pub mod Ranked
