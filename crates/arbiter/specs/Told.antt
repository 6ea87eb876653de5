-- What hosts are told, as the C struct that the calls return: the answer's numbers, and everything lent as it stands afterwards.
use Rattle.std.specs.Prelude.{◌≡◌, List, map, ℕ}
use Rattle.model.specs.Answer as model
use Rattle.model.specs.Record.{Record}
use Rattle.model.specs.Analysis.{Analysed}
use Rattle.model.specs.Broker.{Served}
use Rattle.model.specs.Route.{Routed}
use Rattle.model.specs.Clean.{Cleaned}
use Rattle.model.specs.Told.{Told, AnalysisTold, TrialTold, tell_analysis, tell_route, tell_cleaned}
use Rattle.model.specs.Trial as trial
use Rattle.trial.specs.declared.tallies.Tally.{Tally}
use Rattle.arbiter.specs.declared.answers.Answer.{Answer}
use Rattle.arbiter.specs.declared.answers.Analysis.{Analysis}
use Rattle.arbiter.specs.declared.answers.Trial.{Trial}
use Rattle.arbiter.specs.declared.answers.Kind.{Kind}
use Rattle.arbiter.specs.declared.answers.Kind.TheVariants as kind

-- the number of each kind
abbrev pub kind_number : Kind → ℕ
kind_number kind.Refused = 0
kind_number kind.Accepted = 1
kind_number kind.Planned = 2
kind_number kind.Routed = 3
kind_number kind.Granted = 4
kind_number kind.Finished = 5
kind_number kind.Busy = 6
kind_number kind.Held = 7
kind_number kind.Restarted = 8
kind_number kind.InForbiddenBox = 9
kind_number kind.InUnsafeBox = 10
kind_number kind.InNoBox = 11
kind_number kind.Cleaned = 12
kind_number kind.ShareSpent = 13
kind_number kind.Tried = 14

-- the struct of three numbers
abbrev pub struct_of : Told → Answer
struct_of t = record { kind = t.kind; refusal = t.refusal; value = t.value }

-- the struct of an analysis: that one, and the quotient and the remainder behind it
abbrev pub analysis_of : AnalysisTold → Analysis
analysis_of t = record { answer = struct_of t.answer; quotient = t.quotient; remainder = t.remainder }

-- a row of a trial
abbrev pub tally_of : trial.Tally → Tally
tally_of k = record { granted = k.granted; busy = k.busy; held = k.held; share_spent = k.share-spent }

-- the struct of a trial: the answer, the rows and the bids answered Finished
abbrev pub trial_struct : TrialTold → Trial
trial_struct t = record { answer = struct_of t.answer; rows = map tally_of t.rows; finished = t.finished }

-- the answer, and both slices afterwards, of an analysis
abbrev pub ToldAnalysis : Analysis → List ℕ → List ℕ → Analysed → Type 0
ToldAnalysis r map plan a = (r ≡ analysis_of (tell_analysis a.answer)) × (map ≡ a.map) × (plan ≡ a.plan)

-- the answer, and the record afterwards, of a bid or an again
abbrev pub ToldServed : {A : Type 0} → (model.Answer A → Told) → Answer → Record → Served A → Type 0
ToldServed tells r after s = (r ≡ struct_of (tells s.answer)) × (after ≡ s.after)

-- the answer, and the slice afterwards, of a route
abbrev pub ToldRoute : Answer → List ℕ → Routed → Type 0
ToldRoute r steps a = (r ≡ struct_of (tell_route a.answer)) × (steps ≡ a.route)

-- the answer, and the slice afterwards, of the cleaner
abbrev pub ToldCleaned : Answer → List ℕ → Cleaned → Type 0
ToldCleaned r slice a = (r ≡ struct_of (tell_cleaned a.answer)) × (slice ≡ a.slice)
