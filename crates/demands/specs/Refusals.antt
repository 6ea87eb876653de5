-- Each call refuses with the numbers that SCOPE.md lists for it and no others ("Refusals", the order of each call).
use Rattle.std.specs.Prelude.{ℕ}
use mathlib.Core.List.{List, [], ◌∷◌, ◌++◌, Memᴰ}
use Rattle.model.specs.Answer.{Answer, given, refused}
use Rattle.model.specs.Layout.{former}
use Rattle.model.specs.Read.{read_by, read}
use Rattle.model.specs.Clean.{clean}
use Rattle.model.specs.Analysis.{analyse}
use Rattle.model.specs.Record.{Record}
use Rattle.model.specs.Broker.{Settings, bid, again}
use Rattle.model.specs.Trial.{trial}
use Rattle.model.specs.State.{State}
use Rattle.model.specs.Route.{route}
use Rattle.model.specs.StoredPlan.{locate}

-- a set's own refusals by the former rules, and by the present ones
abbrev pub of_former_set : List ℕ
of_former_set = 1 ∷ 2 ∷ 3 ∷ 4 ∷ 5 ∷ 6 ∷ 7 ∷ 28 ∷ 8 ∷ 9 ∷ 10 ∷ 11 ∷ 12 ∷ []

abbrev pub of_set : List ℕ
of_set = of_former_set ++ (24 ∷ [])

-- the analysis: a set's, 13, 14
abbrev pub of_analysis : List ℕ
of_analysis = of_set ++ (13 ∷ 14 ∷ [])

-- a bid: a set's, 13, 26, 16, 17, 18
abbrev pub of_bid : List ℕ
of_bid = of_set ++ (13 ∷ 26 ∷ 16 ∷ 17 ∷ 18 ∷ [])

-- a trial: a set's, 13, 26, 27, and its bids' 16 and 18; its order names tasks of the set alone, so no bid brings 17
abbrev pub of_trial : List ℕ
of_trial = of_set ++ (13 ∷ 26 ∷ 27 ∷ 16 ∷ 18 ∷ [])

-- again takes no map: a set's, 16, 19
abbrev pub of_again : List ℕ
of_again = of_set ++ (16 ∷ 19 ∷ [])

-- a route: a set's, 13, 16, 18, 20, 21
abbrev pub of_route : List ℕ
of_route = of_set ++ (13 ∷ 16 ∷ 18 ∷ 20 ∷ 21 ∷ [])

-- a question to a stored plan: 22, 23
abbrev pub of_question : List ℕ
of_question = 22 ∷ 23 ∷ []

-- the cleaner: a set's by the former rules, 25
abbrev pub of_cleaner : List ℕ
of_cleaner = of_former_set ++ (25 ∷ [])

-- an answer that is no refusal, or one with a listed number
unfoldable pub Only : {A : Type 0} → List ℕ → Answer A → Type 0
Only listed (given a) = Unit {0}
Only listed (refused n p) = Memᴰ n listed

-- for each call, on all input
pub record Refusals : Type 0 where
  pub reads : (words : List ℕ) → Only of_set (read words)
  pub analyses : (words map plan : List ℕ) → Only of_analysis (analyse words map plan).answer
  pub bids : (words map : List ℕ) (c : Settings) (r : Record) (t : ℕ) → Only of_bid (bid words map c r t).answer
  pub trials : (words map order : List ℕ) (rounds : ℕ) (c : Settings) → Only of_trial (trial words map order rounds c)
  pub agains : (words : List ℕ) (r : Record) → Only of_again (again words r).answer
  pub routes : (words map : List ℕ) (r : Record) (slice : List ℕ) → Only of_route (route words map r slice).answer
  pub reads_formerly : (words : List ℕ) → Only of_former_set (read_by former words)
  pub cleans : (words slice : List ℕ) → Only of_cleaner (clean words slice).answer
  pub questions : (x : State) (plan : List ℕ) (tasks : ℕ) → Only of_question (locate x plan tasks)
