-- `trial::bidding::bid_rounds` meets its contract: each bid keeps what `Trying` says, and each way out is one of its laws.
use Rattle.model.specs.Broker.{bid_answer}
use Rattle.shape.specs.SetOf.{set_of}
use Rattle.broker.specs.Says.{settings_of}
use Rattle.records.specs.Says.{record_of}
use Rattle.trial.proofs.Kept.{Keeps}
use Rattle.trial.proofs.Trying.{Trying}
use Rattle.trial.proofs.bidding.bid_rounds.Given as goal

-- before each round
abbrev pub invariant-loop : goal.invariant-loop
invariant-loop l =
    Trying l.set.words.now l.map (settings_of l.settings) (set_of l.set) l.order l.rounds (record_of l.rec) l.rank l.ended l.rows l.finished l.made l.counter 0
    × Keeps (bid_answer (set_of l.set) l.map (settings_of l.settings) (record_of l.rec)) l.kept

-- before each bid of a round
abbrev pub invariant-loop-place : goal.invariant-loop-place
invariant-loop-place l =
    Trying l.set.words.now l.map (settings_of l.settings) (set_of l.set) l.order l.rounds (record_of l.rec) l.rank l.ended l.rows l.finished l.made l.counter l.place
    × Keeps (bid_answer (set_of l.set) l.map (settings_of l.settings) (record_of l.rec)) l.kept
