-- What the code's settings and answers say in the terms of SCOPE.md, "Broker" and "Fair shares".
use Rattle.std.specs.Prelude.{Result}
use Rattle.model.specs.Answer.{Answer}
use Rattle.model.specs.Broker as model
use Rattle.model.specs.Broker.{granted, finished, share-spent, busy, held, Again, restarted}
use Rattle.refusals.specs.declared.Refusal.{Refusal}
use Rattle.refusals.specs.Answers.{answer_of}
use Rattle.records.specs.Says.{record_of}
use Rattle.broker.specs.declared.Settings.{Settings}
use Rattle.broker.specs.declared.answers.Bid.{Bid}
use Rattle.broker.specs.declared.answers.Bid.TheVariants.{Granted, Finished, ShareSpent, Busy, Held}
use Rattle.broker.specs.declared.answers.Served.{Served}

-- share and window
abbrev pub settings_of : Settings → model.Settings
settings_of c = record { share = c.share; window = c.window }

-- each answer of a bid, with Busy's device and Held's rank
unfoldable pub named : Bid → model.Bid
named Granted = granted
named Finished = finished
named ShareSpent = share-spent
named (Busy device) = busy device
named (Held rank) = held rank

-- a bid's answer
abbrev pub bid_of : Result Bid Refusal → Answer model.Bid
bid_of = answer_of named

-- an again's answer
abbrev pub again_of : Result (Unit {0}) Refusal → Answer Again
again_of = answer_of (λ _. restarted)

-- a bid's answer beside the record afterwards
abbrev pub served_bid_of : Served Bid → model.Served model.Bid
served_bid_of s = record { answer = bid_of s.answer; after = record_of s.after }

-- an again's answer beside the record afterwards
abbrev pub served_again_of : Served (Unit {0}) → model.Served Again
served_again_of s = record { answer = again_of s.answer; after = record_of s.after }
