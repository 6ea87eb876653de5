-- The proof of the cycle of calls {put_decimal}: the number falls to its tenth, whose digits stand in the slice before the last one is put behind them.
-- Assumes nothing.
use Rattle.listing.proofs.text.+put_decimal.Given as goal

-- the number
abbrev pub decreases-put_decimal : goal.decreases-put_decimal
decreases-put_decimal l = l.n
