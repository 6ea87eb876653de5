-- `set_words::Kind::named` meets its contract: each number by itself.
use Rattle.std.proofs.Common.{refl, arith}
use borrow.Author.Tests.{ne_eqb}
use Rattle.set_words.specs.Kinds.{kind_named}
use Rattle.set_words.proofs.kinds.Kind.named.Goals as goal

pub returns-in-1 : goal.returns-in-1
unfolding kind_named
returns-in-1 c = rw c.in-1.is refl

pub returns-in-2 : goal.returns-in-2
unfolding kind_named
returns-in-2 c = rw c.in-2.is refl

pub returns-in-3 : goal.returns-in-3
unfolding kind_named
returns-in-3 c = rw c.in-3.is refl

pub returns-in-4 : goal.returns-in-4
unfolding kind_named
returns-in-4 c = rw c.in-4.is refl

pub returns-in-5 : goal.returns-in-5
unfolding kind_named
returns-in-5 c = rw c.in-5.is refl

pub returns-in-6 : goal.returns-in-6
unfolding kind_named
returns-in-6 c = rw c.in-6.is refl

pub returns-in-7 : goal.returns-in-7
unfolding kind_named
returns-in-7 c = rw c.in-7.is refl

pub returns-in-8 : goal.returns-in-8
unfolding kind_named
returns-in-8 c = rw c.in-8.is refl

pub returns-in-9 : goal.returns-in-9
unfolding kind_named
returns-in-9 c = rw c.in-9.is refl

pub returns-in-10 : goal.returns-in-10
unfolding kind_named
returns-in-10 c = rw c.in-10.is refl

pub returns-in_default : goal.returns-in_default
unfolding kind_named
returns-in_default c = rw (ne_eqb c.args.number 1 (λ e. absurd (omega arith)), ne_eqb c.args.number 2 (λ e. absurd (omega arith)), ne_eqb c.args.number 3 (λ e. absurd (omega arith)), ne_eqb c.args.number 4 (λ e. absurd (omega arith)), ne_eqb c.args.number 5 (λ e. absurd (omega arith)), ne_eqb c.args.number 6 (λ e. absurd (omega arith)), ne_eqb c.args.number 7 (λ e. absurd (omega arith)), ne_eqb c.args.number 8 (λ e. absurd (omega arith)), ne_eqb c.args.number 9 (λ e. absurd (omega arith)), ne_eqb c.args.number 10 (λ e. absurd (omega arith))) refl
