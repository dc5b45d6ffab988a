use mathlib.Core.Path.{refl}
use borrow.Author.Rules.{rules}
use Rattle.scan.specs.Text.{text}
use Rattle.tuning.specs.Values.{pid_list, value_of}
use Rattle.tuning.proofs.Words.{word_is, or_is}
use Rattle.tuning.proofs.value_of.Goals as goal

pub returns-in-3 : goal.returns-in-3
unfolding value_of
returns-in-3 c = rw c.in-3.is (word_is (text "h v l r") _ _ refl c.word.ensures)

pub returns-in-4 : goal.returns-in-4
unfolding value_of
returns-in-4 c = rw c.in-4.is (word_is (text "dvbs dvbs2") _ _ refl c.word-in-4.ensures)

pub returns-in-5 : goal.returns-in-5
unfolding value_of
returns-in-5 c = rw c.in-5.is (word_is (text "qpsk 8psk") _ _ refl c.word-in-5.ensures)

pub returns-in-6 : goal.returns-in-6
unfolding value_of
returns-in-6 c = rw c.in-6.is (word_is (text "on off") _ _ refl c.word-in-6.ensures)

pub returns-in-7 : goal.returns-in-7
unfolding value_of
returns-in-7 c = rw c.in-7.is (word_is (text "0.35 0.25 0.20") _ _ refl c.word-in-7.ensures)

pub returns-in-9 : goal.returns-in-9
unfolding value_of
returns-in-9 c = rw c.in-9.is (word_is (text "12 23 34 56 78 89 35 45 910") _ _ refl c.word-in-9.ensures)

pub returns-in-10 : goal.returns-in-10
unfolding value_of
returns-in-10 c = rw (c.in-10.is, ← word_is (text "all none") _ _ refl c.word-in-10.ensures) (or_is c.word-in-10.result (pid_list c.args.s.now) (search rules))
