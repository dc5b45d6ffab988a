use mathlib.Core.Path.{◌≡◌, ap, sym}
use mathlib.Core.Bool.{Bool, true, false}
use mathlib.Core.List.{List}
use Prim.Native.Nat.{ℕ}
use borrow.Author.Rules.{rules}
use Rattle.scan.specs.Text.{text, are_alike, cut}
use Rattle.scan.specs.Lists.{first}
use Rattle.scan.specs.Found.{is_word}
use Rattle.scan.specs.declared.Case.TheVariants.{Counts}
use Rattle.scan.proofs.Places.{None, miss, none, place_alike, place_none}
use Rattle.reader.specs.Heads.{IsMethod, is_other, method_in, method_at}
use Rattle.std.proofs.Common.{◌≡◌}
use Rattle.reader.proofs.method_in.Goals as goal

abbrev methods : List ℕ
methods = text "OPTIONS SETUP PLAY TEARDOWN"

method-alike : (w m : List ℕ) {t : Bool} → t ≡ are_alike Counts w m → t ≡ true → is_other (method_at (first (is_word Counts w) (cut 32 methods))) ≡ false → IsMethod m (method_at (first (is_word Counts w) (cut 32 methods)))
method-alike w m a y n = record { is = ap method_at (place_alike Counts methods w m a y); named = n }

method-none : (m : List ℕ) → None Counts m (cut 32 methods) → is_other (method_in m) ≡ true
method-none m n = ap is_other (sym (ap method_at (place_none Counts methods n)))

pub returns-then-are_alike : goal.returns-then-are_alike
returns-then-are_alike c = search (method-alike (text "OPTIONS"), rules)

pub returns-then-are_alike-2 : goal.returns-then-are_alike-2
returns-then-are_alike-2 c = search (method-alike (text "SETUP"), rules)

pub returns-then-are_alike-3 : goal.returns-then-are_alike-3
returns-then-are_alike-3 c = search (method-alike (text "PLAY"), rules)

pub returns-then-are_alike-4 : goal.returns-then-are_alike-4
returns-then-are_alike-4 c = search (method-alike (text "TEARDOWN"), rules)

pub returns : goal.returns
returns c = search (method-none, miss, none, rules) depth 6
