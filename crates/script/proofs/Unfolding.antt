-- The loop that puts what a text stands for, byte for byte. Assumes nothing.
use mathlib.Core.Path.{◌≡◌, refl, ap, ◌∙◌, sym}
use mathlib.Core.List.{List, [], ◌∷◌, ◌++◌, append-nil, append_assoc}
use Prim.Native.Nat.{ℕ, ◌+◌, ◌≤◌, ◌<◌}
use native.Mathlib.Numerals.{add-one}
use lib.ListN.{length, get_or, take}
use lib.Seq.{take-suc, take_all}
use Rattle.writing.specs.Wrote.{Puts}
use Rattle.writing.specs.declared.Writer.{Writer}
use Rattle.writing.proofs.Writes.{puts_as, ◌then◌}
use Rattle.script.specs.Lines.{stands_for, unfolded}

unfolded_append : (xs ys : List ℕ) → unfolded (xs ++ ys) ≡ unfolded xs ++ unfolded ys
unfolded_append [] ys = refl
unfolded_append (x ∷ xs) ys = rw (unfolded_append xs ys) (sym (append_assoc (stands_for x) (unfolded xs) (unfolded ys)))

-- what the first i bytes of s stand for is put, and then what the next one does
pub unfolding_more : {w v u : Writer} (s : List ℕ) {i : ℕ} → Puts w (unfolded (take i s)) v → i < length s → Puts v (stands_for (get_or s i 0)) u
    → Puts w (unfolded (take (i + 1) s)) u
unfolding_more s {i} p h q =
    let more : unfolded (take i s) ++ stands_for (get_or s i 0) ≡ unfolded (take (i + 1) s) =
    ap (λ x. unfolded (take i s) ++ x) (sym (append-nil (stands_for (get_or s i 0))))
    ∙ sym (unfolded_append (take i s) (get_or s i 0 ∷ [])) ∙ ap unfolded (sym (take-suc s i 0 h)) ∙ ap (λ n. unfolded (take n s)) (sym (add-one i))
    in
    puts_as more (p then q)

pub unfolding_end : {w v : Writer} (s : List ℕ) {i : ℕ} → Puts w (unfolded (take i s)) v → length s ≤ i → Puts w (unfolded s) v
unfolding_end s {i} p h = puts_as (ap unfolded (take_all i s h)) p
