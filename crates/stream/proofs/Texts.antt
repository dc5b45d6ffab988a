-- A text of PIDs obeyed piece by piece: what is left of it, obeyed on the PIDs as they are now, makes the list that is wanted.
-- Assumes nothing.
use mathlib.Core.Path.{◌≡◌, refl, ap, ◌∙◌, sym}
use mathlib.Core.Bool.{Bool, true, false, cond}
use mathlib.Core.List.{List, [], ◌∷◌}
use Prim.Native.Nat.{ℕ, suc, ◌+◌, ◌≤◌, ◌<◌, max}
use native.Mathlib.Omega.{arith}
use lib.Dec.{eqb, ltb}
use lib.ListN.{length}
use borrow.Author.Tests.{eq-eqb, ne_eqb}
use Rattle.scan.specs.Lists.{part}
use Rattle.scan.specs.Found.{FirstFrom, cut_from}
use Rattle.scan.specs.Text.{is}
use Rattle.scan.proofs.Cuts.{cut_start, cut_turn, cut_end}
use Rattle.std.specs.Prelude.{Option, Some, None}
use Rattle.stream.specs.Pids.{added, removed, with_number, numbers_in, obeyed}
use Rattle.stream.specs.Arrays.{read_pid, with_text, numbers_read, edit_of, once}

-- the pieces before place p of the text have been obeyed, and l is what they made of the list `from`
pub record Obeying (edit : ℕ → List ℕ → List ℕ) (text from l : List ℕ) (p : ℕ) : Type 0 where
  pub inside : p ≤ length text + 1
  pub same : obeyed edit (numbers_read (cut_from 44 p text)) l ≡ obeyed edit (numbers_in text) from

pub obeying_start : (edit : ℕ → List ℕ → List ℕ) (text from : List ℕ) → Obeying edit text from from 0
unfolding numbers_in
obeying_start edit text from =
    record { inside = omega arith; same = ap (λ ps. obeyed edit (numbers_read ps) from) (sym (cut_start 44 text)) }

one_more : (edit : ℕ → List ℕ → List ℕ) (r : Option ℕ) (ps l : List ℕ) → obeyed edit (with_number r ps) l ≡ obeyed edit ps (once edit r l)
one_more edit (Some v) ps l = refl
one_more edit None ps l = refl

module _ {edit : ℕ → List ℕ → List ℕ} {text from l : List ℕ} {p : ℕ} (o : Obeying edit text from l p) where
  obeying_end : length text < p → l ≡ obeyed edit (numbers_in text) from
  obeying_end h = sym (ap (λ ps. obeyed edit (numbers_read ps) l) (cut_end 44 p text h)) ∙ o.same

  module _ {e : ℕ} (h : p ≤ length text) (f : FirstFrom (is 44) text p e) where
    turned : obeyed edit (numbers_read (cut_from 44 (e + 1) text)) (once edit (read_pid (part p e text)) l) ≡ obeyed edit (numbers_in text) from
    turned =
        sym (one_more edit (read_pid (part p e text)) (numbers_read (cut_from 44 (e + 1) text)) l)
        ∙ ap (λ ps. obeyed edit (numbers_read ps) l) (sym (cut_turn 44 p text h f.is)) ∙ o.same

    obeying_more : {d : List ℕ} → d ≡ once edit (read_pid (part p e text)) l → Obeying edit text from d (e + 1)
    obeying_more q =
        let w : e ≤ max p (length text) = f.within in
        record { inside = omega arith; same = ap (obeyed edit (numbers_read (cut_from 44 (e + 1) text))) q ∙ turned }

-- the text is not given
pub obeying_none : (edit : ℕ → List ℕ → List ℕ) (text from : List ℕ) {code : ℕ} → code ≡ 0 → from ≡ with_text edit code text from
obeying_none edit text from {code} none = rw (eq-eqb code 0 none)

-- additions never make fewer, and removals never more
added_longer : (p : ℕ) (l : List ℕ) → length l ≤ length (added p l)
added_longer p [] = omega arith
added_longer p (q ∷ l) = by (ltb p q) (eqb p q) (added_longer p l)
  where
    by : (s t : Bool) → length l ≤ length (added p l) → suc (length l) ≤ length (cond s (p ∷ q ∷ l) (cond t (q ∷ l) (q ∷ added p l)))
    by true t h = omega arith
    by false true h = omega arith
    by false false h = omega arith

all_longer : (ps l : List ℕ) → length l ≤ length (obeyed added ps l)
all_longer [] l = omega arith
all_longer (p ∷ ps) l = omega (arith, added_longer p l, all_longer ps (added p l))

removed_shorter : (p : ℕ) (l : List ℕ) → length (removed p l) ≤ length l
removed_shorter p [] = omega arith
removed_shorter p (q ∷ l) = by (ltb p q) (eqb p q) (removed_shorter p l)
  where
    by : (s t : Bool) → length (removed p l) ≤ length l → length (cond s (q ∷ l) (cond t l (q ∷ removed p l))) ≤ suc (length l)
    by true t h = omega arith
    by false true h = omega arith
    by false false h = omega arith

once_shorter : (r : Option ℕ) (l : List ℕ) → length (once removed r l) ≤ length l
once_shorter (Some p) l = removed_shorter p l
once_shorter None l = omega arith

all_shorter : (ps l : List ℕ) → length (obeyed removed ps l) ≤ length l
all_shorter [] l = omega arith
all_shorter (p ∷ ps) l = omega (arith, removed_shorter p l, all_shorter ps (removed p l))

pub removing_fits : (code : ℕ) (text l : List ℕ) → length (with_text removed code text l) ≤ length l
removing_fits code text l = by (eqb code 0)
  where
    by : (t : Bool) → length (cond t l (obeyed removed (numbers_in text) l)) ≤ length l
    by true = omega arith
    by false = all_shorter (numbers_in text) l

-- what is too many in the middle of a text is too many at its end: removals make none too many
over : (b : Bool) (r : Option ℕ) (ps l : List ℕ) → length l ≤ 32 → 32 < length (once (edit_of b) r l) → 32 < length (obeyed (edit_of b) ps (once (edit_of b) r l))
over true r ps l h k = omega (arith, all_longer ps (once added r l))
over false r ps l h k = absurd (omega (arith, once_shorter r l))

module _ (b : Bool) {text from l : List ℕ} {p : ℕ} (o : Obeying (edit_of b) text from l p) where
  module _ {e : ℕ} (h : p ≤ length text) (f : FirstFrom (is 44) text p e) where
    pub obeying_on : {d : List ℕ} → d ≡ once (edit_of b) (read_pid (part p e text)) l → Obeying (edit_of b) text from d (e + 1)
    obeying_on = obeying_more o h f

    pub obeying_over : {code : ℕ} → (code ≡ 0 → ⊥) → length l ≤ 32 → 32 < length (once (edit_of b) (read_pid (part p e text)) l) → 32 < length (with_text (edit_of b) code text from)
    obeying_over {code} g w k = rw (ne_eqb code 0 g) (rw (turned o h f) at (over b (read_pid (part p e text)) (numbers_read (cut_from 44 (e + 1) text)) l w k))

  pub obeying_done : {code : ℕ} → (code ≡ 0 → ⊥) → length text < p → l ≡ with_text (edit_of b) code text from
  obeying_done {code} g h = rw (ne_eqb code 0 g) (obeying_end o h)
