-- The last places of a table's sessions, where nobody is: they are passed over eight at a time. Assumes nothing.
use mathlib.Core.Path.{◌≡◌, refl, sym, ◌∙◌, ap}
use mathlib.Core.Bool.{Bool, true, ◌&&◌, and-true, and_assoc}
use mathlib.Core.List.{List, [], ◌∷◌, ◌++◌, append_assoc, append-nil}
use Prim.Native.Nat.{ℕ, ◌+◌, ◌*◌, ◌-◌, ◌%◌, ◌≤◌, ◌<◌}
use native.Mathlib.Omega.{arith}
use lib.Dec.{eqb}
use lib.ListN.{length, get_or, drop, length-append}
use Rattle.std.proofs.Math.Seq.{drop-append_seam}
use Rattle.std.proofs.lemmas.List.{nil_from_length}
use Rattle.scan.specs.Lists.{all}
use Rattle.scan.proofs.Loops.{turn, end}
use Rattle.scan.proofs.Bools.{and_and, and_both, both}
use Rattle.table.specs.Table.{no_session}
use Rattle.table.specs.Formed.{is_blank}
use Rattle.table.specs.declared.Session.{Session}
use Rattle.formed.specs.Standings.{is_vacant}

-- a place, by its words and by its bytes as one number
bytes_none : (a b c : ℕ) → eqb (a + b * 256 + c * 65536) 0 ≡ eqb a 0 && (eqb b 0 && eqb c 0)
bytes_none a b c = grind arith

pub vacant_by : (s : Session) {n : ℕ} → n ≡ s.stream + s.owner * 256 + s.playing * 65536 → (eqb s.number 0 && eqb s.address 0 && eqb s.last 0 && eqb s.port 0 && eqb n 0) ≡ is_vacant s
unfolding is_blank
vacant_by s e = rw (e, bytes_none s.stream s.owner s.playing) (simp and_assoc)

-- v says whether nobody is at the places looked at so far, up to i
pub record Looked (l : List Session) (i : ℕ) (v : Bool) : Type 0 where
  pub same : v && all is_vacant (drop i l) ≡ all is_vacant l

pub looked_start : (l : List Session) → Looked l 0 true
looked_start l = record { same = refl }

pub looked_more : {l : List Session} {i : ℕ} {v r : Bool} → Looked l i v → i < length l → r ≡ is_vacant (get_or l i no_session) → Looked l (i + 1) (v && r)
looked_more {l} {i} {v} {r} s h e =
    let t : r && all is_vacant (drop (i + 1) l) ≡ all is_vacant (drop i l) = rw e (sym (turn (all is_vacant) l i no_session h)) in
    record { same = sym (and_and v r (all is_vacant (drop (i + 1) l))) ∙ ap (λ b. v && b) t ∙ s.same }

pub looked_end : {l : List Session} {i : ℕ} {v : Bool} → Looked l i v → length l ≤ i → v ≡ all is_vacant l
looked_end {l} {i} {v} s h = sym (ap (λ b. v && b) (end (all is_vacant) l i h) ∙ and-true v) ∙ s.same

-- `end` places are left, and nobody is behind them
pub record Cleared (l left : List Session) (size end : ℕ) : Type 0 where
  pub eight : size ≡ 8
  pub count : end ≡ length left
  pub behind : List Session
  pub whole : left ++ behind ≡ l
  pub vacant : all is_vacant behind ≡ true

all_both : (a b : List Session) → all is_vacant a ≡ true → all is_vacant b ≡ true → all is_vacant (a ++ b) ≡ true
all_both [] b x y = y
all_both (s ∷ a) b x y = let e = and_both (is_vacant s) (all is_vacant a) x in both e.0 (all_both a b e.1 y)

pub cleared_start : (l none : List Session) {left : List Session} {size : ℕ} → length l ≡ 32 → l ≡ none ++ left → length none ≡ length l % size → size ≡ 8 → Cleared l left size 32
cleared_start l none {left} {size} e w n s =
    let z : length none ≡ 0 = n ∙ rw (e, s) in
    let b : none ≡ [] = nil_from_length none z in
    let c : left ≡ l = sym (rw b at w) in
    record { eight = s; count = rw c (sym e); behind = []; whole = append-nil left ∙ c; vacant = refl }

pub cleared_more : (x : List Session) {l left rest : List Session} {size next end : ℕ} → Cleared l left size end → next ≡ size → left ≡ rest ++ x → length x ≡ size → all is_vacant x ≡ true → Cleared l rest next (end - 8)
cleared_more x {l} {left} {rest} {size} {next} {end} c n w k v =
    let m : length left ≡ length rest + length x = ap length w ∙ length-append rest x in
    record {
      eight = n ∙ c.eight;
      count = omega (arith, m, c.count, c.eight, k);
      behind = x ++ c.behind;
      whole = sym (append_assoc rest x c.behind) ∙ rw w at c.whole;
      vacant = all_both x c.behind v c.vacant;
    }

-- eight places more are there
pub cleared_least : (rest x : List Session) {l left : List Session} {size end : ℕ} → Cleared l left size end → left ≡ rest ++ x → length x ≡ size → 8 ≤ end
cleared_least rest x {l} {left} c w k = omega (arith, ap length w ∙ length-append rest x, c.count, c.eight, k)

pub cleared_end : {l left : List Session} {size end : ℕ} → length l ≡ 32 → Cleared l left size end → (end ≤ 32) × (all is_vacant (drop end l) ≡ true)
cleared_end {l} {left} e c =
    (omega (arith, e, ap length c.whole, length-append left c.behind, c.count), rw (c.count, sym c.whole, drop-append_seam left c.behind) c.vacant)
