-- Text put into a buffer: the loops that store it, and that two puts in a row are one put of the joined text. Assumes nothing.
use mathlib.Core.Path.{◌≡◌, refl, sym, ap, subst, ◌∙◌}
use mathlib.Core.List.{List, [], ◌∷◌, ◌++◌, append_assoc, append-nil}
use Prim.Native.Nat.{ℕ, suc, ◌+◌, ◌-◌, ◌≤◌, ◌<◌, min}
use native.Mathlib.Decide.{dec_lt}
use native.Mathlib.Nat.{add-zero, add-suc, suc-add}
use native.Mathlib.Omega.{arith}
use lib.ListN.{length, take, drop, get_or, set, length-append, length-set, take-append-drop, drop_of_length-le}
use Rattle.std.proofs.lemmas.List.{length-take-le}
use lib.Seq.{drop-drop, sets, length-sets, take_all, take-nil, take-suc-set, drop-set-lt, set_out, set_comm}
use Rattle.scan.proofs.Bools.{by_cases}
use Rattle.scan.proofs.Loops.{turn, end}
use Rattle.writing.specs.Wrote.{Wrote, Puts}
use Rattle.writing.specs.declared.Writer.{Writer}
use Rattle.writing.specs.Writing.{written}

-- at a place past the end nothing is stored
sets_past : (b : List ℕ) (at : ℕ) (t : List ℕ) → length b ≤ at → sets b at t ≡ b
sets_past b at [] h = refl
sets_past b at (x ∷ t) h = rw (set_out b at x h) (sets_past b (suc at) t (omega arith))

written_past : (b : List ℕ) (at : ℕ) (t : List ℕ) → length b ≤ at → written b at t ≡ b
unfolding written
written_past b at t h =
    let n : length b - at ≡ 0 = omega arith in
    rw (take_all at b h, n, drop_of_length-le b {i = at + length t} (omega arith)) (append-nil b)

pub written_none : (b : List ℕ) (at : ℕ) → written b at [] ≡ b
unfolding written
written_none b at = rw (take-nil, add-zero) (take-append-drop at b)

-- what is written is stored byte for byte
written_first : (b : List ℕ) (at x : ℕ) (t : List ℕ) → at < length b → written b at (x ∷ t) ≡ written (set b at x) (suc at) t
unfolding written
written_first b at x t h =
    let n : length b - at ≡ suc (length b - suc at) = omega arith in
    let m : suc at + length t ≡ at + suc (length t) = omega arith in
    rw (take-suc-set b at x h, length-set b at x, drop-set-lt (suc at + length t) b at x (omega arith), n, m) (sym (append_assoc (take at b) (x ∷ []) _))

pub written_sets : (b : List ℕ) (at : ℕ) (t : List ℕ) → written b at t ≡ sets b at t
written_sets b at [] = written_none b at
written_sets b at (x ∷ t) =
    by_cases (dec_lt at (length b))
    (λ h. written_first b at x t h ∙ written_sets (set b at x) (suc at) t)
    (λ h. let k : length b ≤ at = omega arith in written_past b at (x ∷ t) k ∙ sym (sets_past b at (x ∷ t) k))

-- a text after another, and a byte after a text, which may be stored first
sets_then : (b : List ℕ) (at : ℕ) (t u : List ℕ) → sets (sets b at t) (at + length t) u ≡ sets b at (t ++ u)
sets_then b at [] u = rw add-zero
sets_then b at (x ∷ t) u = rw (add-suc, ← suc-add) (sets_then (set b at x) (suc at) t u)

pub sets_last : (b : List ℕ) (at : ℕ) (t : List ℕ) (x : ℕ) → sets b at (t ++ (x ∷ [])) ≡ sets (set b (at + length t) x) at t
sets_last b at [] x = rw add-zero
sets_last b at (y ∷ t) x =
    sets_last (set b at y) (suc at) t x
    ∙ rw (add-suc, ← suc-add, set_comm b at (suc at + length t) y x (λ e. omega arith))

pub written_length : (b : List ℕ) (at : ℕ) (t : List ℕ) → length (written b at t) ≡ length b
written_length b at t = rw written_sets (length-sets b at t)

-- where the text fits, nothing is cut off it
pub written_fits : (b : List ℕ) (at : ℕ) (t : List ℕ) → at + length t ≤ length b → written b at t ≡ take at b ++ (t ++ drop (at + length t) b)
unfolding written
written_fits b at t h = rw (take_all (length b - at) t (omega arith))

pub wrote_kept : {b d t : List ℕ} {at next : ℕ} → Wrote b at t d next → length d ≡ length b
wrote_kept {b} {d} {t} {at} w = ap length w.is ∙ written_length b at t

-- a text written behind another is one with it, wherever the buffer ends
pub written_then : (b : List ℕ) (at : ℕ) (t u : List ℕ) → written (written b at t) (at + length t) u ≡ written b at (t ++ u)
written_then b at t u =
    written_sets (written b at t) (at + length t) u ∙ ap (λ d. sets d (at + length t) u) (written_sets b at t) ∙ sets_then b at t u ∙ sym (written_sets b at (t ++ u))

-- two puts in a row are one put of the joined text
pub wrote_then : {b d f : List ℕ} {at m next : ℕ} {t u : List ℕ} → Wrote b at t d m → Wrote d m u f next → Wrote b at (t ++ u) f next
wrote_then {b} {d} {f} {at} {m} {next} {t} {u} p q =
    let k : length d ≡ length b = wrote_kept p in
    let n : length (t ++ u) ≡ length t + length u = length-append t u in
    let i : m ≡ min (at + length t) (length b + 1) = p.place in
    let j : next ≡ min (m + length u) (length d + 1) = q.place in
    let first : d ≡ sets b at t = p.is ∙ written_sets b at t in
    let second : f ≡ sets d m u = q.is ∙ written_sets d m u in
    let both : sets d m u ≡ sets (sets b at t) (at + length t) u =
    by_cases (dec_lt (length b) (at + length t))
    (λ h. let l : length d ≤ m = omega arith in sets_past d m u l ∙ first ∙ sym (sets_past (sets b at t) (at + length t) u (rw (length-sets b at t) (omega arith))))
    (λ h. let e : m ≡ at + length t = omega arith in rw (e, first))
    in
    record { is = second ∙ both ∙ sets_then b at t u ∙ sym (written_sets b at (t ++ u)); place = omega arith }

-- at a place past the end it is no matter how far past it is
wrote_at : {b d t : List ℕ} {at next : ℕ} → Wrote b at t d next → Wrote b (min at (length b + 1)) t d next
wrote_at {b} {d} {t} {at} {next} w =
    by_cases (dec_lt (length b) at)
    (λ h. record { is = w.is ∙ written_past b at t (omega arith) ∙ sym (written_past b (min at (length b + 1)) t (omega arith)); place = omega (arith, w.place) })
    (λ h. let e : min at (length b + 1) ≡ at = omega arith in rw e w)

-- WHAT A WRITER PUTS: two texts are one put of the joined text
infixr 60 ◌then◌
pub ◌then◌ : {w v u : Writer} {s t : List ℕ} → Puts w s v → Puts v t u → Puts w (s ++ t) u
p then q = record { wrote = wrote_then p.wrote (wrote_at q.wrote); named = q.named ∙ p.named; lies = q.lies ∙ p.lies }

pub puts : {w v : Writer} {t : List ℕ} → v.buf.now ≡ written w.buf.now w.at t → v.at ≡ w.at + length t → v.buf.ghost_name ≡ w.buf.ghost_name
    → v.buf.ref_ptr ≡ w.buf.ref_ptr → Puts w t v
puts {w} {v} {t} is at named lies =
    let k : length v.buf.now ≡ length w.buf.now = ap length is ∙ written_length w.buf.now w.at t in
    record { wrote = record { is = is; place = omega arith }; named = named; lies = lies }

pub puts_none : (w : Writer) → Puts w [] w
puts_none w = puts (sym (written_none w.buf.now w.at)) (omega arith) refl refl

pub puts_past : (w : Writer) (t : List ℕ) → length w.buf.now < w.at → Puts w t w
puts_past w t h =
    record { wrote = record { is = sym (written_past w.buf.now w.at t (omega arith)); place = omega arith }; named = refl; lies = refl }

pub puts_as : {w v : Writer} {t u : List ℕ} → t ≡ u → Puts w t v → Puts w u v
puts_as {w} {v} e p = subst (λ x. Puts w x v) e p

-- the contract of a put leaves one buffer and one place
pub wrote_one : {b d f t : List ℕ} {at m n : ℕ} → Wrote b at t d m → Wrote b at t f n → (d ≡ f) × (m ≡ n)
wrote_one p q = (p.is ∙ sym q.is, p.place ∙ sym q.place)

-- a text that fits, from the buffer's start: it fills the first bytes and the rest stays
pub wrote_front : {b d t : List ℕ} {next : ℕ} → Wrote b 0 t d next → length t ≤ length b → (d ≡ t ++ drop (length t) b) × (next ≡ length t)
wrote_front {b} {d} {t} {next} w h =
    let n : 0 + length t ≡ length t = omega arith in
    let p : next ≡ min (0 + length t) (length b + 1) = w.place in
    (w.is ∙ written_fits b 0 t (omega arith) ∙ rw n, omega arith)

-- A loop that stores a text that fits: what is left of it, stored from place at + i on, makes the buffer that is wanted.
pub record Storing (b : List ℕ) (at : ℕ) (t d : List ℕ) (i : ℕ) : Type 0 where
  pub kept : length d ≡ length b
  pub same : sets d (at + i) (drop i t) ≡ written b at t

pub storing_start : (b : List ℕ) (at : ℕ) (t : List ℕ) → Storing b at t b 0
storing_start b at t = record { kept = refl; same = rw add-zero (sym (written_sets b at t)) }

pub storing_more : {b t d : List ℕ} {at i : ℕ} → Storing b at t d i → i < length t → Storing b at t (set d (at + i) (get_or t i 0)) (i + 1)
storing_more {b} {t} {d} {at} {i} s h =
    let n : at + (i + 1) ≡ suc (at + i) = omega arith in
    record {
      kept = length-set d (at + i) (get_or t i 0) ∙ s.kept;
      same = rw n (sym (turn (sets d (at + i)) t i 0 h) ∙ s.same);
    }

pub storing_end : {b t d : List ℕ} {at i : ℕ} → Storing b at t d i → length t ≤ i → d ≡ written b at t
storing_end {b} {t} {d} {at} {i} s h = sym (end (sets d (at + i)) t i h) ∙ s.same

-- as much as fits of a text that does not
pub written_front : (b : List ℕ) (at : ℕ) (t : List ℕ) {u : List ℕ} → at ≤ length b → length b - at < length t → u ≡ take (length b - at) t → written b at u ≡ written b at t
unfolding written
written_front b at t h l same =
    let r = length b - at in
    let k : length (take r t) ≡ r = length-take-le r t (omega arith) in
    rw (same, take_all r (take r t) (omega (arith, k)), drop_of_length-le b {i = at + length (take r t)} (omega (arith, k)), drop_of_length-le b {i = at + length t} (omega arith))

-- the same text by another name
pub wrote_as : {b d t u : List ℕ} {at next : ℕ} → t ≡ u → Wrote b at t d next → Wrote b at u d next
wrote_as {b} {d} {t} {u} {at} {next} e w = subst (λ x. Wrote b at x d next) e w
