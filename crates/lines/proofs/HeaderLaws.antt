-- One header line, read at the byte that ends its name. Assumes nothing.
use mathlib.Core.Path.{◌≡◌, refl, ap, ◌∙◌, sym}
use mathlib.Core.Bool.{Bool, true, false, cond, ◌&&◌, and-false}
use mathlib.Core.List.{List, [], ◌∷◌}
use Prim.Native.Nat.{ℕ, ◌+◌, ◌≤◌, ◌<◌}
use native.Mathlib.Omega.{arith}
use lib.Dec.{ltb, leb, eqb}
use lib.ListN.{length, drop, get_or}
use borrow.Author.Tests.{lt-ltb, le-ltb, ltb-true, leb-true, le-leb, lt-leb, eqb-true, eqb-false, ne_eqb}
use Rattle.scan.specs.Lists.{all, first, part, is_name, is_capital, are_name_bytes}
use Rattle.scan.specs.Text.{seen, are_alike, trim, is, has, cut, place_among}
use Rattle.scan.specs.Found.{FirstOf, Trimmed, leading, in_class, is_word}
use Rattle.scan.specs.declared.Class.TheVariants.{NotName}
use Rattle.scan.specs.declared.Case.TheVariants.{Ignored}
use Rattle.scan.specs.declared.Span.{Span}
use native.Mathlib.Nat.{sub-zero}
use native.Mathlib.Decide.{ℕ_discrete, dec_lt}
use Rattle.scan.proofs.Bools.{never, and_both, both, by_test, by_cases, Case, is as holds, isnt, case}
use Rattle.scan.proofs.Loops.{seeking_start, seeking_hit, seeking_block, first_passes}
use Rattle.scan.proofs.Compares.{alike_long}
use Rattle.scan.proofs.Places.{place_alike}
use Rattle.scan.proofs.Parts.{part_length, part_rest, holds_inside, named_by, name_ends, name_whole, name_not}
use Rattle.lines.specs.Headers.{is_header}
use Rattle.lines.specs.Laid.{known, header_colon, name_of, name_number, is_named, Named, KnownHeader}
use Rattle.lines.specs.declared.Name.{Name}

-- k is the place of the first byte that is none of a name's: the line is a header if a colon stands there, behind another byte
pub header_law : (line : List ℕ) {k : ℕ} → FirstOf (in_class NotName) line k → is_header line ≡ ltb 0 k && (ltb k (length line) && eqb (get_or line k 0) 58)
header_law line {k} f = by_cases (dec_lt k (length line)) within past
  where
    past : (k < length line → ⊥) → is_header line ≡ ltb 0 k && (ltb k (length line) && eqb (get_or line k 0) 58)
    past n =
        let c : FirstOf (is 58) line k = name_ends 58 refl f (λ h. absurd (n h)) in
        let l : ltb k (length line) ≡ false = le-ltb k (length line) (omega arith) in
        rw (named_by 58 line c, ← c.is, l, and-false)

    within : k < length line → is_header line ≡ ltb 0 k && (ltb k (length line) && eqb (get_or line k 0) 58)
    within h = by_test (λ t. eqb (get_or line k 0) 58 ≡ t → is_header line ≡ ltb 0 k && (ltb k (length line) && t)) (eqb (get_or line k 0) 58) colon other refl
      where
        l : ltb k (length line) ≡ true
        l = lt-ltb k (length line) h

        colon : eqb (get_or line k 0) 58 ≡ true → eqb (get_or line k 0) 58 ≡ true → is_header line ≡ ltb 0 k && (ltb k (length line) && true)
        colon y _ =
            let c : FirstOf (is 58) line k = name_ends 58 refl f (λ _. eqb-true (get_or line k 0) 58 y) in
            rw (named_by 58 line c, ← c.is, l, ← name_whole 58 refl f)

        other : eqb (get_or line k 0) 58 ≡ false → eqb (get_or line k 0) 58 ≡ false → is_header line ≡ ltb 0 k && (ltb k (length line) && false)
        other n _ = simp (name_not 58 refl f h (eqb-false (get_or line k 0) 58 n), and-false)

-- A KNOWN NAME, with its colon: its bytes are a name's, whatever their case
name_seen : (b : ℕ) → is_name (seen Ignored b) ≡ is_name b
name_seen b = by_test (λ t. is_capital b ≡ t → is_name (cond t (b + 32) b) ≡ is_name b) (is_capital b) shifted (λ _ _. refl) refl
  where
    shifted : is_capital b ≡ true → is_capital b ≡ true → is_name (b + 32) ≡ is_name b
    shifted _ y =
        let t = and_both (leb 65 b) (leb b 90) y in
        let l : 65 ≤ b = leb-true 65 b t.0 in
        let h : b ≤ 90 = leb-true b 90 t.1 in
        rw (y, le-leb 97 (b + 32) (omega arith), le-leb (b + 32) 122 (omega arith), lt-leb (b + 32) 90 (omega arith), and-false (leb 65 (b + 32)))

alike_names : (w s : List ℕ) → are_alike Ignored w s ≡ true → all is_name w ≡ true → all is_name s ≡ true
alike_names [] [] e n = refl
alike_names [] (y ∷ s) e n = never e refl
alike_names (x ∷ w) [] e n = never e refl
alike_names (x ∷ w) (y ∷ s) e n =
    let b = and_both (eqb (seen Ignored x) (seen Ignored y)) (are_alike Ignored w s) e in
    let m = and_both (is_name x) (all is_name w) n in
    both (sym (name_seen y) ∙ ap is_name (sym (eqb-true (seen Ignored x) (seen Ignored y) b.0)) ∙ name_seen x ∙ m.0) (alike_names w s b.1 m.1)

-- a line that passes the test for a word, at the word's place
pub named_is : (w line : List ℕ) → all is_name w ≡ true → 0 < length w → {t : Bool} → t ≡ is_named w line → t ≡ true → Named line (first (is_word Ignored w) (cut 32 known)) (length w)
named_is w line n l {t} e y =
    let a = and_both (ltb (length w) (length line)) (eqb (get_or line (length w) 0) 58 && are_alike Ignored w (part 0 (length w) line)) (sym e ∙ y) in
    let b = and_both (eqb (get_or line (length w) 0) 58) (are_alike Ignored w (part 0 (length w) line)) a.1 in
    record {
      some = l;
      within = ltb-true (length w) (length line) a.0;
      colon = eqb-true (get_or line (length w) 0) 58 b.0;
      names = alike_names w (part 0 (length w) line) b.1 n;
      place = place_alike Ignored known w (part 0 (length w) line) refl b.1;
    }

same_length : (w s : List ℕ) → are_alike Ignored w s ≡ true → length w ≡ length s
same_length w s y = by_cases (ℕ_discrete (length w) (length s)) (λ q. q) (λ q. never y (sym (alike_long (seen Ignored) w s q)))

-- a header that does not is alike none: its name ends at its colon
pub named_not : (w line : List ℕ) {t : Bool} → t ≡ is_named w line → t ≡ false → is_header line ≡ true → are_alike Ignored w (name_of line) ≡ false
named_not w line {t} e n h = by (case (are_alike Ignored w (name_of line)))
  where
    by : Case (are_alike Ignored w (name_of line)) → are_alike Ignored w (name_of line) ≡ false
    by (isnt z) = z
    by (holds y) =
        let c : header_colon line < length line = ltb-true (header_colon line) (length line) (and_both (has 58 line) (are_name_bytes (name_of line)) h).0 in
        let s : length (name_of line) ≡ header_colon line = part_length 0 (header_colon line) line (omega arith) ∙ sub-zero (header_colon line) in
        let l : length w ≡ header_colon line = same_length w (name_of line) y ∙ s in
        let b : is 58 (get_or line (header_colon line) 0) ≡ true = first_passes (is 58) line 0 c in
        never (rw l (both (lt-ltb (header_colon line) (length line) c) (both b y))) (sym e ∙ n)

module _ {line : List ℕ} {k c : ℕ} (d : Named line k c) where
  ended : FirstOf (is 58) line c
  ended =
      let w : c < length line = d.within in
      seeking_hit (is 58) 0
      (seeking_block (is 58) is_name (λ b y. ne_eqb b 58 (λ q. never (ap is_name (sym q) ∙ y) refl)) (seeking_start (is 58) line) (omega arith) (omega arith) (sym d.names) refl)
      w (sym (ap (is 58) d.colon)) refl

  pub header_known : {name : Name} → k ≡ name_number name → (v : Span) → Trimmed (part (c + 1) (length line) line) v → KnownHeader line name (record { start = c + 1 + v.start; end = c + 1 + v.end })
  header_known q v w =
      let l : c < length line = d.within in
      let f = ended in
      let e : is_header line ≡ ltb c (length line) && (ltb 0 c && all is_name (part 0 c line)) = rw (named_by 58 line f, f.is) in
      let whole : is_header line ≡ true = e ∙ both (lt-ltb c (length line) l) (both (lt-ltb 0 c d.some) d.names) in
      let rest : part (c + 1) (length line) line ≡ drop (header_colon line + 1) line = part_rest (c + 1) (length line) line (omega arith) ∙ ap (λ j. drop (j + 1) line) f.is in
      let held = holds_inside (c + 1) (length line) line refl (omega arith) (omega arith) w.holds in
      record {
        header = whole;
        kind = sym (ap (λ j. place_among Ignored known (part 0 j line)) f.is) ∙ sym d.place ∙ q;
        value = rw (ap trim rest) at held;
        starts = ap (λ j. c + 1 + j) (w.starts ∙ ap leading rest) ∙ ap (λ j. j + 1 + leading (drop (header_colon line + 1) line)) f.is;
      }
