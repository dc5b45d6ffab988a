-- The URI, taken apart as the code does: after its scheme, at its slash, at its colon and at the question mark behind its path.
-- Assumes nothing.
use mathlib.Core.Path.{◌≡◌, refl, ap, ap₂, sym, ◌∙◌}
use mathlib.Core.Bool.{Bool, true, false, not, cond, ◌&&◌, and-true, and-false}
use mathlib.Core.List.{List, [], ◌∷◌}
use Prim.Native.Nat.{ℕ, suc, ◌+◌, ◌-◌, ◌≤◌, ◌<◌}
use native.Mathlib.Decide.{dec_lt}
use native.Mathlib.Nat.{zero-add, sub-zero}
use native.Mathlib.Numerals.{add-one}
use native.Mathlib.Omega.{arith}
use lib.Dec.{ltb, leb, eqb}
use lib.ListN.{length, drop, take, get_or, length-take}
use lib.Seq.{take-take, drop-drop, get_or-drop}
use borrow.Author.Tests.{not-true, not-false, lt-ltb, le-ltb, ltb-true, eqb-true, ne_eqb}
use Rattle.scan.specs.Text.{text, is, seen, are_alike, before, after, has}
use Rattle.scan.specs.Lists.{all, first, part, is_name}
use Rattle.scan.specs.Found.{FirstOf, Holds, in_class}
use Rattle.scan.specs.declared.Class.TheVariants.{Not, NotName}
use Rattle.scan.specs.declared.Case.TheVariants.{Counts}
use Rattle.scan.proofs.Bools.{never, and_both, both, by_cases, Case, is as holds, isnt, case}
use Rattle.scan.proofs.Parts.{drop_take, part_length, part_part, part_rest, holds_inside, named_by, name_ends, name_whole, name_not}
use Rattle.scan.proofs.Loops.{Seeking, seeking_start, seeking_more, seeking_block, first_within, first_passes, first_front, first_kept}
use Rattle.scan.proofs.Compares.{alike_long, alike_equal}
use Rattle.digits.specs.Reading.{digit_of, are_digits, spelled, at_least, read_number}
use Rattle.digits.specs.declared.Zeros.TheVariants.{Refused}
use Rattle.target.specs.Uri.{starts_with, rest_of, is_port, stream_of_path, stream_named, host_of, has_query, query_of, is_uri}
use Rattle.target.specs.Steps.{question, slash, port_colon, is_host, unless, stream_in, UriIs, is_port_number, host_end}
use Rattle.std.specs.Prelude.{Option, Some, None, IfSome, is_some, option_and_then}
use Rattle.digits.proofs.Limits.{number_between}
use Rattle.std.specs.Bool.{then_some}

-- A TEXT THAT STARTS WITH ANOTHER is no shorter
pub starts_short : (t u : List ℕ) → length u < length t → false ≡ starts_with t u
starts_short t u h =
    let w : length (part 0 (length t) u) ≡ length u = ap length (part_rest 0 (length t) u (omega arith)) in
    alike_long (seen Counts) (part 0 (length t) u) t (λ e. omega arith)

pub starts_long : (t u : List ℕ) {r : Bool} → r ≡ starts_with t u → not r ≡ false → length t ≤ length u
starts_long t u {r} e n =
    by_cases (dec_lt (length u) (length t)) (λ h. never (not-false r n) (e ∙ sym (starts_short t u h))) (λ h. omega arith)

-- THE HOST AND THE PORT
module _ {a : List ℕ} {k : ℕ} (g : FirstOf (in_class NotName) a k) where
  pub host_not : (k ≡ length a → ⊥) → (get_or a k 0 ≡ 58 → ⊥) → None ≡ host_end a
  host_not z n =
      let w : k ≤ length a = g.within in
      sym (simp (name_not 58 refl g (omega arith) n, and-false))

  -- the host ends at k: a colon stands there, or nothing
  module _ (p : k < length a → get_or a k 0 ≡ 58) where
    end_by : host_end a ≡ then_some (ltb 0 k && cond (ltb k (length a)) (is_port_number (drop (k + 1) a)) true) k
    end_by =
        let f = name_ends 58 refl g p in
        let e : host_end a ≡ then_some ((ltb 0 k && all is_name (part 0 k a)) && cond (ltb k (length a)) (is_port_number (drop (k + 1) a)) true) k = rw (named_by 58 a f, f.is) in
        e ∙ ap (λ t. then_some ((ltb 0 k && t) && cond (ltb k (length a)) (is_port_number (drop (k + 1) a)) true) k) (sym (name_whole 58 refl g)) ∙ rw (and-true (ltb 0 k))

  module _ (s : k ≡ 0 → ⊥) where
    pub host_alone : k ≡ length a → Some k ≡ host_end a
    host_alone z = sym (end_by (λ h. absurd (omega arith)) ∙ rw (le-ltb k (length a) (omega arith), and-true (ltb 0 k), lt-ltb 0 k (omega arith)))

    pub host_port : (k ≡ length a → ⊥) → get_or a k 0 ≡ 58 → {v : Bool} → v ≡ is_port_number (part (k + 1) (length a) a) → then_some v k ≡ host_end a
    host_port z c {v} q =
        let w : k ≤ length a = g.within in
        sym (end_by (λ _. c) ∙ rw (q, part_rest (k + 1) (length a) a (omega arith), lt-ltb k (length a) (omega arith), lt-ltb 0 k (omega arith)))

-- a text whose host ends somewhere is one, and another is not
host_is : (a : List ℕ) {h : ℕ} → Some h ≡ host_end a → (is_host a ≡ true) × (is_port a ≡ true) × (h ≡ port_colon a)
host_is a {h} e = go (is_host a) (is_port a) e
  where
    go : (x y : Bool) → Some h ≡ then_some (x && y) (port_colon a) → (x ≡ true) × (y ≡ true) × (h ≡ port_colon a)
    go true true q = (refl, refl, cc)
    go true false q = cc
    go false y q = cc

host_none : (a : List ℕ) → None ≡ host_end a → is_host a && is_port a ≡ false
host_none a e = go (is_host a && is_port a) e
  where
    go : (x : Bool) → None ≡ then_some x (port_colon a) → x ≡ false
    go true q = cc
    go false q = refl

-- THE PATH
module _ (p : List ℕ) {t : Bool} (e : t ≡ starts_with (text "stream=") p) where
  pub stream_not : not t ≡ true → None ≡ stream_in p
  stream_not y = rw (sym e ∙ not-true t y)

  pub stream_is : not t ≡ false → {v : Option ℕ} → v ≡ at_least 1 (read_number Refused 5 65535 (part 7 (length p) p)) → v ≡ stream_in p
  stream_is y {v} q = q ∙ rw (part_rest 7 (length p) p (omega arith), sym e ∙ not-false t y)

-- what is read of a path, which is none where the path is empty, and what that says of the meaning
pub record PathIs (p : List ℕ) (r : Option ℕ) : Type 0 where
  pub form : is_some (stream_of_path p) ≡ true
  pub stream : r ≡ option_and_then (unless 0) (stream_of_path p)

pub path_none : (p : List ℕ) → length p ≡ 0 → PathIs p None
unfolding stream_of_path
path_none [] h = record { form = refl; stream = refl }
path_none (x ∷ p) h = absurd (omega arith)

path_by : (p : List ℕ) → (length p ≡ 0 → ⊥) → stream_of_path p ≡ stream_in p
unfolding stream_of_path
path_by [] n = absurd (n refl)
path_by (x ∷ p) n = refl

pub path_not : (p : List ℕ) → (length p ≡ 0 → ⊥) → stream_in p ≡ None → is_some (stream_of_path p) ≡ false
path_not p n e = rw (path_by p n, e)

pub path_some : (p : List ℕ) → (length p ≡ 0 → ⊥) → {j : ℕ} → stream_in p ≡ Some j → PathIs p (Some j)
path_some p n {j} e =
    let least : 1 ≤ j = by (starts_with (text "stream=") p) e in
    record { form = rw (path_by p n, e); stream = rw (path_by p n, e, ne_eqb j 0 (λ z. omega arith)) }
  where
    at_one : (r : Option ℕ) → IfSome r (λ v. (1 ≤ v) × (v ≤ 65535)) → r ≡ Some j → 1 ≤ j
    at_one r h q = (rw q at h).0

    by : (t : Bool) → cond t (at_least 1 (read_number Refused 5 65535 (drop 7 p))) None ≡ Some j → 1 ≤ j
    by true q = at_one (at_least 1 (read_number Refused 5 65535 (drop 7 p))) (number_between Refused 5 1 65535 (drop 7 p)) q
    by false q = cc

-- THE WHOLE
-- a host with its port, and the digits of a number, hold no question mark
unmarked_digits : (xs : List ℕ) → are_digits 10 xs ≡ true → all (in_class (Not 63)) xs ≡ true
unmarked_digits [] e = refl
unmarked_digits (x ∷ xs) e =
    let b = and_both (ltb (digit_of x) 10) (are_digits 10 xs) e in
    both (ap not (ne_eqb x 63 (λ q. never (ap (λ y. ltb (digit_of y) 10) (sym q) ∙ b.0) refl))) (unmarked_digits xs b.1)

unmarked_host : (a : List ℕ) → all is_name (take (port_colon a) a) ≡ true → (port_colon a < length a → are_digits 10 (drop (suc (port_colon a)) a) ≡ true)
    → all (in_class (Not 63)) a ≡ true
unmarked_host [] n e = refl
unmarked_host (x ∷ a) n e = by (case (eqb x 58)) (unmarked_host a)
  where
    ends : eqb x 58 ≡ true → are_digits 10 a ≡ true
    ends y = let q = rw y at e in q (omega arith)

    later : eqb x 58 ≡ false → port_colon a < length a → are_digits 10 (drop (suc (port_colon a)) a) ≡ true
    later z h = let q = rw z at e in q (omega arith)

    by : Case (eqb x 58)
        → (all is_name (take (port_colon a) a) ≡ true → (port_colon a < length a → are_digits 10 (drop (suc (port_colon a)) a) ≡ true) → all (in_class (Not 63)) a ≡ true)
        → all (in_class (Not 63)) (x ∷ a) ≡ true
    by (holds y) more = both (ap not (ne_eqb x 63 (λ q. omega (arith, eqb-true x 58 y)))) (unmarked_digits a (ends y))
    by (isnt z) more =
        let b = and_both (is_name x) (all is_name (take (port_colon a) a)) (rw z at n) in
        both (ap not (ne_eqb x 63 (λ q. never (ap is_name (sym q) ∙ b.0) refl))) (more b.1 (later z))

port_digits : (xs : List ℕ) → is_port_number xs ≡ true → are_digits 10 xs ≡ true
unfolding read_number
port_digits xs e = go (leb 1 (length xs)) (leb (length xs) 5) (are_digits 10 xs) (leb (spelled 10 xs) 65535) e
  where
    go : (a b c d : Bool) → is_some (at_least 1 (cond (a && (b && (c && d))) (Some (spelled 10 xs)) None)) ≡ true → c ≡ true
    go true true true d z = refl
    go true true false d z = never z refl
    go true false c d z = never z refl
    go false b c d z = never z refl

unmarked : (a : List ℕ) {h : ℕ} → Some h ≡ host_end a → all (in_class (Not 63)) a ≡ true
unmarked a {h} e =
    let i = host_is a e in
    let names : all is_name (take (port_colon a) a) ≡ true = rw (sub-zero (port_colon a)) at (and_both (ltb 0 (length (part 0 (port_colon a) a))) (all is_name (part 0 (port_colon a) a)) i.0).1 in
    unmarked_host a names (λ l. rw (← add-one (port_colon a)) (port_digits (drop (port_colon a + 1) a) (rw (lt-ltb (port_colon a) (length a) l) at i.1)))

-- a chain of tests, one of which fails, and one whose first four are met
second_false : (a b c : Bool) → b ≡ false → a && (b && c) ≡ false
second_false true b c e = rw e
second_false false b c e = refl

third_false : (a b c d v : Bool) → c && d ≡ false → a && (b && (c && (d && v))) ≡ false
third_false true true true d v e = rw e
third_false true true false d v e = refl
third_false true false c d v e = refl
third_false false b c d v e = refl

all_true : (a b c d v : Bool) → a ≡ true → b ≡ true → c ≡ true → d ≡ true → a && (b && (c && (d && v))) ≡ v
all_true a b c d v p q r z = rw (p, q, r, z)

-- what follows the scheme, and the parts around the slash at k
abbrev rest : List ℕ → List ℕ
rest u = part 7 (length u) u

abbrev front : ℕ → List ℕ → List ℕ
front k u = part 0 k (rest u)

abbrev path : ℕ → List ℕ → List ℕ
path k u = part (k + 1) (length (rest u)) (rest u)

abbrev scheme : List ℕ
scheme = text "rtsp://"

module _ (u : List ℕ) where
  body_length : length (part 0 (question u) u) ≡ question u
  body_length = part_length 0 (question u) u (first_within (is 63) u) ∙ sub-zero (question u)

  -- the scheme stands before the question mark
  scheme_body : 7 ≤ question u → starts_with scheme (part 0 (question u) u) ≡ starts_with scheme u
  scheme_body h = ap (λ x. are_alike Counts x scheme) (part_part 0 7 0 (question u) u (omega arith))

  pub scheme_not : {t : Bool} → t ≡ starts_with scheme u → not t ≡ true → is_uri u ≡ false
  unfolding is_uri
  scheme_not {t} s n = by (case (starts_with scheme (part 0 (question u) u)))
    where
      by : Case (starts_with scheme (part 0 (question u) u)) → is_uri u ≡ false
      by (holds y) =
          let l : 7 ≤ length (part 0 (question u) u) = starts_long scheme (part 0 (question u) u) (sym y) refl in
          never (sym (scheme_body (omega (arith, body_length))) ∙ y) (sym s ∙ not-true t n)
      by (isnt z) = rw z

  -- up to the question mark it is a front part of what follows the scheme
  rest_whole : rest u ≡ drop 7 u
  rest_whole = part_rest 7 (length u) u (omega arith)

  rest_front : rest_of u ≡ take (question u - 7) (rest u)
  rest_front = drop_take 7 (question u - 0) u ∙ ap₂ (λ j x. take (j - 7) x) (sub-zero (question u)) (sym rest_whole)

-- the slash at k is the first one behind the scheme
module _ (u : List ℕ) {t : Bool} (s : t ≡ starts_with scheme u) (y : not t ≡ false) where
  pub scheme_long : 7 ≤ length u
  scheme_long = starts_long scheme u s y

  module _ {k : ℕ} (f : FirstOf (is 47) (rest u) k) where
    -- where a slash stands before the question mark, it is that one
    same_front : has 47 (rest_of u) ≡ true → (k < length (rest u)) × (before 47 (rest_of u) ≡ front k u)
    same_front e =
        let n : ℕ = question u - 7 in
        let r : rest_of u ≡ take n (rest u) = rest_front u in
        let b : first (is 47) (take n (rest u)) < length (take n (rest u)) = rw r at (ltb-true (slash (rest_of u)) (length (rest_of u)) e) in
        let z : first (is 47) (take n (rest u)) ≡ k = first_front (is 47) n (rest u) b ∙ sym f.is in
        let l = length-take n (rest u) in
        (omega arith, rw (r, z) (take-take (k - 0) n (rest u) (omega arith)))

    pub slash_not : k ≡ length (rest u) → is_uri u ≡ false
    unfolding is_uri
    slash_not z = by (case (has 47 (rest_of u)))
      where
        by : Case (has 47 (rest_of u)) → is_uri u ≡ false
        by (holds b) = let l = (same_front b).0 in absurd (omega arith)
        by (isnt b) = second_false (starts_with scheme (before 63 u)) (has 47 (rest_of u)) (is_host (before 47 (rest_of u)) && (is_port (before 47 (rest_of u)) && is_some (stream_named u))) b

    pub no_host : None ≡ host_end (front k u) → is_uri u ≡ false
    unfolding is_uri
    no_host e = by (case (has 47 (rest_of u)))
      where
        by : Case (has 47 (rest_of u)) → is_uri u ≡ false
        by (holds b) = third_false (starts_with scheme (before 63 u)) (has 47 (rest_of u)) (is_host (before 47 (rest_of u))) (is_port (before 47 (rest_of u))) (is_some (stream_named u)) (ap (λ x. is_host x && is_port x) (same_front b).1 ∙ host_none (front k u) e)
        by (isnt b) = second_false (starts_with scheme (before 63 u)) (has 47 (rest_of u)) (is_host (before 47 (rest_of u)) && (is_port (before 47 (rest_of u)) && is_some (stream_named u))) b

    module _ {h : ℕ} (e : Some h ≡ host_end (front k u)) where
      -- there is a host: no question mark stands before the path, so the first one there ends it
      module _ (l : k < length (rest u)) {m : ℕ} (g : FirstOf (is 63) (path k u) m) where
        path_rest : path k u ≡ drop (k + 1) (rest u)
        path_rest = part_rest (k + 1) (length (rest u)) (rest u) (omega arith)

        path_long : k + 1 + m ≤ length (rest u)
        path_long =
            let w : m ≤ length (path k u) = g.within in
            let d : length (path k u) ≡ length (rest u) - (k + 1) = part_length (k + 1) (length (rest u)) (rest u) (omega arith) in
            omega arith

        rest_length : length (rest u) ≡ length u - 7
        rest_length = part_length 7 (length u) u (omega arith)

        begins : true ≡ all (in_class (Not 63)) (part 0 7 u)
        begins = let z : part 0 7 u ≡ scheme = alike_equal (part 0 7 u) scheme (sym s ∙ not-false t y) in rw z

        slash_there : get_or u (7 + k) 0 ≡ 47
        slash_there =
            let p : is 47 (get_or (rest u) k 0) ≡ true =
            ap (λ j. is 47 (get_or (rest u) j 0)) f.is ∙ first_passes (is 47) (rest u) 0 (rw f.is at l)
            in
            sym (ap (λ x. get_or x k 0) (rest_whole u) ∙ get_or-drop 7 u k 0) ∙ eqb-true (get_or (rest u) k 0) 47 p

        passed : Seeking (is 63) u (7 + k + 1)
        passed =
            let w = rest_length in
            let c : Seeking (is 63) u 7 = seeking_block (is 63) (in_class (Not 63)) (λ b. not-true _) (seeking_start (is 63) u) (omega arith) scheme_long begins refl in
            let r : front k u ≡ part 7 (7 + k) u = part_part 0 k 7 (length u) u (omega arith) in
            let d : Seeking (is 63) u (7 + k) =
            seeking_block (is 63) (in_class (Not 63)) (λ b. not-true _) c (omega arith) (omega arith) (sym (ap (all (in_class (Not 63))) (sym r) ∙ unmarked (front k u) e)) refl
            in
            seeking_more (is 63) 0 d (omega arith) (sym (ap (is 63) slash_there)) refl

        marked : question u ≡ 7 + (k + 1) + m
        marked =
            let a : 7 + k + 1 ≡ 7 + (k + 1) = omega arith in
            let d : drop (7 + k + 1) u ≡ path k u = ap (λ j. drop j u) a ∙ sym (path_rest ∙ ap (drop (k + 1)) (rest_whole u) ∙ drop-drop (k + 1) 7 u) in
            let b : first (is 63) (drop (7 + k + 1) u) ≡ m = ap (first (is 63)) d ∙ sym g.is in
            omega (arith, passed.same)

        cut_rest : rest_of u ≡ take (k + 1 + m) (rest u)
        cut_rest = let a : question u - 7 ≡ k + 1 + m = omega (arith, marked) in rest_front u ∙ ap (λ j. take j (rest u)) a

        slash_is : slash (rest_of u) ≡ k
        slash_is = let a : first (is 47) (rest u) ≡ k = sym f.is in ap slash cut_rest ∙ first_kept (is 47) (k + 1 + m) (rest u) (omega arith) ∙ a

        has_slash : has 47 (rest_of u) ≡ true
        has_slash =
            let b : length (rest_of u) ≡ length (take (k + 1 + m) (rest u)) = ap length cut_rest in
            let c = length-take (k + 1 + m) (rest u) in
            lt-ltb (slash (rest_of u)) (length (rest_of u)) (omega (arith, slash_is, path_long))

        path_is : part 0 m (path k u) ≡ after 47 (rest_of u)
        path_is =
            let a : k + 1 + m - (k + 1) ≡ m = omega arith in
            let b : after 47 (rest_of u) ≡ drop (k + 1) (take (k + 1 + m) (rest u)) = ap₂ (λ j x. drop (j + 1) x) slash_is cut_rest in
            rw (sub-zero m) (ap (take m) path_rest ∙ sym (b ∙ drop_take (k + 1) (k + 1 + m) (rest u) ∙ ap (λ j. take j (drop (k + 1) (rest u))) a))

        pub host_uri : Holds u (host_of u) 7 (7 + h)
        host_uri =
            let b : h ≡ port_colon (front k u) = (host_is (front k u) e).2 in
            let x : port_colon (front k u) ≤ length (front k u) = first_within (is 58) (front k u) in
            let i : part 0 h (front k u) ≡ host_of u = ap (λ j. part 0 j (front k u)) b ∙ sym (ap (before 58) (same_front has_slash).1) in
            let c : Holds (front k u) (host_of u) 0 h = record { order = omega arith; within = omega arith; is = i } in
            let d : Holds (rest u) (host_of u) 0 h = rw (zero-add h) at (holds_inside 0 k (rest u) refl (omega arith) f.within c) in
            holds_inside 7 (length u) u refl scheme_long (omega arith) d

        by_stream : is_uri u ≡ is_some (stream_of_path (part 0 m (path k u)))
        unfolding is_uri
        by_stream =
            let b = host_is (front k u) e in
            let q : 7 ≤ question u = omega (arith, marked) in
            all_true (starts_with scheme (before 63 u)) (has 47 (rest_of u)) (is_host (before 47 (rest_of u))) (is_port (before 47 (rest_of u))) (is_some (stream_named u)) (scheme_body u q ∙ sym s ∙ not-false t y) has_slash (ap is_host (same_front has_slash).1 ∙ b.0) (ap is_port (same_front has_slash).1 ∙ b.1)
            ∙ ap (λ p. is_some (stream_of_path p)) (sym path_is)

        -- the path up to the question mark has so many bytes
        part_there : length (part 0 m (path k u)) ≡ 0 → m ≡ 0
        part_there h = omega (arith, part_length 0 m (path k u) g.within)

        pub no_stream_law : (m ≡ 0 → ⊥) → {v : Option ℕ} → v ≡ stream_in (part 0 m (path k u)) → v ≡ None → is_uri u ≡ false
        no_stream_law n p z = by_stream ∙ path_not (part 0 m (path k u)) (λ h. n (part_there h)) (sym p ∙ z)

        -- what is read of the path up there
        pub stream_there : (m ≡ 0 → ⊥) → {v : Option ℕ} → v ≡ stream_in (part 0 m (path k u)) → {j : ℕ} → v ≡ Some j → PathIs (part 0 m (path k u)) (Some j)
        stream_there n p z = path_some (part 0 m (path k u)) (λ h. n (part_there h)) (sym p ∙ z)

        pub stream_missing : m ≡ 0 → PathIs (part 0 m (path k u)) None
        stream_missing z = path_none (part 0 m (path k u)) (omega (arith, part_length 0 m (path k u) g.within))

        asked_is : ltb m (length (path k u)) ≡ has_query u
        asked_is =
            let d : length (path k u) ≡ length (rest u) - (k + 1) = part_length (k + 1) (length (rest u)) (rest u) (omega arith) in
            let w = rest_length in
            let q = marked in
            by_cases (dec_lt m (length (path k u))) (λ a. lt-ltb m (length (path k u)) a ∙ sym (lt-ltb (question u) (length u) (omega arith)))
            (λ a. le-ltb m (length (path k u)) (omega arith) ∙ sym (le-ltb (question u) (length u) (omega arith)))

        -- where the query stands, if there is one
        query_held : has_query u ≡ true → Holds u (query_of u) (7 + (k + 1) + m + 1) (length u)
        query_held b =
            record {
              order = omega (arith, marked, ltb-true (question u) (length u) b);
              within = omega arith;
              is = part_rest (7 + (k + 1) + m + 1) (length u) u (omega arith) ∙ ap (λ i. drop (i + 1) u) (sym marked);
            }

        query_there : (t : Bool) → t ≡ has_query u → IfSome (then_some t (7 + (k + 1) + m + 1)) (λ start. Holds u (query_of u) start (length u))
        query_there true b = query_held (sym b)
        query_there false b = tt

        pub uri_is : {j r : Option ℕ} → PathIs (part 0 m (path k u)) j → r ≡ then_some (ltb m (length (path k u))) (7 + (k + 1) + m + 1)
            → UriIs u (record { query = r; stream = j; host = record { start = 7; end = 7 + h } })
        uri_is {j} z d =
            record {
              form = by_stream ∙ z.form;
              stream = z.stream ∙ ap (λ p. option_and_then (unless 0) (stream_of_path p)) path_is;
              host = host_uri;
              starts = refl;
              place = d ∙ ap₂ (λ t i. then_some t (i + 1)) asked_is (sym marked);
              query = rw d (query_there (ltb m (length (path k u))) asked_is);
            }
