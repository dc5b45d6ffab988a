-- The loop over the parts of a query: which attributes are taken, their codes, and where their texts stand. Assumes nothing.
use mathlib.Core.Path.{◌≡◌, refl, ap, ◌∙◌, sym}
use mathlib.Core.Bool.{Bool, true, false, not, cond, ◌&&◌, ◌||◌, and-false}
use mathlib.Core.List.{List, [], ◌∷◌}
use Prim.Native.Nat.{ℕ, ◌+◌, ◌-◌, ◌≤◌, ◌<◌, suc}
use native.Mathlib.Decide.{ℕ_discrete, dec_lt}
use native.Mathlib.Omega.{arith}
use lib.Dec.{ltb, eqb}
use lib.ListN.{length, drop, get_or, set, replicate, length-set, length-drop, drop_of_length-le}
use lib.Seq.{get_or-set_same, get_or-set_other}
use borrow.Author.Tests.{ltb-true, lt-ltb, eq-eqb, ne_eqb}
use Rattle.scan.specs.Lists.{all, part, first}
use Rattle.scan.specs.Found.{Holds, nowhere, FirstOf, FirstFrom, cut_from}
use Rattle.scan.specs.Text.{is, cut}
use Rattle.scan.specs.declared.Span.{Span}
use Rattle.scan.proofs.Bools.{never, by_test, by_cases}
use Rattle.scan.proofs.Cuts.{cut_start, cut_turn, cut_end}
use Rattle.scan.proofs.Parts.{part_length, part_part, part_rest, all_same, holds_nothing, some_text}
use Rattle.std.specs.Prelude.{Option, Some, None, is_some}
use Rattle.tuning.specs.Values.{attribute_of, value_of}
use Rattle.tuning.specs.Found.{attribute_named}
use Rattle.aim.specs.Query.{attribute_in, are_parts, code_from, text_in, code_in}
use Rattle.aim.specs.Found.{is_query, are_within, code_of, text_of, code_among, text_among, is_part, equals, part_value, is_named_before, is_within, start_among, start_of, PartHas, PartIs, QueryIs}
use Rattle.aim.specs.declared.query.Part.{Part}
use Rattle.tuning.proofs.Words.{value_none}

-- one part of a query: its attribute is the one that stands before its `=`
part_attribute : (p : List ℕ) {k : ℕ} → FirstOf (is 61) p k → k + 1 < length p → attribute_in p ≡ attribute_of (part 0 k p)
unfolding attribute_in
part_attribute p {k} f h =
    let n : length (drop (k + 1) p) ≡ length p - (k + 1) = length-drop (k + 1) p in
    rw (← f.is, some_text (drop (k + 1) p) (omega arith))

module _ (p : List ℕ) {k : ℕ} (f : FirstOf (is 61) p k) (h : k + 1 < length p) where
  named_by_test : (P : Bool → Option ℕ → Type 0) → (ltb (attribute_in p) 13 ≡ true → P true (Some (attribute_in p))) → (ltb (attribute_in p) 13 ≡ false → P false None)
      → P (ltb (attribute_in p) 13) (attribute_named (part 0 k p))
  named_by_test P there not_there =
      rw (← part_attribute p f h) (by_test (λ t. P t (cond t (Some (attribute_in p)) None)) (ltb (attribute_in p) 13) there not_there)

  pub part_whole : {a : ℕ} → Some a ≡ attribute_named (part 0 k p) → PartHas p (record { attribute = a; value = k + 1 })
  part_whole {a} = named_by_test (λ t o. Some a ≡ o → PartHas p (record { attribute = a; value = k + 1 }))
      (λ y e. record { attribute = cc; known = y; value = ap (λ j. j + 1) f.is })
      (λ _ e. cc)

  pub part_unnamed : None ≡ attribute_named (part 0 k p) → ltb (attribute_in p) 13 ≡ false
  part_unnamed = named_by_test (λ t o. None ≡ o → t ≡ false) (λ _ e. cc) (λ _ _. refl)

pub part_broken : (p : List ℕ) {k : ℕ} → FirstOf (is 61) p k → length p ≤ k + 1 → ltb (attribute_in p) 13 ≡ false
unfolding attribute_in
part_broken p {k} f h = rw (← f.is, drop_of_length-le p {i = k + 1} h)

-- an attribute below 13 is named by a part with a value
is_part_law : (p : List ℕ) → attribute_in p < 13 → is_part p ≡ true
unfolding attribute_in
is_part_law p h = by_cases (dec_lt (equals p + 1) (length p)) (λ l. lt-ltb (equals p + 1) (length p) l) none
  where
    none : (equals p + 1 < length p → ⊥) → is_part p ≡ true
    none n =
        let z : attribute_in p ≡ 13 = rw (drop_of_length-le p {i = equals p + 1} (omega arith)) in
        absurd (omega arith)

-- an attribute that is not among those taken differs from each
untaken : (a : ℕ) (taken : List ℕ) → all (λ b. not (eqb a b)) taken ≡ not (is_named_before a taken)
untaken a [] = refl
untaken a (b ∷ bs) = by_test (λ t. not t && all (λ c. not (eqb a c)) bs ≡ not (t || is_named_before a bs)) (eqb a b) (λ _. refl) (λ _. untaken a bs)

-- and its value stands behind the `=`
pub value_inside : (q : List ℕ) (p e : ℕ) {r : Part} → e ≤ length q → PartHas (part p e q) r → p + r.value < e
value_inside q p e {r} k i =
    let t : is_part (part p e q) ≡ true = is_part_law (part p e q) (ltb-true (attribute_in (part p e q)) 13 i.known) in
    let l : equals (part p e q) + 1 < length (part p e q) = ltb-true (equals (part p e q) + 1) (length (part p e q)) t in
    let n : length (part p e q) ≡ e - p = part_length p e q k in
    let v : r.value ≡ equals (part p e q) + 1 = i.value in
    omega arith

-- AN ATTRIBUTE'S TEXT AND CODE, part by part
pub text_among_law : (a : ℕ) (ps : List (List ℕ)) → text_in a ps ≡ text_among a ps
unfolding text_in
text_among_law a = among
  where
    among : (ps : List (List ℕ)) → part_value (get_or ps (first (λ p. eqb (attribute_in p) a) ps) []) ≡ text_among a ps
    among [] = refl
    among (p ∷ ps) =
        by_test (λ t. part_value (get_or (p ∷ ps) (cond t 0 (suc (first (λ x. eqb (attribute_in x) a) ps))) []) ≡ cond t (part_value p) (text_among a ps)) (eqb (attribute_in p) a)
        (λ _. refl)
        (λ _. among ps)

pub code_among_law : (frontends a : ℕ) (ps : List (List ℕ)) → code_in frontends a ps ≡ code_among frontends a ps
unfolding code_in
code_among_law frontends a ps = ap (λ xs. code_from (value_of frontends a xs)) (text_among_law a ps) ∙ among ps
  where
    among : (ps : List (List ℕ)) → code_from (value_of frontends a (text_among a ps)) ≡ code_among frontends a ps
    among [] = ap code_from (value_none frontends a)
    among (p ∷ ps) =
        by_test (λ t. code_from (value_of frontends a (cond t (part_value p) (text_among a ps))) ≡ cond t (code_from (value_of frontends a (part_value p))) (code_among frontends a ps)) (eqb (attribute_in p) a)
        (λ _. refl)
        (λ _. among ps)

-- where the text of an attribute stands, once it is taken
pub record Spanned (q whole rest : List ℕ) (t : Bool) (span : Span) : Type 0 where
  pub there : t ≡ true → Holds q whole span.start span.end
  pub later : t ≡ false → (whole ≡ rest) × Holds q [] span.start span.end

-- the parts before place p are read
pub record Asking (frontends : ℕ) (q : List ℕ) (p : ℕ) (codes : List ℕ) (spans : List Span) (w : Bool) : Type 0 where
  pub inside : p ≤ length q + 1
  pub long : length codes ≡ 13
  pub wide : length spans ≡ 13
  pub taken : List ℕ
  pub form : are_parts taken (cut_from 38 p q) ≡ is_query q
  pub marked : (a : ℕ) → is_named_before a taken ≡ not (eqb (get_or spans a nowhere).end 0)
  pub values : w && all (is_within frontends) (cut_from 38 p q) ≡ are_within frontends q
  pub coded : (a : ℕ) → code_of frontends a q ≡ cond (is_named_before a taken) (get_or codes a 0) (code_among frontends a (cut_from 38 p q))
  pub blank : (a : ℕ) → is_named_before a taken ≡ false → get_or codes a 0 ≡ 0
  pub begins : (a : ℕ) → start_of a q ≡ cond (is_named_before a taken) (get_or spans a nowhere).start (start_among a p (cut_from 38 p q))
  pub unbegun : (a : ℕ) → is_named_before a taken ≡ false → (get_or spans a nowhere).start ≡ 0
  pub held : (a : ℕ) → Spanned q (text_of a q) (text_among a (cut_from 38 p q)) (is_named_before a taken) (get_or spans a nowhere)

pub asking_start : (frontends : ℕ) (q : List ℕ) → Asking frontends q 0 (replicate 13 0) (replicate 13 nowhere) true
unfolding start_of
asking_start frontends q =
    record {
      inside = omega arith;
      long = refl;
      wide = refl;
      taken = [];
      form = ap (are_parts []) (sym (cut_start 38 q));
      marked = λ a. rw (all_same 13 a nowhere);
      values = ap (all (is_within frontends)) (sym (cut_start 38 q));
      coded = λ a. code_among_law frontends a (cut 38 q) ∙ ap (code_among frontends a) (cut_start 38 q);
      blank = λ a _. all_same 13 a 0;
      begins = λ a. ap (start_among a 0) (cut_start 38 q);
      unbegun = λ a _. ap (λ (s : Span). s.start) (all_same 13 a nowhere);
      held = λ a. rw (all_same 13 a nowhere) (record { there = λ y. never y refl; later = λ _. (text_among_law a (cut 38 q) ∙ ap (text_among a) (cut_start 38 q), holds_nothing q) });
    }

pub asking_end : {frontends : ℕ} {q : List ℕ} {p : ℕ} {codes : List ℕ} {spans : List Span} {w : Bool} → Asking frontends q p codes spans w → length q < p
    → QueryIs frontends q (record { codes = codes; spans = spans; within = w })
asking_end {frontends} {q} {p} {codes} {spans} {w} k h =
    let none : cut_from 38 p q ≡ [] = cut_end 38 p q h in
    record {
      form = sym k.form ∙ ap (are_parts k.taken) none;
      within = sym (ap (λ l. w && all (is_within frontends) l) none ∙ and_true w) ∙ k.values;
      codes = λ a. sym (k.coded a ∙ ap (λ l. cond (is_named_before a k.taken) (get_or codes a 0) (code_among frontends a l)) none ∙ coded a);
      spans = λ a. spanned a (k.held a);
      starts = λ a. sym (k.begins a ∙ ap (λ l. cond (is_named_before a k.taken) (get_or spans a nowhere).start (start_among a p l)) none ∙ begun a);
      thirteen = (k.long, k.wide);
    }
  where
    and_true : (t : Bool) → t && true ≡ t
    and_true true = refl
    and_true false = refl

    coded : (a : ℕ) → cond (is_named_before a k.taken) (get_or codes a 0) 0 ≡ get_or codes a 0
    coded a = by_test (λ t. cond t (get_or codes a 0) 0 ≡ get_or codes a 0) (is_named_before a k.taken) (λ _. refl) (λ n. sym (k.blank a n))

    begun : (a : ℕ) → cond (is_named_before a k.taken) (get_or spans a nowhere).start 0 ≡ (get_or spans a nowhere).start
    begun a =
        by_test (λ t. cond t (get_or spans a nowhere).start 0 ≡ (get_or spans a nowhere).start) (is_named_before a k.taken) (λ _. refl) (λ n. sym (k.unbegun a n))

    spanned : (a : ℕ) → Spanned q (text_of a q) (text_among a (cut_from 38 p q)) (is_named_before a k.taken) (get_or spans a nowhere) → Holds q (text_of a q) (get_or spans a nowhere).start (get_or spans a nowhere).end
    spanned a s = by_test (λ t. is_named_before a k.taken ≡ t → Holds q (text_of a q) (get_or spans a nowhere).start (get_or spans a nowhere).end) (is_named_before a k.taken) (λ _ y. s.there y) (λ _ n. rw ((s.later n).0 ∙ ap (text_among a) (cut_end 38 p q h)) (s.later n).1) refl

module _ {frontends : ℕ} {q : List ℕ} {p e : ℕ} {codes : List ℕ} {spans : List Span} {w : Bool} (k : Asking frontends q p codes spans w) (h : p ≤ length q) (f : FirstFrom (is 38) q p e) where
  turned : cut_from 38 p q ≡ part p e q ∷ cut_from 38 (e + 1) q
  turned = cut_turn 38 p q h f.is

  form_turned : is_query q ≡ ltb (attribute_in (part p e q)) 13 && (not (is_named_before (attribute_in (part p e q)) k.taken) && are_parts (attribute_in (part p e q) ∷ k.taken) (cut_from 38 (e + 1) q))
  form_turned = sym k.form ∙ ap (are_parts k.taken) turned ∙ rw (untaken (attribute_in (part p e q)) k.taken)

  pub asking_unknown : ltb (attribute_in (part p e q)) 13 ≡ false → is_query q ≡ false
  asking_unknown u = form_turned ∙ rw u

  module _ {r : Part} (i : PartHas (part p e q) r) where
    marked_by : is_named_before r.attribute k.taken ≡ not (eqb (get_or spans r.attribute nowhere).end 0)
    marked_by = k.marked r.attribute

    pub asking_twice : ((get_or spans r.attribute nowhere).end ≡ 0 → ⊥) → is_query q ≡ false
    asking_twice z =
        form_turned
        ∙ rw (← i.attribute, marked_by ∙ ap not (ne_eqb (get_or spans r.attribute nowhere).end 0 z), and-false)

    pub few : r.attribute ≤ 12
    few = let l : attribute_in (part p e q) < 13 = ltb-true (attribute_in (part p e q)) 13 i.known in omega (arith, i.attribute)

    -- a part that passes
    module _ (new : (get_or spans r.attribute nowhere).end ≡ 0) {v : Option ℕ} (read : v ≡ value_of frontends r.attribute (part (p + r.value) e q)) where
      abbrev b : ℕ
      b = r.attribute

      free : is_named_before b k.taken ≡ false
      free = k.marked b ∙ ap not (eq-eqb (get_or spans b nowhere).end 0 new)

      bounds : p + r.value < e
      bounds = value_inside q p e (omega (arith, f.within)) i

      value_is : part (p + r.value) e q ≡ part_value (part p e q)
      value_is =
          let n : length (part p e q) ≡ e - p = part_length p e q (omega (arith, f.within)) in
          let m : p + (e - p) ≡ e = omega (arith, f.from) in
          ap (λ j. part (p + r.value) j q) (sym m) ∙ sym (part_part r.value (e - p) p e q (omega arith))
          ∙ part_rest r.value (e - p) (part p e q) (omega arith) ∙ ap (λ j. drop j (part p e q)) i.value

      v_is : v ≡ value_of frontends b (part_value (part p e q))
      v_is = read ∙ ap (value_of frontends b) value_is

      abbrev here : Span
      here = record { start = p + r.value; end = e }

      pub asking_more : Asking frontends q (e + 1) (set codes b (code_from v)) (set spans b here) (w && is_some v)
      unfolding start_of
      asking_more =
          record {
            inside = omega (arith, f.within);
            long = length-set codes b (code_from v) ∙ k.long;
            wide = length-set spans b here ∙ k.wide;
            taken = b ∷ k.taken;
            form = sym (form_turned ∙ rw (← i.attribute, lt-ltb b 13 (omega (arith, few)), free));
            marked = λ a. by_cases (ℕ_discrete a b) (λ z. marked_here a z) (λ z. marked_there a z);
            values = values;
            coded = λ a. by_cases (ℕ_discrete a b) (λ z. coded_here a z) (λ z. coded_there a z);
            blank = λ a n. by_cases (ℕ_discrete a b) (λ z. never (rw (eq-eqb a b z)) n) (λ z. blank_there a z n);
            begins = λ a. by_cases (ℕ_discrete a b) (λ z. begins_here a z) (λ z. begins_there a z);
            unbegun = λ a n. by_cases (ℕ_discrete a b) (λ z. never (rw (eq-eqb a b z)) n) (λ z. unbegun_there a z n);
            held = λ a. by_cases (ℕ_discrete a b) (λ z. held_here a z) (λ z. held_there a z);
          }
        where
          same_span : (a : ℕ) → a ≡ b → get_or (set spans b here) a nowhere ≡ here
          same_span a z = rw z (get_or-set_same spans b here nowhere (omega (arith, few, k.wide)))

          other_span : (a : ℕ) → (a ≡ b → ⊥) → get_or (set spans b here) a nowhere ≡ get_or spans a nowhere
          other_span a z = get_or-set_other spans b a here nowhere z

          among : (a : ℕ) → (a ≡ b → ⊥) → is_named_before a (b ∷ k.taken) ≡ is_named_before a k.taken
          among a z = rw (ne_eqb a b z)

          marked_here : (a : ℕ) → a ≡ b → is_named_before a (b ∷ k.taken) ≡ not (eqb (get_or (set spans b here) a nowhere).end 0)
          marked_here a z = rw (same_span a z, eq-eqb a b z, ne_eqb e 0 (λ y. omega (arith, bounds)))

          marked_there : (a : ℕ) → (a ≡ b → ⊥) → is_named_before a (b ∷ k.taken) ≡ not (eqb (get_or (set spans b here) a nowhere).end 0)
          marked_there a z = among a z ∙ k.marked a ∙ ap (λ (s : Span). not (eqb s.end 0)) (sym (other_span a z))

          assoc : (x y z : Bool) → (x && y) && z ≡ x && (y && z)
          assoc true y z = refl
          assoc false y z = refl

          values : (w && is_some v) && all (is_within frontends) (cut_from 38 (e + 1) q) ≡ are_within frontends q
          values =
              assoc w (is_some v) (all (is_within frontends) (cut_from 38 (e + 1) q))
              ∙ ap (λ x. w && (x && all (is_within frontends) (cut_from 38 (e + 1) q))) (ap is_some (v_is ∙ ap (λ j. value_of frontends j (part_value (part p e q))) i.attribute))
              ∙ ap (λ l. w && all (is_within frontends) l) (sym turned) ∙ k.values

          code_turned : (a : ℕ) → code_among frontends a (cut_from 38 p q) ≡ cond (eqb b a) (code_from (value_of frontends a (part_value (part p e q)))) (code_among frontends a (cut_from 38 (e + 1) q))
          code_turned a = ap (code_among frontends a) turned ∙ rw (← i.attribute)

          coded_here : (a : ℕ) → a ≡ b → code_of frontends a q ≡ cond (is_named_before a (b ∷ k.taken)) (get_or (set codes b (code_from v)) a 0) (code_among frontends a (cut_from 38 (e + 1) q))
          coded_here a z =
              k.coded a ∙ rw (z, free) (code_turned b ∙ rw (eq-eqb b b refl, get_or-set_same codes b (code_from v) 0 (omega (arith, few, k.long))) (ap code_from (sym v_is)))

          coded_there : (a : ℕ) → (a ≡ b → ⊥) → code_of frontends a q ≡ cond (is_named_before a (b ∷ k.taken)) (get_or (set codes b (code_from v)) a 0) (code_among frontends a (cut_from 38 (e + 1) q))
          coded_there a z =
              k.coded a
              ∙ rw (among a z, get_or-set_other codes b a (code_from v) 0 z)
              (ap (λ c. cond (is_named_before a k.taken) (get_or codes a 0) c) (code_turned a ∙ rw (ne_eqb b a (λ y. z (sym y)))))

          blank_there : (a : ℕ) → (a ≡ b → ⊥) → is_named_before a (b ∷ k.taken) ≡ false → get_or (set codes b (code_from v)) a 0 ≡ 0
          blank_there a z n = get_or-set_other codes b a (code_from v) 0 z ∙ k.blank a (sym (among a z) ∙ n)

          start_turned : (a : ℕ) → start_among a p (cut_from 38 p q) ≡ cond (eqb b a) (p + r.value) (start_among a (e + 1) (cut_from 38 (e + 1) q))
          start_turned a =
              let m : length (part p e q) ≡ e - p = part_length p e q (omega (arith, f.within)) in
              let n : p + length (part p e q) + 1 ≡ e + 1 = omega (arith, f.from) in
              ap (start_among a p) turned ∙ rw (← i.attribute, ← i.value, n)

          begins_here : (a : ℕ) → a ≡ b → start_of a q ≡ cond (is_named_before a (b ∷ k.taken)) (get_or (set spans b here) a nowhere).start (start_among a (e + 1) (cut_from 38 (e + 1) q))
          begins_here a z = k.begins a ∙ rw (same_span a z, z, free) (start_turned b ∙ rw (eq-eqb b b refl))

          begins_there : (a : ℕ) → (a ≡ b → ⊥) → start_of a q ≡ cond (is_named_before a (b ∷ k.taken)) (get_or (set spans b here) a nowhere).start (start_among a (e + 1) (cut_from 38 (e + 1) q))
          begins_there a z =
              k.begins a
              ∙ rw (among a z, other_span a z)
              (ap (λ c. cond (is_named_before a k.taken) (get_or spans a nowhere).start c) (start_turned a ∙ rw (ne_eqb b a (λ y. z (sym y)))))

          unbegun_there : (a : ℕ) → (a ≡ b → ⊥) → is_named_before a (b ∷ k.taken) ≡ false → (get_or (set spans b here) a nowhere).start ≡ 0
          unbegun_there a z n = ap (λ (s : Span). s.start) (other_span a z) ∙ k.unbegun a (sym (among a z) ∙ n)

          text_turned : (a : ℕ) → text_among a (cut_from 38 p q) ≡ cond (eqb b a) (part_value (part p e q)) (text_among a (cut_from 38 (e + 1) q))
          text_turned a = ap (text_among a) turned ∙ rw (← i.attribute)

          held_value : Holds q (part_value (part p e q)) (p + r.value) e
          held_value = record { order = omega (arith, bounds); within = omega (arith, f.within); is = value_is }

          held_here : (a : ℕ) → a ≡ b → Spanned q (text_of a q) (text_among a (cut_from 38 (e + 1) q)) (is_named_before a (b ∷ k.taken)) (get_or (set spans b here) a nowhere)
          held_here a z =
              let text : text_of b q ≡ part_value (part p e q) = ((k.held b).later free).0 ∙ text_turned b ∙ rw (eq-eqb b b refl) in
              rw (same_span a z, z) (record { there = λ _. rw text held_value; later = λ n. never (rw (eq-eqb b b refl)) n })

          held_there : (a : ℕ) → (a ≡ b → ⊥) → Spanned q (text_of a q) (text_among a (cut_from 38 (e + 1) q)) (is_named_before a (b ∷ k.taken)) (get_or (set spans b here) a nowhere)
          held_there a z =
              rw (other_span a z, among a z)
              (record {
                there = (k.held a).there;
                later = λ n. (((k.held a).later n).0 ∙ text_turned a ∙ rw (ne_eqb b a (λ y. z (sym y))), ((k.held a).later n).1);
              })
