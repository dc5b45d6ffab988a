-- Merging keeps a live stream sound, with its frontend; a query that is refused changes nothing. Assumes nothing.
use mathlib.Core.Path.{◌≡◌, refl, ap, ◌∙◌, sym}
use mathlib.Core.Bool.{Bool, true, false, not, cond, ◌&&◌, ◌||◌, or-true}
use mathlib.Core.List.{List, [], ◌∷◌}
use Prim.Native.Nat.{ℕ, ◌-◌, ◌≤◌}
use Rattle.std.specs.Prelude.{Result, Ok, Err}
use Rattle.std.specs.Result.{IsOk, result_unwrap_or}
use native.Mathlib.Omega.{arith}
use lib.Dec.{eqb, leb, ltb}
use lib.ListN.{length, get_or, take, replicate, length-append, length-replicate}
use lib.Seq.{length-take-le}
use borrow.Author.Tests.{le-leb, leb-true, eqb-true, eqb-false, le-ltb, ltb-false, not-true, not-false}
use Rattle.scan.specs.Lists.{all}
use Rattle.scan.specs.Text.{cut}
use Rattle.scan.proofs.Bools.{never, and_both, by_test, both}
use Rattle.std.specs.Prelude.{Option, Some, None}
use Rattle.stream.specs.Values.{go_together, given, merged}
use Rattle.stream.specs.Pids.{added, removed, with_number, numbers_in, obeyed, Choice, replaced, edited, chosen, choice_of, is_padded, is_choice}
use Rattle.stream.specs.Arrays.{read_pid, are_too_many, laid_out, are_fit, is_low, rises, numbers_read, added_all}
use Rattle.stream.specs.Streams.{is_sound, changed, merge_of, after_query}
use Rattle.stream.specs.declared.Values.{Values}
use Rattle.stream.specs.declared.Stream.{Stream}
use Rattle.stream.specs.declared.Refusal.{Refusal}
use Rattle.stream.specs.declared.Refusal.TheVariants.{Combination, TooMany}
use Rattle.stream.proofs.Edits.{pid_most}
use Rattle.stream.proofs.Fitting.{merged_ranged}
use Rattle.stream.proofs.PidSets.{rises_added_all, rises_removed_all, all_added_all, all_removed_all}
use Rattle.stream.proofs.Padding.{Padded, padded_is, padded_laid}
use Rattle.stream.proofs.Soundness.{Live, sound_live, live_sound}

-- the numbers of a text are PIDs
with_low : (r : Option ℕ) (l : List ℕ) → ((v : ℕ) → r ≡ Some v → v ≤ 8191) → all is_low l ≡ true → all is_low (with_number r l) ≡ true
with_low (Some v) l h e = both (le-leb v 8191 (h v refl)) e
with_low None l h e = e

numbers_of_low : (pieces : List (List ℕ)) → all is_low (numbers_read pieces) ≡ true
numbers_of_low [] = refl
numbers_of_low (piece ∷ pieces) = with_low (read_pid piece) (numbers_read pieces) (λ v. pid_most piece) (numbers_of_low pieces)

pub numbers_low : (text : List ℕ) → all is_low (numbers_in text) ≡ true
unfolding numbers_in
numbers_low text = numbers_of_low (cut 44 text)

-- a choice as a stream may have it: an ascending list of PIDs, and none under "all"
pub record Fine (c : Choice) : Type 0 where
  pub rising : rises 0 c.list ≡ true
  pub low : all is_low c.list ≡ true
  pub bare : c.all ≡ true → c.list ≡ []

none_fine : (t : Bool) → Fine (record { all = t; list = [] })
none_fine t = record { rising = refl; low = refl; bare = λ e. refl }

list_fine : (l : List ℕ) → rises 0 l ≡ true → all is_low l ≡ true → Fine (record { all = false; list = l })
list_fine l e h = record { rising = e; low = h; bare = λ z. never z refl }

replaced_fine : (code : ℕ) (text : List ℕ) → Fine (replaced code text)
unfolding replaced
replaced_fine code text = by (eqb code 1) (eqb code 2)
  where
    by : (s t : Bool) → Fine (record { all = s; list = cond (s || t) [] (added_all (numbers_in text) []) })
    by true t = none_fine true
    by false true = none_fine false
    by false false =
        list_fine (added_all (numbers_in text) []) (rises_added_all (numbers_in text) [] refl) (all_added_all is_low (numbers_in text) [] (numbers_low text) refl)

edited_fine : (edit : ℕ → List ℕ → List ℕ) → ((ps l : List ℕ) → rises 0 l ≡ true → rises 0 (obeyed edit ps l) ≡ true)
    → ((ps l : List ℕ) → all is_low ps ≡ true → all is_low l ≡ true → all is_low (obeyed edit ps l) ≡ true) → (code : ℕ) (text : List ℕ) {c : Choice} → Fine c
    → Fine (edited edit code text c)
edited_fine edit f g code text {c} h = by c.all (eqb code 0)
  where
    by : (s t : Bool) → Fine (cond (s || t) c (record { all = false; list = obeyed edit (numbers_in text) c.list }))
    by true t = h
    by false true = h
    by false false = list_fine (obeyed edit (numbers_in text) c.list) (f (numbers_in text) c.list h.rising) (g (numbers_in text) c.list (numbers_low text) h.low)

pub chosen_fine : (m : Stream) (codes pids delpids addpids : List ℕ) → Fine (choice_of m) → Fine (chosen m codes pids delpids addpids)
unfolding chosen
chosen_fine m codes pids delpids addpids h = by (eqb (get_or codes 10 0) 0)
  where
    by : (t : Bool) → Fine (cond t (edited added (get_or codes 11 0) addpids (edited removed (get_or codes 12 0) delpids (choice_of m))) (replaced (get_or codes 10 0) pids))
    by true =
        edited_fine added rises_added_all (all_added_all is_low) (get_or codes 11 0) addpids
        (edited_fine removed rises_removed_all (λ ps l e. all_removed_all is_low ps l) (get_or codes 12 0) delpids h)
    by false = replaced_fine (get_or codes 10 0) pids

-- a stream's choice, there and back
pub choice_fine : (m : Stream) → is_choice m ≡ true → Fine (choice_of m)
unfolding is_choice
choice_fine m e =
    let a = and_both (leb m.all 1) ((eqb m.all 0 || eqb m.count 0) && is_padded m.count 0 m.pids) e in
    let b = and_both (eqb m.all 0 || eqb m.count 0) (is_padded m.count 0 m.pids) a.1 in
    let p : Padded m.count 0 m.pids = padded_is m.count 0 m.pids b.1 in
    record {
      rising = p.rising;
      low = p.low;
      bare = λ z. ap (λ n. take n m.pids) (eqb-true m.count 0 (rw (not-true (eqb m.all 0) z) at b.0));
    }

pub fine_choice : (m : Stream) (v : Values) {c : Choice} → Fine c → are_too_many c ≡ false → is_choice (changed m v c) ≡ true
unfolding is_choice changed
fine_choice m v {c} h e = by c.all h.bare
  where
    laid : is_padded (length c.list) 0 (laid_out c.list) ≡ true
    laid = padded_laid 0 (32 - length c.list) c.list h.rising h.low

    by : (t : Bool) → (t ≡ true → c.list ≡ []) → leb (cond t 1 0) 1 && ((eqb (cond t 1 0) 0 || eqb (length c.list) 0) && is_padded (length c.list) 0 (laid_out c.list)) ≡ true
    by true b = rw (b refl) refl
    by false b = laid

-- a query by the two rules that may refuse it, and the stream x that it makes of m where neither does
module _ (m x : Stream) where
  abbrev settled : Bool → Bool → Result Stream Refusal
  settled broken many = cond broken (Err Combination) (cond many (Err TooMany) (Ok x))

  settled_merged : (s t : Bool) → IsOk (settled s t) → (s ≡ false) × (t ≡ false)
  settled_merged true t e = never e refl
  settled_merged false true e = never e refl
  settled_merged false false e = (refl, refl)

  settled_refused : (s t : Bool) → (IsOk (settled s t) → ⊥) → result_unwrap_or (settled s t) m ≡ m
  settled_refused true t f = refl
  settled_refused false true f = refl
  settled_refused false false f = absurd (f refl)

  settled_frontend : (s t : Bool) → x.frontend ≡ m.frontend → (result_unwrap_or (settled s t) m).frontend ≡ m.frontend
  settled_frontend true t e = refl
  settled_frontend false true e = refl
  settled_frontend false false e = e

  settled_long : (s t : Bool) → length m.pids ≡ 32 → (t ≡ false → length x.pids ≡ 32) → length (result_unwrap_or (settled s t) m).pids ≡ 32
  settled_long true t h f = h
  settled_long false true h f = h
  settled_long false false h f = f refl

laid_long : (l : List ℕ) → ltb 32 (length l) ≡ false → length (laid_out l) ≡ 32
laid_long l e = simp (length-append, length-replicate) (omega (arith, ltb-false 32 (length l) e))

module _ (m : Stream) (codes pids delpids addpids : List ℕ) where
  abbrev values : Values
  values = merged m.values codes

  abbrev choice : Choice
  choice = chosen m codes pids delpids addpids

  passes : IsOk (merge_of m codes pids delpids addpids) → (not (go_together values) ≡ false) × (are_too_many choice ≡ false)
  unfolding merge_of
  passes = settled_merged m (changed m values choice) (not (go_together values)) (are_too_many choice)

  merge_is : IsOk (merge_of m codes pids delpids addpids) → after_query m codes pids delpids addpids ≡ changed m values choice
  unfolding merge_of
  merge_is e = let p = passes e in rw (p.0, p.1)

  pub merge_sound : (f : ℕ) → is_sound f m ≡ true → (m.frontend ≡ 0 → ⊥) → are_fit codes ≡ true → IsOk (merge_of m codes pids delpids addpids)
      → is_sound f (after_query m codes pids delpids addpids) ≡ true
  unfolding changed
  merge_sound f s u k e =
      let p = passes e in
      let l : Live f m = sound_live f m s u in
      rw (merge_is e)
      (live_sound
      (record {
        used = u;
        within = l.within;
        ranged = merged_ranged m.values codes k l.ranged;
        together = not-false (go_together values) p.0;
        choice =
            fine_choice m values
            (chosen_fine m codes pids delpids addpids (choice_fine m l.choice)) p.1;
      }))

  pub merge_src : IsOk (merge_of m codes pids delpids addpids) → (after_query m codes pids delpids addpids).values.src ≡ given (get_or codes 0 0) m.values.src
  unfolding changed merged
  merge_src e = ap (λ (x : Stream). x.values.src) (merge_is e)

  pub merge_frontend : (after_query m codes pids delpids addpids).frontend ≡ m.frontend
  unfolding merge_of changed
  merge_frontend = settled_frontend m (changed m values choice) (not (go_together values)) (are_too_many choice) refl

  pub merge_long : length m.pids ≡ 32 → length (after_query m codes pids delpids addpids).pids ≡ 32
  unfolding merge_of changed
  merge_long h = settled_long m (changed m values choice) (not (go_together values)) (are_too_many choice) h (laid_long choice.list)

  -- "a status other than 200 changes nothing"
  pub merge_refused : (IsOk (merge_of m codes pids delpids addpids) → ⊥) → after_query m codes pids delpids addpids ≡ m
  unfolding merge_of
  merge_refused = settled_refused m (changed m values choice) (not (go_together values)) (are_too_many choice)

-- a query that gives nothing
no_values : (v : Values) → merged v (replicate 13 0) ≡ v
unfolding merged
no_values v = refl

edited_none : (edit : ℕ → List ℕ → List ℕ) (text : List ℕ) (c : Choice) → edited edit 0 text c ≡ c
edited_none edit text c = rw (or-true c.all)

no_pids : (m : Stream) (pids delpids addpids : List ℕ) → chosen m (replicate 13 0) pids delpids addpids ≡ choice_of m
unfolding chosen
no_pids m pids delpids addpids = edited_none added addpids (edited removed 0 delpids (choice_of m)) ∙ edited_none removed delpids (choice_of m)

-- a sound stream lies as its own PIDs are laid out, so that a query that gives nothing changes nothing
module _ (m : Stream) (sound : is_choice m ≡ true) (long : length m.pids ≡ 32) where
  as_padded : Padded m.count 0 m.pids
  unfolding is_choice
  as_padded =
      let a = and_both (leb m.all 1) ((eqb m.all 0 || eqb m.count 0) && is_padded m.count 0 m.pids) sound in
      padded_is m.count 0 m.pids (and_both (eqb m.all 0 || eqb m.count 0) (is_padded m.count 0 m.pids) a.1).1

  as_many : length (take m.count m.pids) ≡ m.count
  as_many = length-take-le m.count m.pids as_padded.fits

  as_flag : cond (not (eqb m.all 0)) 1 0 ≡ m.all
  unfolding is_choice
  as_flag =
      let a = and_both (leb m.all 1) ((eqb m.all 0 || eqb m.count 0) && is_padded m.count 0 m.pids) sound in
      by_test (λ t. cond (not t) 1 0 ≡ m.all) (eqb m.all 0) (λ y. sym (eqb-true m.all 0 y))
      (λ n. let z = eqb-false m.all 0 n in omega (arith, leb-true m.all 1 a.0))

  as_laid : laid_out (take m.count m.pids) ≡ m.pids
  as_laid = rw as_many (sym (rw long at as_padded.zeros))

  same_changed : changed m m.values (choice_of m) ≡ m
  unfolding changed
  same_changed = rw (as_laid, as_many, as_flag)

  pub merge_nothing : (pids delpids addpids : List ℕ) → go_together m.values ≡ true → merge_of m (replicate 13 0) pids delpids addpids ≡ Ok m
  unfolding merge_of
  merge_nothing pids delpids addpids g =
      let q : merged m.values (replicate 13 0) ≡ m.values = no_values m.values in
      let k : m.count ≤ length m.pids = as_padded.fits in
      rw (q, g, no_pids m pids delpids addpids, as_many, le-ltb 32 m.count (omega arith), same_changed)
