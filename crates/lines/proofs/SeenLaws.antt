-- The loop over the header lines: what was seen of each kind of header, and what is still to be seen. Assumes nothing.
use mathlib.Core.Path.{◌≡◌, refl, ap, ◌∙◌, sym}
use mathlib.Core.Bool.{Bool, true, false, cond, ◌&&◌}
use mathlib.Core.List.{List, [], ◌∷◌, ◌++◌, append-nil, append_assoc}
use Prim.Native.Nat.{ℕ, suc, ◌+◌, ◌-◌, ◌≤◌, ◌<◌, min}
use native.Mathlib.Decide.{ℕ_discrete}
use native.Mathlib.Nat.{sub-zero}
use native.Mathlib.Omega.{arith}
use lib.Dec.{eqb}
use lib.ListN.{length, drop, get_or, set, replicate, length-append, length-set, drop_of_length-le, take}
use lib.Seq.{get_or-set_same, get_or-set_other}
use borrow.Author.Tests.{le-leb, lt-leb, eq-eqb, ne_eqb}
use Rattle.scan.specs.Lists.{part, first}
use Rattle.scan.specs.Found.{Holds, FirstFrom, in_class}
use Rattle.scan.specs.Text.{is_empty}
use Rattle.scan.specs.declared.Class.TheVariants.{NotText}
use Rattle.scan.specs.declared.Span.{Span}
use Rattle.scan.proofs.Bools.{by_test, by_cases}
use Rattle.scan.proofs.Parts.{part_length, part_empty, all_same, some_part, holds_nothing, holds_inside}
use Rattle.lines.specs.Headers.{is_header, header_of, values_of}
use Rattle.lines.specs.Laid.{name_number, header_value, value_at, first_start, KnownHeader, place_of, SeenIs, unseen, seen_again, is_pair_at, HeadersAre, LinesAre, are_headers, are_all, until_empty}
use Rattle.std.specs.Prelude.{Option, Some, None, MatchOption}
use Rattle.lines.specs.Lines.{lines, is_laid_out, request_line, header_lines}
use Rattle.lines.specs.declared.Name.{Name}
use Rattle.lines.specs.declared.Name.TheVariants.{CSeq, Session, Transport, Require, Accept}
use Rattle.lines.specs.declared.Seen.{Seen}
use Rattle.lines.specs.declared.Seen.TheVariants.{Never, Once, Again}
use Rattle.lines.specs.declared.Lines.{Lines}
use Rattle.lines.proofs.LineLaws.{line_turn, line_text, line_fits, no_headers, no_lines, last_line}

-- one header more of a kind
seen_again_law : {s : List ℕ} (vs : List (List ℕ)) (seen : Seen) {v : List ℕ} (place : Span) → SeenIs s vs seen → Holds s v place.start place.end → SeenIs s (vs ++ (v ∷ [])) (seen_again seen place)
seen_again_law [] Never place i h = record { times = refl; value = h }
seen_again_law [] (Once first) place i h = let z : ◌≡◌ {A = ℕ} 1 0 = i.times in absurd (omega arith)
seen_again_law [] (Again first) place i h = let z : ◌≡◌ {A = ℕ} 2 0 = i.times in absurd (omega arith)
seen_again_law (u ∷ us) Never place i h = let z : 0 ≡ min (suc (length us)) 2 = i.times in absurd (omega arith)
seen_again_law (u ∷ us) (Once first) {v} place i h = let l : length (us ++ (v ∷ [])) ≡ length us + 1 = length-append us (v ∷ []) in
    record { times = omega arith; value = i.value }
seen_again_law (u ∷ us) (Again first) {v} place i h = let l : length (us ++ (v ∷ [])) ≡ length us + 1 = length-append us (v ∷ []) in
    record { times = omega arith; value = i.value }

-- of the headers of a kind, some are seen and the others still stand in the rest
pub record Sent (s : List ℕ) (whole rest : List (List ℕ)) (seen : Seen) : Type 0 where
  pub done : List (List ℕ)
  pub split : whole ≡ done ++ rest
  pub is : SeenIs s done seen

unseen_is : (s : List ℕ) → SeenIs s [] unseen
unseen_is s = record { times = refl; value = holds_nothing s }

-- where the first value of a kind starts: as it was seen, or in the lines still to come
abbrev start_so : ℕ → ℕ → List (List ℕ) → Seen → ℕ
start_so k p rest Never = first_start k p rest
start_so k p rest (Once first) = first.start
start_so k p rest (Again first) = first.start

start_end : (k p : ℕ) (seen : Seen) → start_so k p [] seen ≡ (place_of seen).start
start_end k p Never = refl
start_end k p (Once first) = refl
start_end k p (Again first) = refl

-- with a value of the kind, which starts where its place does, and without
start_here : (k p : ℕ) (place : Span) (rest later : List (List ℕ)) (q : ℕ) (seen : Seen) → first_start k p rest ≡ place.start → start_so k p rest seen ≡ start_so k q later (seen_again seen place)
start_here k p place rest later q Never h = h
start_here k p place rest later q (Once first) h = refl
start_here k p place rest later q (Again first) h = refl

start_there : (k p q : ℕ) (rest later : List (List ℕ)) (seen : Seen) → first_start k p rest ≡ first_start k q later → start_so k p rest seen ≡ start_so k q later seen
start_there k p q rest later Never h = h
start_there k p q rest later (Once first) h = refl
start_there k p q rest later (Again first) h = refl

-- the header lines from place `from` up to place p are seen
pub record Noting (s : List ℕ) (all : List (List ℕ)) (from p : ℕ) (hs : List Seen) : Type 0 where
  pub inside : p ≤ length s
  pub same : are_headers (lines (drop p s)) ≡ are_headers all
  pub five : length hs ≡ 5
  pub seen : (k : ℕ) → k < 5 → Sent s (values_of k (until_empty all)) (values_of k (until_empty (lines (drop p s)))) (get_or hs k unseen)
  pub begins : (k : ℕ) → k < 5 → first_start k from (until_empty all) ≡ start_so k p (until_empty (lines (drop p s))) (get_or hs k unseen)

pub noting_start : (s : List ℕ) (p : ℕ) → p ≤ length s → Noting s (lines (drop p s)) p p (replicate 5 unseen)
noting_start s p h =
    record {
      inside = h;
      same = refl;
      five = refl;
      seen = λ k _. rw (all_same 5 k unseen) (record { done = []; split = refl; is = unseen_is s });
      begins = λ k _. rw (all_same 5 k unseen);
    }

-- a known name has a place below 5
pub name_few : (name : Name) → name_number name < 5
name_few CSeq = omega arith
name_few Session = omega arith
name_few Transport = omega arith
name_few Require = omega arith
name_few Accept = omega arith

module _ {s : List ℕ} {ls : List (List ℕ)} {from p e : ℕ} {hs : List Seen} {t : Bool} (n : Noting s ls from p hs) (f : FirstFrom (in_class NotText) s p e) (q : t ≡ is_pair_at s e) where
  -- no pair ends the line
  pub noting_bad : t ≡ false → are_headers ls ≡ false
  noting_bad z = sym n.same ∙ no_headers s f q z

  module _ (y : t ≡ true) where
    -- the line is empty
    pub noting_end : e ≡ p
        → (are_headers ls ≡ eqb (e + 2) (length s)) × ((k : ℕ) → k < 5 → SeenIs s (values_of k (until_empty ls)) (get_or hs k unseen)) × ((k : ℕ) → k < 5 → (place_of (get_or hs k unseen)).start ≡ first_start k from (until_empty ls))
    noting_end z =
        let turn : lines (drop p s) ≡ [] ∷ lines (drop (e + 2) s) = line_turn s f q y ∙ ap (λ l. l ∷ lines (drop (e + 2) s)) (part_empty p e s (omega arith)) in (
          sym n.same ∙ ap are_headers turn ∙ last_line s (e + 2) (line_fits s f q y),
          λ k w. let m = n.seen k w in
              rw (m.split ∙ ap (λ r. m.done ++ values_of k (until_empty r)) turn ∙ append-nil m.done) m.is,
          λ k w. sym (n.begins k w ∙ ap (λ r. start_so k p (until_empty r) (get_or hs k unseen)) turn ∙ start_end k p (get_or hs k unseen)),
        )

    -- it is not
    module _ (z : e ≡ p → ⊥) where
      more : p < e
      more = omega (arith, f.from)

      some : is_empty (part p e s) ≡ false
      some = some_part s p e more (omega (arith, line_fits s f q y))

      turned : (g : List (List ℕ) → Bool) → g (lines (drop p s)) ≡ g (part p e s ∷ lines (drop (e + 2) s))
      turned g = ap g (line_turn s f q y)

      after : are_headers (lines (drop p s)) ≡ is_header (part p e s) && are_headers (lines (drop (e + 2) s))
      after = turned are_headers ∙ rw (some, line_text s f q)

      -- and no header
      pub noting_not : is_header (part p e s) ≡ false → are_headers ls ≡ false
      noting_not w = sym n.same ∙ after ∙ rw w

      -- what stands in the rest of each kind: without this line, and with it
      rest : (k : ℕ) → values_of k (until_empty (lines (drop p s))) ≡ cond (eqb (header_of (part p e s)) k) (header_value (part p e s) ∷ values_of k (until_empty (lines (drop (e + 2) s)))) (values_of k (until_empty (lines (drop (e + 2) s))))
      rest k = ap (λ l. values_of k (until_empty l)) (line_turn s f q y) ∙ rw some

      start_turned : (k : ℕ) → first_start k p (until_empty (lines (drop p s))) ≡ cond (eqb (header_of (part p e s)) k) (p + value_at (part p e s)) (first_start k (e + 2) (until_empty (lines (drop (e + 2) s))))
      start_turned k =
          let l : length (part p e s) ≡ e - p = part_length p e s (omega (arith, line_fits s f q y)) in
          let m : p + length (part p e s) + 2 ≡ e + 2 = omega (arith, more) in
          ap (λ l. first_start k p (until_empty l)) (line_turn s f q y) ∙ rw (some, m)

      -- a header: nothing changes for another kind
      module _ (head : is_header (part p e s) ≡ true) where
        passed : are_headers (lines (drop (e + 2) s)) ≡ are_headers ls
        passed = sym (after ∙ rw head) ∙ n.same

        sent_away : (k : ℕ) → k < 5 → (header_of (part p e s) ≡ k → ⊥) → Sent s (values_of k (until_empty ls)) (values_of k (until_empty (lines (drop (e + 2) s)))) (get_or hs k unseen)
        sent_away k b j =
            let m = n.seen k b in
            let away : values_of k (until_empty (lines (drop p s))) ≡ values_of k (until_empty (lines (drop (e + 2) s))) = rest k ∙ rw (ne_eqb (header_of (part p e s)) k j) in
            record { done = m.done; split = m.split ∙ ap (λ x. m.done ++ x) away; is = m.is }

        begins_away : (k : ℕ) → (header_of (part p e s) ≡ k → ⊥)
            → start_so k p (until_empty (lines (drop p s))) (get_or hs k unseen) ≡ start_so k (e + 2) (until_empty (lines (drop (e + 2) s))) (get_or hs k unseen)
        begins_away k j =
            start_there k p (e + 2) (until_empty (lines (drop p s))) (until_empty (lines (drop (e + 2) s))) (get_or hs k unseen) (start_turned k ∙ rw (ne_eqb (header_of (part p e s)) k j))

        -- of no known name
        pub noting_unknown : header_of (part p e s) ≡ 5 → Noting s ls from (e + 2) hs
        noting_unknown u =
            record {
              inside = line_fits s f q y;
              same = passed;
              five = n.five;
              seen = λ k b. sent_away k b (λ j. omega arith);
              begins = λ k b. n.begins k b ∙ begins_away k (λ j. omega arith);
            }

      -- of a known name
      module _ {name : Name} {place : Span} (h : KnownHeader (part p e s) name place) where
        -- its place among the known ones, and its value's place in the request
        abbrev kind : ℕ
        kind = name_number name

        abbrev moved : Span
        moved = record { start = p + place.start; end = p + place.end }

        value : Holds s (header_value (part p e s)) (p + place.start) (p + place.end)
        value = holds_inside p e s refl (omega (arith, more)) (omega (arith, line_fits s f q y)) h.value

        sent_more : (k : ℕ) → k < 5 → Sent s (values_of k (until_empty ls)) (values_of k (until_empty (lines (drop (e + 2) s)))) (get_or (set hs kind (seen_again (get_or hs kind unseen) moved)) k unseen)
        sent_more k b =
            by_cases (ℕ_discrete kind k)
            (λ j.
            let m = n.seen k b in
            let here : values_of k (until_empty (lines (drop p s))) ≡ header_value (part p e s) ∷ values_of k (until_empty (lines (drop (e + 2) s))) = rest k ∙ rw (eq-eqb (header_of (part p e s)) k (h.kind ∙ j)) in
            let l : k < length hs = omega (arith, n.five) in
            rw (j, get_or-set_same hs k (seen_again (get_or hs k unseen) moved) unseen l)
            (record {
              done = m.done ++ (header_value (part p e s) ∷ []);
              split = m.split ∙ ap (λ x. m.done ++ x) here ∙ sym (append_assoc m.done (header_value (part p e s) ∷ []) (values_of k (until_empty (lines (drop (e + 2) s)))));
              is = seen_again_law m.done (get_or hs k unseen) moved m.is value;
            }))
            (λ j. rw (get_or-set_other hs kind k (seen_again (get_or hs kind unseen) moved) unseen (λ x. j (sym x))) (sent_away h.header k b (λ x. j (sym h.kind ∙ x))))

        begins_more : (k : ℕ) → start_so k p (until_empty (lines (drop p s))) (get_or hs k unseen) ≡ start_so k (e + 2) (until_empty (lines (drop (e + 2) s))) (get_or (set hs kind (seen_again (get_or hs kind unseen) moved)) k unseen)
        begins_more k =
            by_cases (ℕ_discrete kind k)
            (λ j.
            let l : k < length hs = omega (arith, n.five, name_few name) in
            rw (j, get_or-set_same hs k (seen_again (get_or hs k unseen) moved) unseen l)
            (start_here k p moved (until_empty (lines (drop p s))) (until_empty (lines (drop (e + 2) s))) (e + 2) (get_or hs k unseen)
            (start_turned k ∙ rw (eq-eqb (header_of (part p e s)) k (h.kind ∙ j)) (sym (ap (λ i. p + i) h.starts)))))
            (λ j. rw (get_or-set_other hs kind k (seen_again (get_or hs kind unseen) moved) unseen (λ x. j (sym x))) (begins_away h.header k (λ x. j (sym h.kind ∙ x))))

        pub noting_more : Noting s ls from (e + 2) (set hs kind (seen_again (get_or hs kind unseen) moved))
        noting_more =
            record {
              inside = line_fits s f q y;
              same = passed h.header;
              five = length-set hs kind (seen_again (get_or hs kind unseen) moved) ∙ n.five;
              seen = sent_more;
              begins = λ k b. n.begins k b ∙ begins_more k;
            }

-- the header lines from place p on, at the last of them
pub headers_whole : {s : List ℕ} {line : ℕ} {hs : List Seen} → length hs ≡ 5 → are_headers (lines (drop (line + 2) s)) ≡ true
    → ((k : ℕ) → k < 5 → SeenIs s (values_of k (until_empty (lines (drop (line + 2) s)))) (get_or hs k unseen))
    → ((k : ℕ) → k < 5 → (place_of (get_or hs k unseen)).start ≡ first_start k (line + 2) (until_empty (lines (drop (line + 2) s)))) → HeadersAre s line (record { headers = hs; line = line })
headers_whole f w h b = record { whole = w; ended = refl; five = f; headers = h; starts = b }

-- THE WHOLE REQUEST
until_empty_law : (ls : List (List ℕ)) → take (first is_empty ls) ls ≡ until_empty ls
until_empty_law [] = refl
until_empty_law (l ∷ ls) =
    by_test (λ t. take (cond t 0 (suc (first is_empty ls))) (l ∷ ls) ≡ cond t [] (l ∷ until_empty ls)) (is_empty l) (λ _. refl) (λ _. ap (λ r. l ∷ r) (until_empty_law ls))

pub lines_long : (s : List ℕ) → 2048 < length s → is_laid_out s ≡ false
unfolding is_laid_out
lines_long s h = rw (lt-leb (length s) 2048 h)

module _ (s : List ℕ) {e : ℕ} (short : length s ≤ 2048) (f : FirstFrom (in_class NotText) s 0 e) {t : Bool} (q : t ≡ is_pair_at s e) where
  laid : is_laid_out s ≡ are_all (lines s)
  unfolding is_laid_out
  laid = rw (le-leb (length s) 2048 short)

  pub lines_unended : t ≡ false → is_laid_out s ≡ false
  lines_unended n = laid ∙ no_lines s f q n

  module _ (y : t ≡ true) where
    -- the first line is empty, so it must be the last
    alone : e ≡ 0 → lines s ≡ [] ∷ lines (drop (e + 2) s)
    alone z = line_turn s f q y ∙ ap (λ l. l ∷ lines (drop (e + 2) s)) (part_empty 0 e s (omega arith))

    laid_alone : e ≡ 0 → is_laid_out s ≡ eqb 2 (length s)
    laid_alone z = laid ∙ ap are_all (alone z) ∙ last_line s (e + 2) (line_fits s f q y) ∙ ap (λ n. eqb (n + 2) (length s)) z

    pub lines_alone : e ≡ 0 → length s ≡ 2 → LinesAre s (record { headers = replicate 5 unseen; line = e })
    unfolding request_line header_lines
    lines_alone z l =
        let last : lines s ≡ [] ∷ [] ∷ [] = alone z ∙ ap (λ r. [] ∷ lines r) (drop_of_length-le s {i = e + 2} (omega arith)) in
        record {
          whole = laid_alone z ∙ eq-eqb 2 (length s) (sym l);
          line = rw (last, z) (record { order = omega arith; within = omega arith; is = refl });
          five = refl;
          headers = λ k _. rw (last, all_same 5 k unseen) (unseen_is s);
          starts = λ k _. rw (last, all_same 5 k unseen);
        }

    pub lines_follow : e ≡ 0 → (length s ≡ 2 → ⊥) → is_laid_out s ≡ false
    lines_follow z l = laid_alone z ∙ ne_eqb 2 (length s) (λ x. l (sym x))

    module _ (z : e ≡ 0 → ⊥) where
      whole_is : is_laid_out s ≡ are_headers (lines (drop (e + 2) s))
      whole_is =
          let turn : lines s ≡ part 0 e s ∷ lines (drop (e + 2) s) = line_turn s f q y in
          let fit : e + 2 ≤ length s = line_fits s f q y in
          let some : is_empty (part 0 e s) ≡ false = some_part s 0 e (omega arith) (omega arith) in
          laid ∙ ap are_all turn ∙ rw (some, line_text s f q)

      lines_whole : {r : Lines} → HeadersAre s e r → LinesAre s r
      unfolding request_line header_lines
      lines_whole {r} h =
          let turn : lines s ≡ part 0 e s ∷ lines (drop (e + 2) s) = line_turn s f q y in
          let fit : e + 2 ≤ length s = line_fits s f q y in
          let long : length (part 0 e s) ≡ e = part_length 0 e s (omega arith) ∙ sub-zero e in
          record {
            whole = whole_is ∙ h.whole;
            line = rw (turn, h.ended) (record { order = omega arith; within = omega arith; is = refl });
            five = h.five;
            headers = λ k b. rw (turn, until_empty_law (lines (drop (e + 2) s))) (h.headers k b);
            starts = λ k b. rw (turn, long, until_empty_law (lines (drop (e + 2) s))) (h.starts k b);
          }

      -- as the header lines were read
      pub lines_read : (r : Option Lines) → MatchOption r (are_headers (lines (drop (e + 2) s)) ≡ false) (HeadersAre s e) → MatchOption r (is_laid_out s ≡ false) (LinesAre s)
      lines_read None n = whole_is ∙ n
      lines_read (Some r) h = lines_whole h
