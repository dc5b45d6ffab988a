-- What document 01's edges need beside computation: the number that a draw gives is the first, and a request without fe is read alike on
-- every box. Assumes nothing.
use Prim.Native.Nat.{ℕ, zero, suc, ◌+◌, ◌≤◌, ◌<◌}
use mathlib.Core.Path.{◌≡◌, refl, ◌∙◌, ap, ap₂, subst, fun_ext, sym}
use mathlib.Core.Bool.{Bool, true, false, not, cond}
use mathlib.Core.List.{List, [], ◌∷◌, map}
use native.Mathlib.Omega.{arith}
use lib.Dec.{eqb}
use borrow.Author.Tests.{not-true, ne_eqb, eqb-true}
use Rattle.std.specs.Prelude.{Some, None, Option}
use Rattle.scan.specs.Lists.{all}
use Rattle.scan.proofs.Bools.{Case as Test, case, is, isnt, Same, sames, same, other, and_both, or_second}
use Rattle.tuning.specs.Values.{value_of}
use Rattle.aim.specs.Query.{parts_of, attribute_in}
use Rattle.aim.specs.Found.{code_among, part_value, is_within}
use Rattle.aim.specs.Aim.{uri_refusal}
use Rattle.refusals.specs.declared.Refusal.{Refusal}
use Rattle.reader.specs.Request.{uri_of, request_refusal}
use Rattle.table.specs.Table.{any, has_number}
use Rattle.finding.specs.Finding.{drawn}
use Rattle.finding.proofs.Draws.{is_taken, next_number, drawn_from}
use Rattle.table.specs.declared.Session.{Session}
use Rattle.table.specs.declared.SatBox.{SatBox}
use Rattle.steps.specs.Sights.{Asked, Lists, codes_in, asked_of, lists_of}
use Rattle.steps.specs.declared.cases.Case.{Case}
use Rattle.steps.specs.declared.cases.Case.TheVariants.{Reading}
use Rattle.closings.specs.Closing.{sweeping}
use Rattle.serving.specs.Serving.{kept, served, client_of, answered}
use Rattle.satbox.specs.Calls.{requested}
use Rattle.serving.specs.declared.opening.Client.{Client}
use Rattle.aim.proofs.QueryLaws.{code_among_law}

-- DRAWING: every number from n on that comes before the one given is taken
abbrev AllTaken : List Session → ℕ → ℕ → Type 0
AllTaken l n r = (m : ℕ) → n ≤ m → m < r → is_taken l m ≡ true

drawn_from_first : (more : ℕ) (l : List Session) (n : ℕ) → n + more ≤ 4294967295 → AllTaken l n (drawn_from more l n)
drawn_from_first zero l n h m a b = absurd (omega (arith, a, b))
drawn_from_first (suc more) l n h m a b = by (case (is_taken l n)) (sames n m) (drawn_from_first more l (next_number n) (omega (arith, h)))
  where
    by : Test (is_taken l n) → Same n m → AllTaken l (next_number n) (drawn_from more l (next_number n)) → is_taken l m ≡ true
    by (isnt z) q next = let c : m < n = rw z at b in absurd (omega (arith, a, c))
    by (is y) (same q) next = subst (λ k. is_taken l k ≡ true) q y
    by (is y) (other q) next = next m (omega (arith, a, q, h)) (rw y at b)

-- from 4294967295 the draw goes on to 0, which is no number, and then to 1
module _ (l : List Session) (e : any (has_number 0xFFFFFFFF) l ≡ true) where
  drawn_round : drawn l 0xFFFFFFFF ≡ drawn_from 32 l 1
  unfolding drawn
  drawn_round = ap (λ taken. cond taken (drawn_from 32 l 1) 0xFFFFFFFF) e

  pub drawn_first : (n : ℕ) → 1 ≤ n → n < drawn l 0xFFFFFFFF → any (has_number n) l ≡ true
  drawn_first n a b =
      or_second (eqb n 0) (any (has_number n) l)
      (drawn_from_first 32 l 1 (omega arith) n a (subst (λ k. n < k) drawn_round b))
      (ne_eqb n 0 (λ z. omega (arith, z, a)))

-- READING. No part of a request's query gives fe, the only attribute whose values depend on the box
abbrev is_no_fe : List ℕ → Bool
is_no_fe p = not (eqb (attribute_in p) 1)

abbrev pub gives_no_fe : List ℕ → Bool
gives_no_fe s = all is_no_fe (parts_of (uri_of s))

module _ (frontends : ℕ) where
  value_alike : (a : ℕ) (xs : List ℕ) → eqb a 1 ≡ false → value_of frontends a xs ≡ value_of 2 a xs
  unfolding value_of
  value_alike a xs e = rw e

  within_alike : (ps : List (List ℕ)) → all is_no_fe ps ≡ true → all (is_within frontends) ps ≡ all (is_within 2) ps
  within_alike [] e = refl
  within_alike (p ∷ ps) e =
      let z = and_both (is_no_fe p) (all is_no_fe ps) e in
      rw (value_alike (attribute_in p) (part_value p) (not-true _ z.0), within_alike ps z.1)

  code_alike : (a : ℕ) (ps : List (List ℕ)) → all is_no_fe ps ≡ true → code_among frontends a ps ≡ code_among 2 a ps
  code_alike a [] e = refl
  code_alike a (p ∷ ps) e =
      let z = and_both (is_no_fe p) (all is_no_fe ps) e in
      by (not-true _ z.0) (case (eqb (attribute_in p) a)) (code_alike a ps z.1)
    where
      by : eqb (attribute_in p) 1 ≡ false → Test (eqb (attribute_in p) a) → code_among frontends a ps ≡ code_among 2 a ps
          → code_among frontends a (p ∷ ps) ≡ code_among 2 a (p ∷ ps)
      by z (is y) rest = rw (y, value_alike a (part_value p) (subst (λ k. eqb k 1 ≡ false) (eqb-true (attribute_in p) a y) z))
      by z (isnt n) rest = rw (n, rest)

  module _ (s : List ℕ) (e : gives_no_fe s ≡ true) where
    refusal_alike : request_refusal frontends s ≡ request_refusal 2 s
    unfolding request_refusal uri_refusal
    refusal_alike = rw (within_alike (parts_of (uri_of s)) e)

    codes_alike : codes_in frontends (uri_of s) ≡ codes_in 2 (uri_of s)
    unfolding codes_in
    codes_alike =
        let ps : List (List ℕ) = parts_of (uri_of s) in
        ap (λ f. map f (0 ∷ 1 ∷ 2 ∷ 3 ∷ 4 ∷ 5 ∷ 6 ∷ 7 ∷ 8 ∷ 9 ∷ 10 ∷ 11 ∷ 12 ∷ []))
        (fun_ext (λ a. code_among_law frontends a ps ∙ code_alike a ps e ∙ sym (code_among_law 2 a ps)))

    asked_alike : asked_of frontends s ≡ asked_of 2 s
    asked_alike = rw codes_alike

-- what the reading of a request comes to on a box with two frontends: a refusal
pub record RefusedAs (s : List ℕ) (r : Refusal) : Type 0 where
  pub no_fe : gives_no_fe s ≡ true
  pub refusal : request_refusal 2 s ≡ Some r

-- or what it asks
pub record ReadsAs (s : List ℕ) (a : Asked) (l : Lists) : Type 0 where
  pub no_fe : gives_no_fe s ≡ true
  pub passed : request_refusal 2 s ≡ None
  pub asked : asked_of 2 s ≡ a
  pub lists : lists_of s ≡ l

-- it comes to the same on every box; so does the case, where what it asks has the same case on every table
module _ (clock address draw : ℕ) (t : SatBox) {s : List ℕ} where
  pub refused_alike : {r : Refusal} → RefusedAs s r → (requested s clock address draw t).case ≡ Some (Reading r)
  unfolding requested answered
  refused_alike d = rw (refusal_alike (sweeping clock t).satbox.settings.frontends s d.no_fe, d.refusal)

  module _ {a : Asked} {l : Lists} {c : Option Case} (d : ReadsAs s a l) (k : (u : SatBox) (client : Client) → (served u a l client).case ≡ c) where
    pub served_alike : (requested s clock address draw t).case ≡ c
    unfolding requested answered
    served_alike =
        let u = (sweeping clock t).satbox in
        let asks : asked_of u.settings.frontends s ≡ a = asked_alike u.settings.frontends s d.no_fe ∙ d.asked in
        rw (refusal_alike u.settings.frontends s d.no_fe, d.passed)
        (ap₂ (λ (b : Asked) (m : Lists). (served (kept b u) b m (client_of address draw b)).case) asks d.lists ∙ k (kept a u) (client_of address draw a))
