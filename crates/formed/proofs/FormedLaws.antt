-- A table is well formed as the walk over its streams and the one over its sessions find it. Assumes nothing.
use Rattle.std.specs.Prelude.{Option, Some, None, is_some}
use mathlib.Core.Path.{◌≡◌, refl, sym, ◌∙◌, ap}
use mathlib.Core.Bool.{Bool, true, false, not, ◌&&◌, ◌||◌, cond}
use mathlib.Core.List.{List, [], ◌∷◌}
use Prim.Native.Nat.{ℕ}
use lib.Dec.{eqb}
use lib.ListN.{get_or, get_or-map}
use Rattle.scan.specs.Lists.{all}
use Rattle.scan.proofs.Bools.{never, and_both, both, Case, is, isnt, case}
use Rattle.stream.specs.Streams.{past_stream}
use Rattle.table.specs.Table.{are_distinct, is_free}
use Rattle.table.specs.Formed.{are_settings, is_placed, are_owned, well_formed}
use Rattle.table.proofs.Rules.{numbers_of, frontends_of, is_housed, is_proper}
use Rattle.table.specs.declared.SatBox.{SatBox}
use Rattle.table.proofs.Places.{failed, held}
use Rattle.formed.specs.Standings.{oldest, standing_of}
use Rattle.formed.proofs.Seating.{is_homed, are_seated, seats_of}

all_same : {A : Type 0} (p q : A → Bool) → ((a : A) → p a ≡ q a) → (l : List A) → all p l ≡ all q l
all_same p q h [] = refl
all_same p q h (a ∷ l) = rw (h a, all_same p q h l)

well_is : (b : Bool) (n : ℕ) → is_some (cond b (Some n) None) ≡ b
well_is true n = refl
well_is false n = refl

regroup : (b c : Bool) → c && (b && true) ≡ b && c
regroup true true = refl
regroup true false = refl
regroup false true = refl
regroup false false = refl

-- what a look at its streams and one at its sessions find of a table
module _ (t : SatBox) where
  -- the sessions' homes, by the frontends at the streams' IDs
  homed_housed : {feeds : List ℕ} → feeds ≡ 0 ∷ frontends_of t.streams → all (is_homed feeds) t.sessions ≡ all (is_housed t) t.sessions
  homed_housed {feeds} e =
      all_same (is_homed feeds) (is_housed t)
      (λ s. ap (λ (n : ℕ). is_free s || not (eqb n 0)) (ap (λ a. get_or a s.stream 0) e ∙ get_or-map (λ m. m.frontend) (past_stream ∷ t.streams) s.stream past_stream))
      t.sessions

  -- what the two looks say of a well-formed table
  parts : well_formed t ≡ true → (all (is_placed t.settings) t.streams ≡ true)
      × ((feeds : List ℕ) → feeds ≡ 0 ∷ frontends_of t.streams → are_seated t.clock t.held t.settings.size feeds t.sessions ≡ true)
  unfolding well_formed
  parts y =
      let a = and_both (are_settings t.settings) _ y in
      let b = and_both (are_distinct (numbers_of t.sessions)) _ a.1 in
      let c = and_both (all (is_housed t) t.sessions) _ b.1 in
      let d = and_both (are_owned t.sessions 1 t.streams) _ c.1 in
      let f = and_both (are_distinct (frontends_of t.streams)) _ d.1 in
      let g = and_both (all (is_placed t.settings) t.streams) _ f.1 in
      (g.0, λ feeds e. both b.0 (both (homed_housed e ∙ c.0) g.1))

  ill : (well_formed t ≡ true → ⊥) → None ≡ standing_of t
  unfolding standing_of
  ill h = by (case (well_formed t))
    where
      by : Case (well_formed t) → None ≡ standing_of t
      by (is y) = absurd (h y)
      by (isnt n) = rw n

  settled : well_formed t ≡ true → are_settings t.settings ≡ true
  unfolding well_formed
  settled y = (and_both (are_settings t.settings) _ y).0

  pub unsettled : {r : Bool} → r ≡ are_settings t.settings → not r ≡ true → None ≡ standing_of t
  unsettled e q = ill (λ y. never (settled y) (failed e q))

  pub unsound : {r : Bool} → r ≡ all (is_placed t.settings) t.streams → not r ≡ true → None ≡ standing_of t
  unsound e q = ill (λ y. never (parts y).0 (failed e q))

  module _ {feeds : List ℕ} (e : feeds ≡ 0 ∷ frontends_of t.streams) {s : Option ℕ} (x : s ≡ seats_of t.clock t.held t.settings.size feeds t.sessions) where
    told : is_some s ≡ are_seated t.clock t.held t.settings.size feeds t.sessions
    told = ap is_some x ∙ well_is _ _

    pub unseated : s ≡ None → None ≡ standing_of t
    unseated h = ill (λ y. never ((parts y).1 feeds e) (sym told ∙ ap is_some h))

    module _ {n : ℕ} {u a b c : Bool} (h : s ≡ Some n) (z : u ≡ all (is_placed t.settings) t.streams) (k : not u ≡ false) (f : a ≡ are_settings t.settings) (m : not a ≡ false) (g : b ≡ are_distinct feeds) (o : c ≡ are_owned t.sessions 1 t.streams) where
      seated : are_seated t.clock t.held t.settings.size feeds t.sessions ≡ true
      seated = sym told ∙ ap is_some h

      decides : well_formed t ≡ b && c
      unfolding well_formed
      decides =
          let d = and_both (are_distinct (numbers_of t.sessions)) _ seated in
          let p = and_both (all (is_homed feeds) t.sessions) _ d.1 in
          let j = and_both (all (is_proper t.clock) t.sessions) _ p.1 in
          rw (held f m, d.0, sym (homed_housed e) ∙ p.0, sym o, sym (g ∙ ap are_distinct e), held z k, j.0, j.1) (regroup b c)

      pub stands : b && c ≡ true → Some n ≡ standing_of t
      unfolding standing_of
      stands y = sym h ∙ (x ∙ rw (seated, decides ∙ y))

      pub falls : b && c ≡ false → None ≡ standing_of t
      unfolding standing_of
      falls n = rw (decides ∙ n)

-- what a caller takes from it
module _ (t : SatBox) {s : Option ℕ} (e : s ≡ standing_of t) where
  pub well_formed_law : is_some s ≡ well_formed t
  unfolding standing_of
  well_formed_law = ap is_some e ∙ well_is _ _

  pub oldest_found : well_formed t ≡ true → s ≡ Some (oldest t.sessions)
  unfolding standing_of
  oldest_found y = e ∙ rw y

  -- where there is one, the table is well formed, and it is the oldest last time
  pub found_oldest : {n : ℕ} → s ≡ Some n → (well_formed t ≡ true) × (n ≡ oldest t.sessions)
  found_oldest {n} h =
      let y : well_formed t ≡ true = sym well_formed_law ∙ ap is_some h in
      let z : Some n ≡ Some (oldest t.sessions) = sym h ∙ oldest_found y in
      (y, cc)

  pub found_none : s ≡ None → well_formed t ≡ false
  found_none h = sym well_formed_law ∙ ap is_some h
