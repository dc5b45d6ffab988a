-- A query merged step by step: its values, its PIDs, and what becomes of the stream. Assumes nothing.
use mathlib.Core.Path.{◌≡◌, ap, ◌∙◌, sym}
use mathlib.Core.Bool.{Bool, true, false, not, cond}
use mathlib.Core.List.{List, []}
use Prim.Native.Nat.{ℕ, ◌≤◌, ◌<◌}
use Rattle.std.specs.Prelude.{Result, Ok, Err}
use native.Mathlib.Omega.{arith}
use lib.ListN.{length, get_or}
use borrow.Author.Tests.{eq-eqb, ne_eqb, lt-ltb, le-ltb}
use mir.Val.{bool_byte}
use Rattle.stream.specs.Values.{merged, go_together}
use Rattle.stream.specs.Pids.{added, removed, numbers_in, replaced, edited, chosen, choice_of}
use Rattle.stream.specs.Arrays.{laid_out, added_all, Chooses}
use Rattle.stream.specs.Streams.{changed, merge_of}
use Rattle.stream.specs.declared.Values.{Values}
use Rattle.stream.specs.declared.Stream.{Stream}
use Rattle.stream.specs.declared.pids.Picked.{Picked}
use Rattle.stream.specs.declared.Refusal.{Refusal}
use Rattle.stream.specs.declared.Refusal.TheVariants.{Combination, TooMany}

-- pids: all, none, or a list
module _ (code : ℕ) (text : List ℕ) where
  pub replaced_all : code ≡ 1 → replaced code text ≡ record { all = true; list = [] }
  unfolding replaced
  replaced_all e = rw (eq-eqb code 1 e)

  module _ (some : code ≡ 1 → ⊥) where
    pub replaced_none : code ≡ 2 → replaced code text ≡ record { all = false; list = [] }
    unfolding replaced
    replaced_none e = rw (ne_eqb code 1 some, eq-eqb code 2 e)

    pub replaced_list : (code ≡ 2 → ⊥) → replaced code text ≡ record { all = false; list = added_all (numbers_in text) [] }
    unfolding replaced
    replaced_list e = rw (ne_eqb code 1 some, ne_eqb code 2 e)

-- which of the two
module _ (m : Stream) (codes pids delpids addpids : List ℕ) (p : Result Picked Refusal) where
  pub chosen_edited : get_or codes 10 0 ≡ 0 → Chooses (edited added (get_or codes 11 0) addpids (edited removed (get_or codes 12 0) delpids (choice_of m))) p
      → Chooses (chosen m codes pids delpids addpids) p
  unfolding chosen
  chosen_edited e c = rw (eq-eqb (get_or codes 10 0) 0 e) c

  pub chosen_replaced : (get_or codes 10 0 ≡ 0 → ⊥) → Chooses (replaced (get_or codes 10 0) pids) p → Chooses (chosen m codes pids delpids addpids) p
  unfolding chosen
  chosen_replaced e c = rw (ne_eqb (get_or codes 10 0) 0 e) c

-- the flag as a stream has it
pub flag_is : {n : ℕ} (b : Bool) → n ≡ bool_byte b → n ≡ cond b 1 0
flag_is true e = e
flag_is false e = e

-- the whole
module _ (m : Stream) (codes pids delpids addpids : List ℕ) {v : Values} {g : Bool} (values : v ≡ merged m.values codes) (together : g ≡ go_together v) where
  combined : go_together (merged m.values codes) ≡ g
  combined = sym (together ∙ ap go_together values)

  pub merge_apart : not g ≡ true → Err Combination ≡ merge_of m codes pids delpids addpids
  unfolding merge_of
  merge_apart n = rw (combined, n)

  module _ (y : not g ≡ false) where
    pub merge_over : 32 < length (chosen m codes pids delpids addpids).list → Err TooMany ≡ merge_of m codes pids delpids addpids
    unfolding merge_of
    merge_over h = rw (combined, y, lt-ltb 32 (length (chosen m codes pids delpids addpids).list) h)

    pub merge_done : (p : Picked) {d : List ℕ} {n flag : ℕ} → (p.list ≡ (chosen m codes pids delpids addpids).list) × (p.all ≡ (chosen m codes pids delpids addpids).all) → (n ≡ length p.list) × (n ≤ 32)
        → d ≡ laid_out p.list → flag ≡ cond p.all 1 0 → Ok (record { pids = d; values = v; count = n; frontend = m.frontend; all = flag }) ≡ merge_of m codes pids delpids addpids
    unfolding merge_of changed
    merge_done p {d} {n} {flag} c l e f =
        let k : n ≡ length (chosen m codes pids delpids addpids).list = l.0 ∙ ap length c.0 in
        let q : d ≡ laid_out (chosen m codes pids delpids addpids).list = e ∙ ap laid_out c.0 in
        let a : flag ≡ cond (chosen m codes pids delpids addpids).all 1 0 = f ∙ ap (λ b. cond b 1 0) c.1 in
        rw (combined, y, le-ltb 32 (length (chosen m codes pids delpids addpids).list) (omega (arith, l.1, k)), values, q, k, a)
