-- One piece of a text, and what it does to a list of PIDs. Assumes nothing.
use mathlib.Core.Path.{◌≡◌, ap, subst, ◌∙◌, sym}
use mathlib.Core.Bool.{Bool}
use mathlib.Core.List.{List, ◌∷◌, ◌++◌}
use Prim.Native.Nat.{ℕ, suc, ◌≤◌}
use lib.ListN.{take, drop}
use Rattle.digits.specs.declared.Zeros.TheVariants.{Allowed}
use Rattle.digits.proofs.Limits.{number_most}
use Rattle.stream.specs.Pids.{added, removed}
use Rattle.std.specs.Prelude.{Option, Some, None, IfSome, Result}
use Rattle.stream.specs.declared.Refusal.{Refusal}
use Rattle.stream.specs.Arrays.{read_pid, There, Missing, Fits, edit_of, once}

-- a PID is at most 8191
pub pid_most : (xs : List ℕ) {v : ℕ} → read_pid xs ≡ Some v → v ≤ 8191
pid_most xs e = subst (λ r. IfSome r (λ v. v ≤ 8191)) e (number_most Allowed 5 8191 xs)

-- one piece of a text
module _ (xs : List ℕ) {r : Option ℕ} (read : r ≡ read_pid xs) where
  pub pid_small : {v : ℕ} → r ≡ Some v → v ≤ 8191
  pid_small e = pid_most xs (sym read ∙ e)

  module _ (l : List ℕ) where
    pub obeys_none : (b : Bool) → r ≡ None → l ≡ once (edit_of b) (read_pid xs) l
    obeys_none b none = rw (sym read ∙ none)

    module _ {v : ℕ} (one : r ≡ Some v) where
      -- a PID that stands at place i, or belongs before it
      module _ {i : ℕ} (t : There v l i) where
        pub adds_there : l ≡ once added (read_pid xs) l
        adds_there = rw (sym read ∙ one) (sym t.adding)

        pub removes_there : {b : List ℕ} → b ≡ take i l ++ drop (suc i) l → b ≡ once removed (read_pid xs) l
        removes_there h = rw (sym read ∙ one, t.removing) h

      module _ {i : ℕ} (m : Missing v l i) where
        pub adds_missing : (b : List ℕ) (n : Result (Unit {0}) Refusal) → Fits (take i l ++ (v ∷ drop i l)) b n → Fits (once added (read_pid xs) l) b n
        adds_missing b n h = subst (λ w. Fits w b n) (sym (ap (λ q. once added q l) (sym read ∙ one) ∙ m.adding)) h

        pub removes_missing : l ≡ once removed (read_pid xs) l
        removes_missing = rw (sym read ∙ one) (sym m.removing)
