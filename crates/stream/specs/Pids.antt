-- A stream's PIDs, "ascending without repeats", 32 at most, or "all"; and what pids, delpids and addpids make of them. Assumes nothing.
use Rattle.std.specs.Prelude.{ℕ, zero, suc, Bool, false, not, cond, ◌&&◌, ◌||◌, eqb, leb, ltb, get_or, take, Option, Some, None}
use mathlib.Core.List.{List, [], ◌∷◌, foldr, foldl}
use Rattle.scan.specs.Lists.{all}
use Rattle.scan.specs.Text.{cut}
use Rattle.digits.specs.Reading.{read_number}
use Rattle.digits.specs.declared.Zeros.TheVariants.{Allowed}
use Rattle.stream.specs.Values.{is_zero}
use Rattle.stream.specs.declared.Stream.{Stream}

-- an ascending list with one PID more; a PID that is there already adds nothing
abbrev pub added : ℕ → List ℕ → List ℕ
added p [] = p ∷ []
added p (q ∷ l) = cond (ltb p q) (p ∷ q ∷ l) (cond (eqb p q) (q ∷ l) (q ∷ added p l))

-- an ascending list with one PID less; "removing an absent PID changes nothing"
abbrev pub removed : ℕ → List ℕ → List ℕ
removed p [] = []
removed p (q ∷ l) = cond (ltb p q) (q ∷ l) (cond (eqb p q) l (q ∷ removed p l))

-- "numbers 0 to 8191 joined by commas", in the order in which they stand; any other piece is passed over
abbrev pub with_number : Option ℕ → List ℕ → List ℕ
with_number (Some p) l = p ∷ l
with_number None l = l

unfoldable pub numbers_in : List ℕ → List ℕ
numbers_in text = foldr (λ piece l. with_number (read_number Allowed 5 8191 piece) l) [] (cut 44 text)

-- PIDs added, or removed, one after the other
abbrev pub obeyed : (ℕ → List ℕ → List ℕ) → List ℕ → List ℕ → List ℕ
obeyed edit ps l = foldl (λ k p. edit p k) l ps

-- a stream's PIDs: all of them, or a list
pub record Choice : Type 0 where
  pub all : Bool
  pub list : List ℕ

-- "all, none, or numbers": 1, 2, and else a list
unfoldable pub replaced : ℕ → List ℕ → Choice
replaced code text = record { all = eqb code 1; list = cond (eqb code 1 || eqb code 2) [] (obeyed added (numbers_in text) []) }

-- the numbers of a text obeyed; code 0 where it is not given. "on "all" both change nothing"
abbrev pub edited : (ℕ → List ℕ → List ℕ) → ℕ → List ℕ → Choice → Choice
edited edit code text c = cond (c.all || eqb code 0) c (record { all = false; list = obeyed edit (numbers_in text) c.list })

-- the PIDs that stand in a stream's place
abbrev pub choice_of : Stream → Choice
choice_of m = record { all = not (eqb m.all 0); list = take m.count m.pids }

-- a query's PIDs, whose codes stand by the attribute's place. "delpids is applied before addpids"; neither stands beside pids, which replaces: step 8
unfoldable pub chosen : Stream → List ℕ → List ℕ → List ℕ → List ℕ → Choice
chosen m codes pids delpids addpids =
    cond (eqb (get_or codes 10 0) 0) (edited added (get_or codes 11 0) addpids (edited removed (get_or codes 12 0) delpids (choice_of m)))
    (replaced (get_or codes 10 0) pids)

-- a place's array from some place on: `count` PIDs, "0 to 8191", that ascend, none below n, and then zeros
abbrev pub is_padded : ℕ → ℕ → List ℕ → Bool
is_padded zero n l = all is_zero l
is_padded (suc count) n [] = false
is_padded (suc count) n (p ∷ l) = leb n p && (leb p 8191 && is_padded count (suc p) l)

-- "PID lists ascending without repeats": as many as the array holds at most, and no list under "all"
unfoldable pub is_choice : Stream → Bool
is_choice m = leb m.all 1 && ((eqb m.all 0 || eqb m.count 0) && is_padded m.count 0 m.pids)
