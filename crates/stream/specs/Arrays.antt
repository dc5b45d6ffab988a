-- What the crates promise each other of a stream's values and PIDs: each attribute by its place, ascending lists, and a list
-- while it is edited. No call of the box reaches it. Assumes nothing.
use Rattle.std.specs.Prelude.{ℕ, suc, ◌-◌, ◌≤◌, ◌<◌, ◌≡◌, Bool, true, false, cond, ◌&&◌, ◌||◌, eqb, leb, ltb, length, take, drop, get_or, replicate, Option, Some, None, Result, Ok, Err}
use mathlib.Core.List.{List, [], ◌∷◌, ◌++◌, foldr}
use Rattle.scan.specs.Lists.{is_between, all}
use Rattle.digits.specs.Reading.{read_number}
use Rattle.digits.specs.declared.Zeros.TheVariants.{Allowed}
use Rattle.stream.specs.Values.{is_missing_or}
use Rattle.stream.specs.Pids.{added, removed, with_number, numbers_in, obeyed, Choice}
use Rattle.stream.specs.declared.pids.Picked.{Picked}
use Rattle.stream.specs.declared.Refusal.{Refusal}
use Rattle.stream.specs.declared.Refusal.TheVariants.{TooMany}

-- the highest PID, how many a stream may have, and when those are too many
abbrev pub highest : ℕ
highest = 8191

abbrev pub most : ℕ
most = 32

abbrev pub are_too_many : Choice → Bool
are_too_many c = ltb most (length c.list)

abbrev pub read_pid : List ℕ → Option ℕ
read_pid piece = read_number Allowed 5 highest piece

-- the first of some tests that holds says which
infixr 50 ◌then◌else◌
abbrev pub ◌then◌else◌ : Bool → Bool → Bool → Bool
◌then◌else◌ true a b = a
◌then◌else◌ false a b = b

-- the codes that an attribute may have in a stream, by its place in document 01's table
unfoldable pub is_in_range : ℕ → ℕ → Bool
is_in_range attribute code =
    eqb attribute 0 then is_between 1 4 code else
    eqb attribute 2 then is_missing_or 1070000 1275000 code else
    eqb attribute 3 then leb code 4 else
    eqb attribute 4 then leb code 2 else
    eqb attribute 5 then leb code 2 else
    eqb attribute 6 then leb code 2 else
    eqb attribute 7 then leb code 3 else
    eqb attribute 8 then is_missing_or 1000 45000 code else
    eqb attribute 9 then leb code 9 else
    false

-- the places of the attributes that a stream keeps, and whether a query's codes there are 0 or in range
abbrev pub kept : List ℕ
kept = 0 ∷ 2 ∷ 3 ∷ 4 ∷ 5 ∷ 6 ∷ 7 ∷ 8 ∷ 9 ∷ []

abbrev pub is_fit : ℕ → ℕ → Bool
is_fit attribute code = eqb code 0 || is_in_range attribute code

unfoldable pub are_fit : List ℕ → Bool
are_fit codes = all (λ attribute. is_fit attribute (get_or codes attribute 0)) kept

-- what a PID may be: "0 to 8191"
abbrev pub is_low : ℕ → Bool
is_low p = leb p highest

-- "ascending without repeats", and none below n
abbrev pub rises : ℕ → List ℕ → Bool
rises n [] = true
rises n (p ∷ l) = leb n p && rises (suc p) l

-- whether a PID is in a list
abbrev pub is_in : ℕ → List ℕ → Bool
is_in p [] = false
is_in p (q ∷ l) = eqb p q || is_in p l

abbrev pub added_all : List ℕ → List ℕ → List ℕ
added_all ps l = obeyed added ps l

abbrev pub removed_all : List ℕ → List ℕ → List ℕ
removed_all ps l = obeyed removed ps l

-- the numbers of some pieces of a text
abbrev pub numbers_read : List (List ℕ) → List ℕ
numbers_read pieces = foldr (λ piece l. with_number (read_pid piece) l) [] pieces

-- a PID stands at place k of a list, so that adding it changes nothing
pub record There (p : ℕ) (l : List ℕ) (k : ℕ) : Type 0 where
  pub within : k < length l
  pub adding : added p l ≡ l
  pub removing : removed p l ≡ take k l ++ drop (suc k) l

-- a PID is missing and belongs before place k, so that removing it changes nothing
pub record Missing (p : ℕ) (l : List ℕ) (k : ℕ) : Type 0 where
  pub within : k ≤ length l
  pub adding : added p l ≡ take k l ++ (p ∷ drop k l)
  pub removing : removed p l ≡ l

abbrev pub Placed : ℕ → List ℕ → Result ℕ ℕ → Type 0
Placed p l (Ok k) = There p l k
Placed p l (Err k) = Missing p l k

-- a list is the one that is wanted, where that fits; and else there are too many
abbrev pub Fits : List ℕ → List ℕ → Result (Unit {0}) Refusal → Type 0
Fits l a (Ok done) = a ≡ l
Fits l a (Err e) = (e ≡ TooMany) × (most < length l)

-- what is done with each PID of a text
abbrev pub edit_of : Bool → ℕ → List ℕ → List ℕ
edit_of true = added
edit_of false = removed

-- what one piece of a text does to a list: a piece that is no PID does nothing
abbrev pub once : (ℕ → List ℕ → List ℕ) → Option ℕ → List ℕ → List ℕ
once edit (Some p) l = edit p l
once edit None l = l

-- the numbers of a text obeyed; code 0 where it is not given
abbrev pub with_text : (ℕ → List ℕ → List ℕ) → ℕ → List ℕ → List ℕ → List ℕ
with_text edit code text l = cond (eqb code 0) l (obeyed edit (numbers_in text) l)

-- a list as it lies in a stream's place: zeros after it
abbrev pub laid_out : List ℕ → List ℕ
laid_out l = l ++ replicate (most - length l) 0

-- a choice as the code has it while it merges, if it fits
abbrev pub Chooses : Choice → Result Picked Refusal → Type 0
Chooses c (Ok p) = (p.list ≡ c.list) × (p.all ≡ c.all)
Chooses c (Err e) = (e ≡ TooMany) × (most < length c.list)
