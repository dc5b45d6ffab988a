-- Order 1 of document 02, "Not every tuner sees every dish": "each frontend gets a set of sources it reaches". A set is a number of four bits, of
-- which the lowest is source 1. Assumes nothing.
use Rattle.std.specs.Prelude.{ℕ, zero, suc, ◌-◌, ◌/◌, ◌%◌, ◌^◌, Bool, true, ◌&&◌, List, [], ◌∷◌, eqb, get_or}
use Rattle.scan.specs.Lists.{is_between}
use Rattle.stream.specs.Values.{is_zero}
use Rattle.table.specs.Table.{count}
use Rattle.table.specs.declared.Settings.{Settings}

-- a source, 1 to 4, is in a set
abbrev pub has_source : ℕ → ℕ → Bool
has_source set source = is_between 1 4 source && eqb (set / 2 ^ (source - 1) % 2) 1

-- how many are
abbrev pub size_of : ℕ → ℕ
size_of set = count (has_source set) (1 ∷ 2 ∷ 3 ∷ 4 ∷ [])

-- the set of a frontend; frontends count from 1, and there is none of 0
abbrev pub set_of : Settings → ℕ → ℕ
set_of s f = get_or (0 ∷ s.reach) f 0

-- "no set is empty", of frontends 1 to F, and none has a source beyond the fourth; the places above F are zeros
abbrev pub are_sets : ℕ → List ℕ → Bool
are_sets n [] = true
are_sets zero (set ∷ sets) = is_zero set && are_sets zero sets
are_sets (suc n) (set ∷ sets) = is_between 1 15 set && are_sets n sets

-- zeros in the places above F, whatever is given there
abbrev pub up_to : ℕ → List ℕ → List ℕ
up_to n [] = []
up_to zero (set ∷ sets) = 0 ∷ up_to zero sets
up_to (suc n) (set ∷ sets) = set ∷ up_to n sets
