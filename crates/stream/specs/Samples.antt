-- Document 01's edges of merging and of PIDs by examples, by computation. Assumes nothing.
use Rattle.std.specs.Prelude.{ℕ, zero, suc, ◌≡◌, refl, true, false, List, [], ◌∷◌, set, replicate, take, Result, Ok, Err}
use Rattle.std.specs.Result.{result_unwrap_or, is_ok}
use Prim.Native.String.{String}
use Rattle.scan.specs.Text.{text}
use Rattle.digits.specs.Reading.{read_number}
use Rattle.stream.specs.Values.{are_none, are_in_range, go_together, merged, are_complete}
use Rattle.stream.specs.Pids.{numbers_in, replaced, chosen, is_choice}
use Rattle.stream.specs.Streams.{no_stream, blank, are_zero, is_sound, changed, merge_of}
use Rattle.stream.specs.declared.Stream.{Stream}
use Rattle.stream.specs.declared.Refusal.{Refusal}
use Rattle.stream.specs.declared.Refusal.TheVariants.{Combination, TooMany}

-- a query with no attribute, and with one more: its place in the table and its code
abbrev nothing : List ℕ
nothing = replicate 13 0

infixl 30 ◌with◌is◌
abbrev ◌with◌is◌ : List ℕ → ℕ → ℕ → List ℕ
codes with attribute is code = set codes attribute code

-- a query without lists of PIDs, with pids, and with delpids and addpids
abbrev tuned : Stream → List ℕ → Result Stream Refusal
tuned m codes = merge_of m codes [] [] []

abbrev listed : Stream → String → Result Stream Refusal
listed m pids = merge_of m (nothing with 10 is 3) (text pids) [] []

abbrev edited : Stream → String → String → Result Stream Refusal
edited m del add = merge_of m (nothing with 12 is 3 with 11 is 3) [] (text del) (text add)

-- the stream after it: as it was, m, where the query is not merged
infixl 25 ◌or◌
abbrev ◌or◌ : Result Stream Refusal → Stream → Stream
r or m = result_unwrap_or r m

abbrev pids_of : Stream → List ℕ
pids_of m = take m.count m.pids

-- P5: a stream with dvbs2 and 8psk; msys=dvbs is refused, and passes with mtype=qpsk beside it
abbrev second : Stream
second = tuned (blank 1) (nothing with 4 is 2 with 5 is 2) or blank 1

pub combinations
    : (tuned second (nothing with 4 is 1) ≡ Err Combination)
    × (tuned second (nothing with 4 is 1) or second ≡ second)
    × (is_ok (tuned second (nothing with 4 is 1 with 5 is 1)) ≡ true)
    × (is_ok (tuned (blank 1) (nothing with 4 is 1 with 5 is 1 with 6 is 2 with 7 is 1 with 9 is 5)) ≡ true)
    × (tuned (blank 1) (nothing with 4 is 1 with 6 is 1) ≡ Err Combination)
    × (tuned (blank 1) (nothing with 4 is 1 with 7 is 2) ≡ Err Combination)
    × (tuned (blank 1) (nothing with 4 is 1 with 9 is 6) ≡ Err Combination)
unfolding merge_of merged go_together chosen numbers_in read_number changed
combinations = (refl, refl, refl, refl, refl, refl, refl)

-- "A missing value offends nothing": 8psk, plts on and fec 910 pass while msys is missing
abbrev unsaid : Stream
unsaid = tuned (blank 1) (nothing with 5 is 2 with 6 is 1 with 9 is 9) or blank 1

pub missing
    : (is_ok (tuned (blank 1) (nothing with 5 is 2 with 6 is 1 with 9 is 9)) ≡ true)
    × (unsaid.values.fec ≡ 9)
    × (tuned unsaid (nothing with 4 is 1) ≡ Err Combination)
    × (is_ok (tuned unsaid (nothing with 4 is 2)) ≡ true)
unfolding merge_of merged go_together chosen numbers_in read_number changed
missing = (refl, refl, refl, refl)

-- P6: 33 distinct PIDs are too many, 33 with one repeat pass; P7: 8191 is a PID
abbrev counting : ℕ → ℕ → List ℕ
counting zero p = []
counting (suc n) p = p ∷ counting n (suc p)

abbrev full : Stream
full = record { pids = counting 32 0; values = (blank 1).values; count = 32; frontend = 1; all = 0 }

pub lists
    : (pids_of (listed (blank 1) "611,0,17,0,8191,00611" or blank 1) ≡ 0 ∷ 17 ∷ 611 ∷ 8191 ∷ [])
    × (numbers_in (text "8191,8192,,x,000001") ≡ 8191 ∷ [])
    × (listed (blank 1) "0,1,2,3,4,5,6,7,8,9,10,11,12,13,14,15,16,17,18,19,20,21,22,23,24,25,26,27,28,29,30,31" ≡ Ok full)
    × (listed (blank 1) "0,1,2,3,4,5,6,7,8,9,10,11,12,13,14,15,16,17,18,19,20,21,22,23,24,25,26,27,28,29,30,31,32" ≡ Err TooMany)
    × (listed (blank 1) "0,1,2,3,4,5,6,7,8,9,10,11,12,13,14,15,16,17,18,19,20,21,22,23,24,25,26,27,28,29,30,31,31" ≡ Ok full)
    × ((listed full "7" or full).pids ≡ set (replicate 32 0) 0 7)
unfolding merge_of merged go_together chosen replaced numbers_in read_number changed
lists = (refl, refl, refl, refl, refl, refl)

-- "delpids is applied before addpids", and only what is left then counts
pub edits
    : (edited full "5" "5" ≡ Ok full)
    × (is_ok (edited full "1" "40") ≡ true)
    × (edited full "40" "40" ≡ Err TooMany)
    × (edited full "40" "31" ≡ Ok full)
    × (pids_of (edited (listed (blank 1) "1,2,3" or blank 1) "2,9,2,3" "4,0" or blank 1) ≡ 0 ∷ 1 ∷ 4 ∷ [])
unfolding merge_of merged go_together chosen replaced numbers_in read_number changed
edits = (refl, refl, refl, refl, refl)

-- "all, none": on "all" delpids and addpids change nothing, and only pids leaves it
abbrev whole : Stream
whole = record { pids = replicate 32 0; values = (blank 1).values; count = 0; frontend = 1; all = 1 }

pub all_of_them
    : (tuned full (nothing with 10 is 1) ≡ Ok whole)
    × (edited whole "1" "2" ≡ Ok whole)
    × (is_ok (edited whole "1" "0,1,2,3,4,5,6,7,8,9,10,11,12,13,14,15,16,17,18,19,20,21,22,23,24,25,26,27,28,29,30,31,32") ≡ true)
    × ((listed whole "2" or whole).all ≡ 0)
    × (tuned whole (nothing with 10 is 2) ≡ Ok (blank 1))
unfolding merge_of merged go_together chosen replaced numbers_in read_number changed
all_of_them = (refl, refl, refl, refl, refl)

-- which places a table may hold on a box with two frontends
pub places
    : (is_sound 2 no_stream ≡ true)
    × (is_sound 2 (blank 2) ≡ true)
    × (is_sound 2 (blank 3) ≡ false)
    × (is_sound 2 full ≡ true)
    × (is_sound 2 whole ≡ true)
    × (is_sound 2 (listed (blank 1) "0,8191" or blank 1) ≡ true)
    × (is_sound 2 second ≡ true)
    × (are_complete second.values ≡ false)
unfolding is_sound are_zero are_none are_in_range is_choice are_complete merge_of merged go_together chosen replaced numbers_in read_number changed
places = (refl, refl, refl, refl, refl, refl, refl, refl)
