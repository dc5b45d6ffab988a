-- Samples of the meanings, by computation: tables at the edges of the rules. Assumes nothing.
use Rattle.std.specs.Prelude.{◌≡◌, refl, true, false, List, [], ◌∷◌, ◌++◌, ℕ, ◌-◌, length, replicate, Option, Some, None, Result, Ok, Err, is_ok}
use Rattle.stream.specs.Values.{are_none, are_in_range, go_together}
use Rattle.stream.specs.Pids.{is_choice}
use Rattle.stream.specs.Streams.{no_stream, blank, are_zero, is_sound}
use Rattle.stream.specs.declared.Stream.{Stream}
use Rattle.table.specs.Table.{no_session}
use Rattle.table.specs.Formed.{is_seated, is_blank, well_formed}
use Rattle.table.specs.Made.{settings_of, fresh, made_of}
use Rattle.table.specs.declared.Refusal.TheVariants.{Sizes}
use Rattle.table.specs.Reach.{has_source, size_of}
use Rattle.table.specs.declared.Session.{Session}
use Rattle.table.specs.declared.Settings.{Settings}
use Rattle.table.specs.declared.Refusal.{Refusal}
use Rattle.table.specs.declared.SatBox.{SatBox}

-- a session on a stream, by its number, owning or not, with its last time and its port
abbrev pub session : ℕ → ℕ → ℕ → ℕ → ℕ → Session
session number stream owner last port =
    record { number = number; address = 3232281127; last = last; port = port; stream = stream; owner = owner; playing = 0 }

abbrev pub owner : ℕ → Session
owner number = session number 1 1 10 5000

abbrev pub joiner : ℕ → Session
joiner number = session number 1 0 10 5002

-- a free place that is not all zeros
abbrev pub remnant : Session
remnant = record { number = 0; address = 0; last = 0; port = 5000; stream = 0; owner = 0; playing = 0 }

-- the 32 places and the 8 streams, by what stands at their start
abbrev pub places : List Session → List Session
places l = l ++ replicate (32 - length l) no_session

abbrev pub rows : List Stream → List Stream
rows ms = ms ++ replicate (8 - length ms) no_stream

-- making a box: F is 1 to 8, C is 1,024 to 65,536 and a multiple of 16
pub made : (is_ok (made_of (settings_of 1 1024)) ≡ true) × (is_ok (made_of (settings_of 8 65536)) ≡ true) × (is_ok (made_of (settings_of 2 1040)) ≡ true)
unfolding made_of
made = (refl, refl, refl)

pub not_made : (made_of (settings_of 0 1024) ≡ Err Sizes) × (made_of (settings_of 9 1024) ≡ Err Sizes) × (made_of (settings_of 2 1008) ≡ Err Sizes) × (made_of (settings_of 2 1032) ≡ Err Sizes) × (made_of (settings_of 2 65552) ≡ Err Sizes)
unfolding made_of
not_made = (refl, refl, refl, refl, refl)

-- order 1: a frontend up to F has a set, of sources 1 to 4; what is given above F is not looked at, and zeros are stored there
abbrev seeing : List ℕ → Settings
seeing sets = record { size = 1024; frontends = 2; spare = 7; reach = sets }

-- the sets of a box that was made
abbrev sets_of : Result SatBox Refusal → Option (List ℕ)
sets_of (Ok t) = Some t.settings.reach
sets_of (Err refusal) = None

pub sets : (sets_of (made_of (seeing (3 ∷ 12 ∷ 0 ∷ 99 ∷ 0 ∷ 0 ∷ 0 ∷ 0 ∷ []))) ≡ Some (3 ∷ 12 ∷ 0 ∷ 0 ∷ 0 ∷ 0 ∷ 0 ∷ 0 ∷ [])) × (made_of (seeing (3 ∷ 0 ∷ 0 ∷ 0 ∷ 0 ∷ 0 ∷ 0 ∷ 0 ∷ [])) ≡ Err Sizes) × (made_of (seeing (16 ∷ 1 ∷ 0 ∷ 0 ∷ 0 ∷ 0 ∷ 0 ∷ 0 ∷ [])) ≡ Err Sizes)
unfolding made_of
sets = (refl, refl, refl)

-- {1, 3} is 5
pub members : (has_source 5 1 ≡ true) × (has_source 5 2 ≡ false) × (has_source 5 3 ≡ true) × (has_source 5 4 ≡ false) × (has_source 31 5 ≡ false) × (size_of 5 ≡ 2) × (size_of 15 ≡ 4) × (size_of 8 ≡ 1)
members = (refl, refl, refl, refl, refl, refl, refl, refl)

-- a box with F = 2 and C = 1,024
abbrev pub box : ℕ → ℕ → List Session → List Stream → SatBox
box held clock l ms =
    record { sessions = places l; streams = rows ms; settings = settings_of 2 1024; held = held; clock = clock; sequence = 0; spare = 0 }

-- the same with other sets
abbrev pub box_seeing : List ℕ → List Session → List Stream → SatBox
box_seeing sets l ms =
    record { sessions = places l; streams = rows ms; settings = seeing sets; held = 0; clock = 10; sequence = 0; spare = 0 }

pub record WellFormed : Type 0 where
  pub fresh_box : well_formed (fresh (settings_of 2 1024)) ≡ true
  pub joined : well_formed (box 0 10 (owner 1 ∷ joiner 2 ∷ []) (blank 1 ∷ [])) ≡ true
  -- EDGES 1.4: long expired; and an ID above F
  pub expired : well_formed (box 0 100000 (owner 1 ∷ []) (blank 1 ∷ [])) ≡ true
  pub third : well_formed (box 0 10 (session 1 3 1 10 5000 ∷ []) (no_stream ∷ no_stream ∷ blank 2 ∷ [])) ≡ true
  -- EDGES 1.5: held + 16 × open = C
  pub filled : well_formed (box 992 10 (owner 1 ∷ joiner 2 ∷ []) (blank 1 ∷ [])) ≡ true
  -- order 1: a set with the stream's src, whatever else is in it
  pub reached : well_formed (box_seeing (5 ∷ 8 ∷ 0 ∷ 0 ∷ 0 ∷ 0 ∷ 0 ∷ 0 ∷ []) (owner 1 ∷ []) (blank 1 ∷ [])) ≡ true

pub record IllFormed : Type 0 where
  pub overfilled : well_formed (box 1008 10 (owner 1 ∷ joiner 2 ∷ []) (blank 1 ∷ [])) ≡ false
  pub no_record_law : well_formed (box 8 10 (owner 1 ∷ []) (blank 1 ∷ [])) ≡ false
  pub one_number : well_formed (box 0 10 (owner 1 ∷ joiner 1 ∷ []) (blank 1 ∷ [])) ≡ false
  pub past_clock : well_formed (box 0 9 (owner 1 ∷ []) (blank 1 ∷ [])) ≡ false
  pub odd_port : well_formed (box 0 10 (session 1 1 1 10 5001 ∷ []) (blank 1 ∷ [])) ≡ false
  pub dead_stream : well_formed (box 0 10 (owner 1 ∷ session 2 2 0 10 5002 ∷ []) (blank 1 ∷ [])) ≡ false
  pub no_stream_law : well_formed (box 0 10 (owner 1 ∷ session 2 0 0 10 5002 ∷ []) (blank 1 ∷ [])) ≡ false
  pub no_owner : well_formed (box 0 10 (joiner 1 ∷ []) (blank 1 ∷ [])) ≡ false
  pub two_owners : well_formed (box 0 10 (owner 1 ∷ owner 2 ∷ []) (blank 1 ∷ [])) ≡ false
  pub one_frontend : well_formed (box 0 10 (owner 1 ∷ session 2 2 1 10 5002 ∷ []) (blank 1 ∷ blank 1 ∷ [])) ≡ false
  pub past_frontends : well_formed (box 0 10 (owner 1 ∷ []) (blank 3 ∷ [])) ≡ false
  pub not_zeros : well_formed (box 0 10 (remnant ∷ []) []) ≡ false
  -- order 1: an empty set, a fifth source, a set above F, and a stream whose src its frontend does not reach
  pub empty_set : well_formed (box_seeing (15 ∷ 0 ∷ 0 ∷ 0 ∷ 0 ∷ 0 ∷ 0 ∷ 0 ∷ []) (owner 1 ∷ []) (blank 1 ∷ [])) ≡ false
  pub fifth_source : well_formed (box_seeing (17 ∷ 1 ∷ 0 ∷ 0 ∷ 0 ∷ 0 ∷ 0 ∷ 0 ∷ []) (owner 1 ∷ []) (blank 1 ∷ [])) ≡ false
  pub above_F : well_formed (box_seeing (15 ∷ 15 ∷ 1 ∷ 0 ∷ 0 ∷ 0 ∷ 0 ∷ 0 ∷ []) (owner 1 ∷ []) (blank 1 ∷ [])) ≡ false
  pub unreached : well_formed (box_seeing (14 ∷ 15 ∷ 0 ∷ 0 ∷ 0 ∷ 0 ∷ 0 ∷ 0 ∷ []) (owner 1 ∷ []) (blank 1 ∷ [])) ≡ false

pub well_formed_law : WellFormed
unfolding well_formed is_seated is_blank is_sound are_zero are_none are_in_range go_together is_choice
well_formed_law = record { fresh_box = refl; joined = refl; expired = refl; third = refl; filled = refl; reached = refl }

pub ill_formed : IllFormed
unfolding well_formed is_seated is_blank is_sound are_zero are_none are_in_range go_together is_choice
ill_formed =
    record {
      overfilled = refl;
      no_record_law = refl;
      one_number = refl;
      past_clock = refl;
      odd_port = refl;
      dead_stream = refl;
      no_stream_law = refl;
      no_owner = refl;
      two_owners = refl;
      one_frontend = refl;
      past_frontends = refl;
      not_zeros = refl;
      empty_set = refl;
      fifth_source = refl;
      above_F = refl;
      unreached = refl;
    }
