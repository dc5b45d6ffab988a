-- Document 01: "A fresh box has clock, sequence and bytes held 0, and no session or stream"; the refusals by their numbers. Assumes nothing.
use Rattle.std.specs.Prelude.{ℕ, cond, replicate, Result, Ok, Err}
use Rattle.stream.specs.Streams.{no_stream}
use Rattle.table.specs.Table.{no_session}
use Rattle.table.specs.Formed.{are_settings}
use Rattle.table.specs.Reach.{up_to}
use Rattle.table.specs.declared.Settings.{Settings}
use Rattle.table.specs.declared.SatBox.{SatBox}
use Rattle.table.specs.declared.Refusal.{Refusal}
use Rattle.table.specs.declared.Refusal.TheVariants.{Table, Journal, Answer, Buffer, Frontend, Sizes}

-- document 01's number of each refusal
abbrev pub refusal_number : Refusal → ℕ
refusal_number Table = 1
refusal_number Journal = 2
refusal_number Answer = 3
refusal_number Buffer = 4
refusal_number Frontend = 5
refusal_number Sizes = 6

-- whether a call was done, or why it was refused
abbrev pub Outcome : Type 0
Outcome = Result (Unit {0}) Refusal

-- and what a call is refused with, 0 where it was done
abbrev pub number_in : {T : Type 0} → Result T Refusal → ℕ
number_in (Ok x) = 0
number_in (Err refusal) = refusal_number refusal

-- what is fixed when a box is made: F and C, and the sets; here "each reaches all four"
abbrev pub settings_of : ℕ → ℕ → Settings
settings_of frontends size = record { size = size; frontends = frontends; spare = 0; reach = up_to frontends (replicate 8 15) }

-- what the box keeps of those that are given
abbrev pub stored : Settings → Settings
stored s = record { size = s.size; frontends = s.frontends; spare = 0; reach = up_to s.frontends s.reach }

abbrev pub fresh : Settings → SatBox
fresh s =
    record { sessions = replicate 32 no_session; streams = replicate 8 no_stream; settings = s; held = 0; clock = 0; sequence = 0; spare = 0 }

-- 6: "F or C outside its range", with order 1 "also for an empty set"
unfoldable pub made_of : Settings → Result SatBox Refusal
made_of s = cond (are_settings (stored s)) (Ok (fresh (stored s))) (Err Sizes)
