-- One stream's place: empty, newly opened, as a table may hold it; and what a query makes of it. Assumes nothing.
use Rattle.std.specs.Prelude.{ℕ, ◌-◌, Bool, cond, ◌&&◌, not, [], List, ◌++◌, eqb, ltb, replicate, length, Result, Ok, Err}
use Rattle.std.specs.Result.{result_unwrap_or}
use Rattle.scan.specs.Lists.{is_between, all}
use Rattle.stream.specs.Values.{only_src, is_zero, are_none, are_in_range, go_together, merged}
use Rattle.stream.specs.Pids.{is_choice, Choice, chosen}
use Rattle.stream.specs.declared.Stream.{Stream}
use Rattle.stream.specs.declared.Values.{Values}
use Rattle.stream.specs.declared.Refusal.{Refusal}
use Rattle.stream.specs.declared.Refusal.TheVariants.{Combination, TooMany}

-- a place where no stream is: "unused places all zeros"
abbrev pub no_stream : Stream
no_stream = record { pids = replicate 32 0; values = only_src 0; count = 0; frontend = 0; all = 0 }

-- what the logic reads past the last place
abbrev pub past_stream : Stream
past_stream = record { pids = []; values = only_src 0; count = 0; frontend = 0; all = 0 }

-- a new stream before its query is merged: "src: no, 1", "fe: the frontend held", "pids: none", and all else missing
abbrev pub blank : ℕ → Stream
blank frontend = record { pids = replicate 32 0; values = only_src 1; count = 0; frontend = frontend; all = 0 }

-- "unused places all zeros"
unfoldable pub are_zero : Stream → Bool
are_zero m = are_none m.values && (eqb m.count 0 && eqb m.all 0 && all is_zero m.pids)

-- a place of a well-formed table on a box with so many frontends: unused, or a live stream with "frontends 1 to F; every value in range
-- and the combination rule holds; PID lists ascending without repeats"
unfoldable pub is_sound : ℕ → Stream → Bool
is_sound frontends m =
    cond (eqb m.frontend 0) (are_zero m)
    (is_between 1 frontends m.frontend && (are_in_range m.values && (go_together m.values && is_choice m)))

-- a stream with other values and PIDs, and zeros after these; "fe: the frontend held"
unfoldable pub changed : Stream → Values → Choice → Stream
changed m v c = record { pids = c.list ++ replicate (32 - length c.list) 0; values = v; count = length c.list; frontend = m.frontend; all = cond c.all 1 0 }

-- a query merged into a stream: "Combination rule broken", then "More than 32 PIDs after merging"
unfoldable pub merge_of : Stream → List ℕ → List ℕ → List ℕ → List ℕ → Result Stream Refusal
merge_of m codes pids delpids addpids =
    cond (not (go_together (merged m.values codes))) (Err Combination)
    (cond (ltb 32 (length (chosen m codes pids delpids addpids).list)) (Err TooMany)
    (Ok (changed m (merged m.values codes) (chosen m codes pids delpids addpids))))

-- a stream after a query: in both the stream stays as it is
abbrev pub after_query : Stream → List ℕ → List ℕ → List ℕ → List ℕ → Stream
after_query m codes pids delpids addpids = result_unwrap_or (merge_of m codes pids delpids addpids) m
