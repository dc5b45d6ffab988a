-- Document 01, "Refusals of a call": when a table is well formed. Assumes nothing.
use Rattle.std.specs.Prelude.{ℕ, suc, ◌+◌, ◌*◌, ◌%◌, Bool, true, cond, ◌&&◌, ◌||◌, List, [], ◌∷◌, map, eqb, leb}
use Rattle.scan.specs.Lists.{is_between, all}
use Rattle.journal.specs.Records.{record_size}
use Rattle.stream.specs.Streams.{is_sound}
use Rattle.stream.specs.declared.Stream.{Stream}
use Rattle.table.specs.Table.{count, are_distinct, is_free, open_count, stream_of, is_dead, is_live, owns}
use Rattle.table.specs.Reach.{has_source, set_of, are_sets}
use Rattle.table.specs.declared.Session.{Session}
use Rattle.table.specs.declared.Settings.{Settings}
use Rattle.table.specs.declared.SatBox.{SatBox}

-- "frontends F: 1 to 8", "journal size C: 1,024 to 65,536, a multiple of 16"
abbrev pub are_sizes : Settings → Bool
are_sizes s = is_between 1 8 s.frontends && (is_between 1024 65536 s.size && eqb (s.size % record_size) 0)

-- and with order 1 the sets
abbrev pub are_settings : Settings → Bool
are_settings s = are_sizes s && are_sets s.frontends s.reach

-- a stream's own rules are `is_sound`; order 1: "each stream's frontend reaches its src"
abbrev pub is_placed : Settings → Stream → Bool
is_placed s m = is_sound s.frontends m && (is_dead m || has_source (set_of s m.frontend) m.values.src)

-- "each live stream has exactly one open owner"; the streams' IDs count on from the first's
abbrev pub are_owned : List Session → ℕ → List Stream → Bool
are_owned l id [] = true
are_owned l id (m ∷ ms) = (is_dead m || eqb (count (owns id) l) 1) && are_owned l (suc id) ms

-- of a session, "every value in range", its port and flags among them, and "no session's last time is past the clock"
unfoldable pub is_seated : ℕ → Session → Bool
is_seated clock s = is_between 1024 65534 s.port && eqb (s.port % 2) 0 && leb s.owner 1 && leb s.playing 1 && leb s.last clock

-- "unused places all zeros"
unfoldable pub is_blank : Session → Bool
is_blank s = eqb s.address 0 && eqb s.last 0 && eqb s.port 0 && eqb s.stream 0 && eqb s.owner 0 && eqb s.playing 0

-- all of them, in document 01's order
unfoldable pub well_formed : SatBox → Bool
well_formed t =
    are_settings t.settings
    -- "open session numbers non-zero and distinct": a place whose number is zero is not open
    && (are_distinct (map (λ s. s.number) t.sessions)
    -- "each open session belongs to a live stream"
    && (all (λ s. is_free s || is_live (stream_of t s.stream)) t.sessions
    && (are_owned t.sessions 1 t.streams
    -- "no two streams share a frontend"
    && (are_distinct (map (λ m. m.frontend) t.streams)
    && (all (is_placed t.settings) t.streams
    && (all (λ s. cond (is_free s) (is_blank s) (is_seated t.clock s)) t.sessions
    -- "bytes held a multiple of 16; bytes held plus 16 per open session at most C"
    && (eqb (t.held % record_size) 0 && leb (t.held + record_size * open_count t) t.settings.size)))))))
