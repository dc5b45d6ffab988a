-- Document 01: "A frontend order is the stream's values and PIDs exactly when .."; and refusals 1 and 5 before it. Assumes nothing.
use Rattle.std.specs.Prelude.{ℕ, suc, Bool, not, cond, ◌&&◌, eqb, ltb, length, Option, Some, None, Result, Ok, Err}
use Rattle.scan.specs.Lists.{is_between, first}
use Rattle.stream.specs.declared.Stream.{Stream}
use Rattle.stream.specs.Values.{are_complete}
use Rattle.table.specs.Table.{any, stream_of, owns}
use Rattle.table.specs.Formed.{well_formed}
use Rattle.table.specs.declared.Session.{Session}
use Rattle.table.specs.declared.SatBox.{SatBox}
use Rattle.table.specs.declared.Refusal.{Refusal}
use Rattle.table.specs.declared.Refusal.TheVariants.{Table, Frontend}

-- "the owner plays"
abbrev pub plays_as_owner : ℕ → Session → Bool
plays_as_owner id s = owns id s && not (eqb s.playing 0)

-- "the stream's values and PIDs exactly when .. the owner plays and freq, pol, msys, sr and fec are all there; otherwise "off"": no stream
unfoldable pub order_at : SatBox → ℕ → Option Stream
order_at t id = cond (any (plays_as_owner id) t.sessions && are_complete (stream_of t id).values) (Some (stream_of t id)) None

-- "exactly when the frontend is held": by the first stream that has it; the IDs count from 1
unfoldable pub order_for : SatBox → ℕ → Option Stream
order_for t n = let k = first (λ m. eqb m.frontend n) t.streams in cond (ltb k (length t.streams)) (order_at t (suc k)) None

-- 1: "the table is not well formed"; 5: "frontend number is 0 or above F"
unfoldable pub order_of : SatBox → ℕ → Result (Option Stream) Refusal
order_of t n = cond (well_formed t) (cond (is_between 1 t.settings.frontends n) (Ok (order_for t n)) (Err Frontend)) (Err Table)
