-- A turn that is performed, from what the code set and wrote: it is what the turn means. Assumes nothing.
use mathlib.Core.Path.{◌≡◌, ◌∙◌, ap, subst}
use mathlib.Core.List.{List, append-nil}
use Prim.Native.Nat.{ℕ, ◌+◌, ◌-◌, ◌≤◌}
use native.Mathlib.Omega.{arith}
use lib.ListN.{get_or, set}
use Rattle.writing.specs.Writing.{written}
use Rattle.journal.specs.Records.{next_sequence, encoded}
use Rattle.stream.specs.Streams.{past_stream}
use Rattle.stream.specs.declared.Stream.{Stream}
use Rattle.table.specs.Table.{stream_of}
use Rattle.table.specs.declared.SatBox.{SatBox}
use Rattle.table.proofs.Ids.{stream_at, with_at}
use Rattle.closings.specs.Closing.{Did, restreamed, reseated, noting, bytes_of}
use Rattle.closings.specs.Does.{Does}
use Rattle.closings.specs.Stamps.{event_of, stamped_as}
use Rattle.closings.specs.declared.change.Kind.{Kind}
use Rattle.serving.specs.Turns.{seated, Seatable}
use Rattle.serving.specs.declared.opening.Seat.{Seat}

-- the stream of an ID is set one place below it
pub row_set : (t : SatBox) (id : ℕ) (m : Stream) → 1 ≤ id
    → record { sessions = t.sessions; streams = set t.streams (id - 1) m; settings = t.settings; held = t.held; clock = t.clock; sequence = t.sequence; spare = t.spare } ≡ restreamed id m t
unfolding restreamed
row_set t id m h = rw (with_at t.streams id m (λ z. omega arith))

-- A SESSION OPENS OR JOINS: it is set at its place, and its record is written behind the bytes held
pub does_seated : {t : SatBox} {j k : List ℕ} {number : ℕ} (kind : Kind) (s : Seat) → 1 ≤ s.session.stream → number ≡ next_sequence t.sequence
    → k ≡ written j t.held (encoded (stamped_as (record { held = t.held; clock = t.clock; sequence = t.sequence; frontend = (get_or t.streams (s.session.stream - 1) past_stream).frontend }) (event_of kind s.session)))
    → Does t j (seated kind s t) (record { sessions = set t.sessions s.place s.session; streams = t.streams; settings = t.settings; held = t.held + 16; clock = t.clock; sequence = number; spare = t.spare }) k
unfolding noting reseated
does_seated {t} kind s h n w =
    let f : (get_or t.streams (s.session.stream - 1) past_stream).frontend ≡ (stream_of t s.session.stream).frontend = ap (λ m. m.frontend) (stream_at t.streams s.session.stream (λ z. omega arith)) in
    record { satbox = rw n; journal = rw (append-nil, ← f) w }

-- what is set before an operation writes nothing, and no byte is held for it
pub does_after : {t u r : SatBox} {j k : List ℕ} (id : ℕ) (m : Stream) (f : SatBox → Did) → u ≡ restreamed id m t → Does u j (f u) r k → Does t j (f (restreamed id m t)) r k
unfolding restreamed
does_after {j = j} {k = k} id m f e p =
    record { satbox = p.satbox ∙ ap (λ x. (f x).satbox) e; journal = subst (λ x. k ≡ written j x.held (bytes_of (f x).records)) e p.journal }

pub room_after : {t u : SatBox} (id : ℕ) (m : Stream) (s : Seat) → u ≡ restreamed id m t → Seatable t s → Seatable u s
unfolding restreamed
room_after id m s e h = rw e (record { home = h.home; room = h.room })
