-- What one look at a table finds: whether it is well formed, and since when its oldest session was not heard of. Assumes nothing.
use Rattle.std.specs.Prelude.{ℕ, Bool, ◌&&◌, min, cond, List, [], ◌∷◌, Option, Some, None}
use Rattle.table.specs.Table.{is_free}
use Rattle.table.specs.Formed.{is_blank, well_formed}
use Rattle.table.specs.declared.Session.{Session}
use Rattle.table.specs.declared.SatBox.{SatBox}

-- nobody is at a place, and all of it is 0
abbrev pub is_vacant : Session → Bool
is_vacant s = is_free s && is_blank s

-- no last time is later
abbrev pub latest : ℕ
latest = 4294967295

-- the least last time of the open sessions
abbrev pub oldest : List Session → ℕ
oldest [] = latest
oldest (s ∷ l) = cond (is_free s) (oldest l) (min s.last (oldest l))

-- of a well-formed table
unfoldable pub standing_of : SatBox → Option ℕ
standing_of t = cond (well_formed t) (Some (oldest t.sessions)) None
