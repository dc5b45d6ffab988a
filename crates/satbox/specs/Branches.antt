-- How far a request has come between the private functions of its call: what it comes to on a swept table. Assumes nothing.
use Rattle.std.specs.Prelude.{ℕ, ◌≡◌, true, cond, List, ◌++◌, length, drop, Option}
use Rattle.scan.specs.Lists.{first}
use Rattle.table.specs.Table.{unless, has_number, session_at}
use Rattle.table.specs.declared.SatBox.{SatBox}
use Rattle.steps.specs.Replies.{reply_text}
use Rattle.serving.specs.Serving.{refreshed, answered}
use Rattle.serving.specs.declared.opening.Seat.{Seat}
use Rattle.serving.specs.Turns.{TurnIs}
use Rattle.satbox.specs.declared.Response.{Response}

-- how long a box's arrays are, which its type says, and which no clause knows of one behind a reference
pub record IsBox (t : SatBox) : Type 0 where
  pub places : length t.sessions ≡ 32
  pub rows : length t.streams ≡ 8

-- the place of the session that has a number
abbrev pub place_with : SatBox → ℕ → Option ℕ
place_with t number = unless 32 (first (has_number number) t.sessions)

-- that session, with the clock as its last time
abbrev pub seat_kept : SatBox → ℕ → Seat
seat_kept t place = record { place = place; session = refreshed t.clock (session_at t place) }

-- x and d are what a request on a swept table t comes to, and the answer buffer b with its answer
pub record Responds (s : List ℕ) (address draw : ℕ) (t : SatBox) (b : List ℕ) (x : Response) (d : List ℕ) : Type 0 where
  pub turn : TurnIs t (answered s address draw t) x.turn
  pub count : x.count ≡ length (reply_text (answered s address draw t).case s (answered s address draw t).session)
  pub buffer : d ≡ reply_text (answered s address draw t).case s (answered s address draw t).session ++ drop x.count b
