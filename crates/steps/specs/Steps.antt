-- The refusals of steps 1 to 18, each with its step and its status; and steps 11 to 15, in order. Assumes nothing.
use Rattle.std.specs.Prelude.{ℕ, eqb, ltb, Bool, not, ◌&&◌, ◌||◌, Option, Some, None, is_none, option_map}
use Rattle.steps.specs.declared.cases.Case.{Case}
use Rattle.steps.specs.declared.cases.Case.TheVariants.{Reading, NoSession, NotLive, State, NotOwner, Transport, Combination, TooManyPids, NotReached, Full}
use Rattle.refusals.specs.Refusals.{reading_rule}
use Rattle.refusals.specs.declared.Refusal.{Refusal}
use Rattle.aim.specs.Aim.{method_number}
use Rattle.aim.specs.declared.Method.{Method}
use Rattle.table.specs.Table.{owns}
use Rattle.steps.specs.declared.Sight.{Sight}
use Rattle.scan.specs.Lists.{◌gives◌or◌}

abbrev pub rule_of : Case → ℕ × ℕ
rule_of (Reading refusal) = reading_rule refusal
rule_of NoSession = (11, 454)
rule_of NotLive = (12, 404)
rule_of State = (13, 455)
rule_of NotOwner = (14, 403)
rule_of Transport = (15, 461)
rule_of Combination = (16, 403)
rule_of TooManyPids = (17, 503)
rule_of NotReached = (17, 503)
rule_of Full = (18, 503)

-- the status, 200 where nothing refuses
abbrev pub status_of : Option Case → ℕ
status_of None = 200
status_of (Some c) = (rule_of c).1

-- what the reading of a request comes to: steps 1 to 10
abbrev pub read_case : Option Refusal → Option Case
read_case refusal = option_map Reading refusal

abbrev pub is_passed : Option Case → Bool
is_passed c = is_none c

abbrev pub is_setup : Method → Bool
is_setup m = eqb (method_number m) 1

abbrev pub needs_session : Method → Bool
needs_session m = eqb (method_number m) 2 || eqb (method_number m) 3

abbrev pub looks_up : Method → Bool
looks_up m = is_setup m || needs_session m

abbrev pub is_named : Sight → Bool
is_named v = ltb v.place 32

abbrev pub is_elsewhere : Sight → Bool
is_elsewhere v = not (eqb v.stream v.session.stream) || (not (eqb v.fe 0) && not (eqb v.fe v.frontend))

unfoldable pub table_case : Sight → Option Case
table_case v =
    -- 11: "Session .. is not 8 hex digits of either case naming an open session; or is absent in PLAY or TEARDOWN"
    (not (is_named v) && (not v.absent || needs_session v.method)) gives Some NoSession or
    -- 12: "SETUP, PLAY or TEARDOWN names a stream not live"; "OPTIONS does not look it up"
    (looks_up v.method && (not (eqb v.stream 0) && eqb v.frontend 0)) gives Some NotLive or
    -- 13: "With a session, not OPTIONS: the stream is not that session's, SETUP names no stream, SETUP while that session plays, or fe differs .."
    ((is_named v && looks_up v.method) && (is_elsewhere v || (is_setup v.method && (eqb v.stream 0 || not (eqb v.session.playing 0))))) gives Some State or
    -- 14: "A query on a live stream by anyone but its owner's session"
    (v.query && (not (eqb v.stream 0) && not (owns v.stream v.session))) gives Some NotOwner or
    -- 15: "SETUP whose Transport is not exactly .., or is absent"
    (is_setup v.method && eqb v.port 0) gives Some Transport or
    None
