-- The test of each of steps 11 to 15 by a name, as the code has them; no call of the box reaches these. Assumes nothing.
use Rattle.std.specs.Prelude.{Bool, not, ◌&&◌, ◌||◌, eqb}
use Rattle.table.specs.Table.{owns}
use Rattle.steps.specs.Steps.{is_setup, needs_session, looks_up, is_named, is_elsewhere}
use Rattle.steps.specs.declared.Sight.{Sight}

abbrev pub lacks_session : Sight → Bool
lacks_session v = not (is_named v) && (not v.absent || needs_session v.method)

abbrev pub names_dead : Sight → Bool
names_dead v = looks_up v.method && (not (eqb v.stream 0) && eqb v.frontend 0)

abbrev pub is_out_of_state : Sight → Bool
is_out_of_state v = (is_named v && looks_up v.method) && (is_elsewhere v || (is_setup v.method && (eqb v.stream 0 || not (eqb v.session.playing 0))))

abbrev pub is_anothers : Sight → Bool
is_anothers v = v.query && (not (eqb v.stream 0) && not (owns v.stream v.session))

abbrev pub lacks_port : Sight → Bool
lacks_port v = is_setup v.method && eqb v.port 0
