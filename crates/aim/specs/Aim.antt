-- Document 01, "The answer, first that applies", steps 7 to 10: of a request's URI. Assumes nothing.
use Rattle.std.specs.Prelude.{ℕ, Bool, not, ◌&&◌, ◌||◌, List, [], ltb, eqb, length, is_some, Option, Some, None}
use Rattle.target.specs.Uri.{is_uri, stream_named, has_query}
use Rattle.tuning.specs.Values.{value_of}
use Rattle.aim.specs.Query.{parts_of, attribute_in, are_parts, text_in, code_from}
use Rattle.refusals.specs.declared.Refusal.{Refusal}
use Rattle.refusals.specs.declared.Refusal.TheVariants.{UriLong, UriForm, QueryUntaken, QueryForm, PidsClash, PidsUnstreamed, NoStream}
use Rattle.refusals.specs.declared.Refusal.TheVariants.{Value as Outside}
use Rattle.aim.specs.declared.Method.{Method}
use Rattle.aim.specs.declared.Method.TheVariants.{Options, Setup, Play, Teardown, Other}
use Rattle.scan.specs.Lists.{all, ◌gives◌or◌}
use Rattle.scan.specs.Text.{after}

-- a method's place among OPTIONS, SETUP, PLAY, TEARDOWN, from 0 on; 4 for any other
abbrev pub method_number : Method → ℕ
method_number Options = 0
method_number Setup = 1
method_number Play = 2
method_number Teardown = 3
method_number Other = 4

-- whether a URI names a stream: 0 stands for none
abbrev pub has_stream : List ℕ → Bool
has_stream u = not (eqb (code_from (stream_named u)) 0)

-- whether an attribute is given: 10 is pids, 11 addpids, 12 delpids
abbrev pub is_given : ℕ → List ℕ → Bool
is_given a u = ltb 0 (length (text_in a (parts_of u)))

abbrev pub edits : List ℕ → Bool
edits u = is_given 11 u || is_given 12 u

unfoldable pub uri_refusal : ℕ → Method → List ℕ → Option Refusal
uri_refusal frontends method u =
    ltb 1024 (length u) gives Some UriLong or
    not (is_uri u) gives Some UriForm or
    -- 8: "Query wrong in form, an unknown name, a query with OPTIONS or TEARDOWN, pids beside addpids or delpids, addpids or delpids in .."
    (has_query u && (eqb (method_number method) 0 || eqb (method_number method) 3)) gives Some QueryUntaken or
    not (are_parts [] (parts_of u)) gives Some QueryForm or
    (is_given 10 u && edits u) gives Some PidsClash or
    (edits u && not (has_stream u)) gives Some PidsUnstreamed or
    not (all (λ p. is_some (value_of frontends (attribute_in p) (after 61 p))) (parts_of u)) gives Some Outside or
    -- 10: "PLAY or TEARDOWN without stream, SETUP with neither stream nor query"
    ((eqb (method_number method) 2 || eqb (method_number method) 3 || (eqb (method_number method) 1 && not (has_query u))) && not (has_stream u)) gives Some NoStream or
    None
