-- What the functions of this crate promise each other and the crates above: what was found of a query and a URI, and where it stands. No call
-- of the box reaches it. Assumes nothing.
use Rattle.std.specs.Prelude.{ℕ, ◌+◌, ◌≤◌, ◌≡◌, true, false, Bool, not, cond, ◌&&◌, ◌||◌, List, [], ◌∷◌, eqb, ltb, length, get_or, replicate, Option, MatchOption, IfSome, Result, Ok, Err, Some, is_some, None}
use Rattle.std.specs.Bool.{then_some}
use Rattle.scan.specs.Found.{Holds, nowhere, place_in}
use Rattle.aim.specs.declared.query.Part.{Part}
use Rattle.aim.specs.declared.query.Query.{Query}
use Rattle.aim.specs.Query.{parts_of, attribute_in, are_parts, text_in, code_from, code_in}
use Rattle.scan.specs.declared.Span.{Span}
use Rattle.target.specs.Uri.{host_of, has_query, query_of}
use Rattle.target.specs.Steps.{question, stream_given, UriIs}
use Rattle.target.specs.declared.Uri.{Uri}
use Rattle.refusals.specs.declared.Refusal.{Refusal}
use Rattle.refusals.specs.declared.Refusal.TheVariants.{PidsClash, PidsUnstreamed, NoStream}
use Rattle.aim.specs.declared.Method.{Method}
use Rattle.aim.specs.declared.Aim.{Aim}
use Rattle.aim.specs.Aim.{method_number, uri_refusal}
use Rattle.scan.specs.Lists.{all, first, ◌gives◌or◌}
use Rattle.scan.specs.Text.{is, after, cut}
use Rattle.tuning.specs.Values.{value_of}
use Rattle.refusals.specs.declared.Refusal.TheVariants.{Value as Outside}

-- "a query with OPTIONS or TEARDOWN"; "PLAY or TEARDOWN without stream, SETUP with neither stream nor query"
abbrev pub takes_no_query : Method → Bool
takes_no_query method = eqb (method_number method) 0 || eqb (method_number method) 3

abbrev pub lacks_stream : Method → Bool → Bool → Bool
lacks_stream method stream query =
    (eqb (method_number method) 2 || eqb (method_number method) 3 || (eqb (method_number method) 1 && not query)) && not stream

-- a query's bytes: its form, whether its values are in the table, an attribute's text and code
abbrev pub is_query : List ℕ → Bool
is_query q = are_parts [] (cut 38 q)

abbrev pub are_within : ℕ → List ℕ → Bool
are_within frontends q = all (λ p. is_some (value_of frontends (attribute_in p) (after 61 p))) (cut 38 q)

abbrev pub text_of : ℕ → List ℕ → List ℕ
text_of a q = text_in a (cut 38 q)

abbrev pub code_of : ℕ → ℕ → List ℕ → ℕ
code_of frontends a q = code_in frontends a (cut 38 q)

abbrev pub equals : List ℕ → ℕ
equals p = first (is 61) p

-- a name, `=`, and a value that is not empty
abbrev pub is_part : List ℕ → Bool
is_part p = ltb (equals p + 1) (length p)

abbrev pub part_value : List ℕ → List ℕ
part_value p = after 61 p

abbrev pub is_named_before : ℕ → List ℕ → Bool
is_named_before a [] = false
is_named_before a (b ∷ bs) = eqb a b || is_named_before a bs

abbrev pub is_within : ℕ → List ℕ → Bool
is_within frontends p = is_some (value_of frontends (attribute_in p) (part_value p))

-- an attribute's text and code, part by part
abbrev pub text_among : ℕ → List (List ℕ) → List ℕ
text_among a [] = []
text_among a (p ∷ ps) = cond (eqb (attribute_in p) a) (part_value p) (text_among a ps)

abbrev pub code_among : ℕ → ℕ → List (List ℕ) → ℕ
code_among frontends a [] = 0
code_among frontends a (p ∷ ps) = cond (eqb (attribute_in p) a) (code_from (value_of frontends a (part_value p))) (code_among frontends a ps)

-- where an attribute's text starts in the query, 0 where it is not given
abbrev pub start_among : ℕ → ℕ → List (List ℕ) → ℕ
start_among a at ps = place_in (λ p. eqb (attribute_in p) a) (λ p. equals p + 1) 1 at ps

unfoldable pub start_of : ℕ → List ℕ → ℕ
start_of a q = start_among a 0 (cut 38 q)

-- what one part is: its attribute, and where its value starts
pub record PartHas (p : List ℕ) (r : Part) : Type 0 where
  pub attribute : r.attribute ≡ attribute_in p
  pub known : ltb (attribute_in p) 13 ≡ true
  pub value : r.value ≡ equals p + 1

-- one part: none where it names no attribute or has no value
abbrev pub PartIs : List ℕ → Option Part → Type 0
PartIs p r = MatchOption r (ltb (attribute_in p) 13 ≡ false) (PartHas p)

-- of a query that has its form, whether its values are in the table, their codes, and where their texts stand
pub record QueryIs (frontends : ℕ) (q : List ℕ) (r : Query) : Type 0 where
  pub form : is_query q ≡ true
  pub within : r.within ≡ are_within frontends q
  pub codes : (a : ℕ) → get_or r.codes a 0 ≡ code_of frontends a q
  pub spans : (a : ℕ) → Holds q (text_of a q) (get_or r.spans a nowhere).start (get_or r.spans a nowhere).end
  pub starts : (a : ℕ) → (get_or r.spans a nowhere).start ≡ start_of a q
  pub thirteen : (length r.codes ≡ 13) × (length r.spans ≡ 13)

-- where an attribute's text starts in a URI's query
abbrev pub start_in : ℕ → List ℕ → ℕ
start_in a u = cond (has_query u) (start_of a (query_of u)) 0

-- where a URI's query stands, if there is one
abbrev pub query_span : List ℕ → Option Span
query_span u = then_some (has_query u) (record { start = question u + 1; end = length u })

-- a URI of right length and form, whose query starts at a place if there is one
pub record Reached (u : List ℕ) (t : Uri) (start : Option ℕ) : Type 0 where
  pub short : length u ≤ 1024
  pub is : UriIs u t
  pub query : t.query ≡ start

-- whether a span holds anything
abbrev pub is_span : Span → Bool
is_span s = ltb s.start s.end

-- steps 8 to 10 of a query that has its form, by what was found of it
abbrev pub judged : Bool → Bool → Bool → Bool → Option Refusal
judged clash unstreamed outside lacks =
    clash gives Some PidsClash or
    unstreamed gives Some PidsUnstreamed or
    outside gives Some Outside or
    lacks gives Some NoStream or
    None

-- what is wrong with a query that has its form, by what was read of it
abbrev pub verdict_of : Method → Bool → Query → Option Refusal
verdict_of method stream q =
    judged (is_span (get_or q.spans 10 nowhere) && (is_span (get_or q.spans 11 nowhere) || is_span (get_or q.spans 12 nowhere)))
    ((is_span (get_or q.spans 11 nowhere) || is_span (get_or q.spans 12 nowhere)) && not stream)
    (not q.within)
    (lacks_stream method stream true)

-- what a URI without a query asks, by what was read of it
abbrev pub unasked : Method → Uri → Result Aim Refusal
unasked method t =
    cond (lacks_stream method (is_some t.stream) false) (Err NoStream)
    (Ok (record { codes = replicate 13 0; spans = replicate 13 nowhere; stream = t.stream; host = t.host; query = None }))

-- the first refusal that applies
abbrev pub Refuses : ℕ → Method → List ℕ → Refusal → Type 0
Refuses frontends method u refusal = uri_refusal frontends method u ≡ Some refusal

-- what a URI that nothing refuses asks, and where that stands
pub record AimIs (frontends : ℕ) (method : Method) (u : List ℕ) (r : Aim) : Type 0 where
  pub passes : uri_refusal frontends method u ≡ None
  pub stream : r.stream ≡ stream_given u
  pub host : Holds u (host_of u) r.host.start r.host.end
  pub query : IfSome r.query (λ q. Holds u (query_of u) q.start q.end)
  pub thirteen : (length r.codes ≡ 13) × (length r.spans ≡ 13)
  pub codes : (a : ℕ) → get_or r.codes a 0 ≡ code_in frontends a (parts_of u)
  pub spans : (a : ℕ) → Holds (query_of u) (text_in a (parts_of u)) (get_or r.spans a nowhere).start (get_or r.spans a nowhere).end
  pub host_starts : r.host.start ≡ 7
  pub query_place : r.query ≡ query_span u
  pub query_some : is_some r.query ≡ ltb 0 (length (query_of u))
  pub starts : (a : ℕ) → (get_or r.spans a nowhere).start ≡ start_in a u
