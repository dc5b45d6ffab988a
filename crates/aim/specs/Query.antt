-- "Query: one or more `name=value`, split at the first `=`, joined by `&`, no empty value, no repeated name." Assumes nothing.
use Rattle.std.specs.Prelude.{ℕ, Bool, true, not, cond, ◌&&◌, List, [], ◌∷◌, ltb, eqb, get_or, Option, unwrap_or}
use Rattle.scan.specs.Lists.{all, first}
use Rattle.scan.specs.Text.{cut, before, after, is_empty}
use Rattle.target.specs.Uri.{has_query, query_of}
use Rattle.tuning.specs.Values.{attribute_of, value_of}

-- the parts of a URI's query; none where there is no `?`
abbrev pub parts_of : List ℕ → List (List ℕ)
parts_of u = cond (has_query u) (cut 38 (query_of u)) []

-- the attribute that a part names; 13 where it has no value, or names none
unfoldable pub attribute_in : List ℕ → ℕ
attribute_in p = cond (is_empty (after 61 p)) 13 (attribute_of (before 61 p))

-- each part names an attribute that none before it names; those are taken
abbrev pub are_parts : List ℕ → List (List ℕ) → Bool
are_parts taken [] = true
are_parts taken (p ∷ ps) = ltb (attribute_in p) 13 && (all (λ a. not (eqb (attribute_in p) a)) taken && are_parts (attribute_in p ∷ taken) ps)

-- an attribute's text, empty where it is not given
unfoldable pub text_in : ℕ → List (List ℕ) → List ℕ
text_in a ps = after 61 (get_or ps (first (λ p. eqb (attribute_in p) a) ps) [])

-- and its code, 0 where it is not given
abbrev pub code_from : Option ℕ → ℕ
code_from read = unwrap_or read 0

unfoldable pub code_in : ℕ → ℕ → List (List ℕ) → ℕ
code_in frontends a ps = code_from (value_of frontends a (text_in a ps))
