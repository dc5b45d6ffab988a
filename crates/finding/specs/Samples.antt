-- Samples of the meanings, by computation: what is free, and numbers that are drawn. Assumes nothing.
use Rattle.std.specs.Prelude.{◌≡◌, List, [], ◌∷◌, replicate, refl}
use Rattle.stream.specs.Streams.{blank}
use Rattle.table.specs.Table.{no_session, has_number}
use Rattle.table.specs.Samples.{owner, joiner, places, rows, box}
use Rattle.table.specs.declared.SatBox.{SatBox}
use Rattle.stream.specs.declared.Stream.{Stream}
use Rattle.finding.specs.Finding.{lowest_place, lowest_id, choice, drawn}
use Rattle.scan.specs.Lists.{first}

-- P3: "draw 0 gives 00000001"
pub p3 : drawn (places []) 0 ≡ 1
unfolding drawn
p3 = refl

-- P4: "draw 4294967295 while FFFFFFFF is open gives the first free from 1"
pub p4 : (drawn (places (owner 4294967295 ∷ [])) 4294967295 ≡ 1) × (drawn (places (owner 4294967295 ∷ joiner 1 ∷ [])) 4294967295 ≡ 2)
unfolding drawn
p4 = (refl, refl)

-- "the lowest free place" and ID: in a gap, and where there is none
pub places_free : (lowest_place (places (owner 1 ∷ no_session ∷ joiner 2 ∷ [])) ≡ 1) × (lowest_place (replicate 32 (owner 1)) ≡ 32) × (first (has_number 2) (places (owner 1 ∷ no_session ∷ joiner 2 ∷ [])) ≡ 2)
places_free = (refl, refl, refl)

pub ids_free : (lowest_id (rows (blank 2 ∷ [])) ≡ 2) × (lowest_id (replicate 8 (blank 1)) ≡ 9)
ids_free = (refl, refl)

-- order 1, EDGES-02 1.1: "fewest sources" is the size of the whole set: {1, 2, 3, 4}, {1, 3} and {1} are taken in the order 3, 2, 1
abbrev eyes : List Stream → SatBox
eyes ms =
    record {
      sessions = places [];
      streams = rows ms;
      settings = record { size = 1024; frontends = 3; spare = 0; reach = 15 ∷ 5 ∷ 1 ∷ 0 ∷ 0 ∷ 0 ∷ 0 ∷ 0 ∷ [] };
      held = 0;
      clock = 0;
      sequence = 0;
      spare = 0;
    }

pub fewest : (choice (eyes []) 1 ≡ 3) × (choice (eyes (blank 3 ∷ [])) 1 ≡ 2) × (choice (eyes (blank 3 ∷ blank 2 ∷ [])) 1 ≡ 1) × (choice (eyes (blank 3 ∷ blank 2 ∷ blank 1 ∷ [])) 1 ≡ 0) × (choice (eyes []) 3 ≡ 2) × (choice (eyes []) 4 ≡ 1)
unfolding choice
fewest = (refl, refl, refl, refl, refl, refl)

-- with all sets full it is the lowest that is free
pub all_full : (choice (box 0 0 [] (blank 2 ∷ [])) 4 ≡ 1) × (choice (box 0 0 [] (blank 1 ∷ [])) 4 ≡ 2) × (choice (box 0 0 [] (blank 2 ∷ blank 1 ∷ [])) 4 ≡ 0)
unfolding choice
all_full = (refl, refl, refl)
