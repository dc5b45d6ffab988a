-- The journal after some records were written behind the bytes held: those bytes, and then the records'. Assumes nothing.
use mathlib.Core.Path.{◌≡◌}
use mathlib.Core.List.{List, [], ◌∷◌, ◌++◌, append_assoc}
use Prim.Native.Nat.{ℕ, zero, suc, ◌+◌, ◌%◌, ◌≤◌, ◌<◌}
use native.Mathlib.Omega.{arith}
use lib.ListN.{length, take, drop, get_or, length-append}
use lib.Seq.{length-take-le, take_at}
use Rattle.writing.specs.Writing.{written}
use Rattle.writing.proofs.Writes.{written_fits}
use Rattle.journal.specs.Records.{next_sequence}
use Rattle.journal.specs.declared.Record.{Record}
use Rattle.serving.proofs.RecordLaws.{CountsOn}

pub take_written : (j : List ℕ) (held : ℕ) (t : List ℕ) → held + length t ≤ length j → take (held + length t) (written j held t) ≡ take held j ++ t
take_written j held t h =
    let n : length (take held j ++ t) ≡ held + length t = rw length-append (omega (arith, length-take-le held j (omega arith))) in
    rw (written_fits j held t h, ← append_assoc) (take_at (take held j ++ t) (drop (held + length t) j) (held + length t) n)

-- each record of a history that counts on from q has for its sequence number q and its place, "wraps after 65535"
pub counts_at : (q next : ℕ) (rs : List Record) (d : Record) → q < 65536 → CountsOn q rs next → (i : ℕ) → i < length rs → (get_or rs i d).sequence ≡ (q + i) % 65536
counts_at q next [] d b e i h = absurd (omega arith)
counts_at q next (r ∷ rs) d b e zero h = omega (arith, e.0)
counts_at q next (r ∷ rs) d b e (suc i) h = omega (arith, counts_at (next_sequence q) next rs d (omega arith) e.1 i (omega arith))

-- and the next one has their number
pub counts_next : (q next : ℕ) (rs : List Record) → q < 65536 → CountsOn q rs next → next ≡ (q + length rs) % 65536
counts_next q next [] b e = omega arith
counts_next q next (r ∷ rs) b e = omega (arith, counts_next (next_sequence q) next rs (omega arith) e.1)

pub counts_both : (q m n : ℕ) (a b : List Record) → CountsOn q a m → CountsOn m b n → CountsOn q (a ++ b) n
counts_both q m n [] b e p = rw e at p
counts_both q m n (r ∷ a) b e p = (e.0, counts_both (next_sequence q) m n a b e.1 p)
