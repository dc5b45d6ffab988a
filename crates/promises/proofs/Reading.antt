-- What steps 1 to 10 let through has values and a port as a table may hold them, and so the laws that ask for it hold of any bytes.
-- Assumes nothing.
use mathlib.Core.Path.{◌≡◌}
use mathlib.Core.Bool.{true}
use mathlib.Core.List.{List}
use Prim.Native.Nat.{ℕ, ◌%◌, ◌<◌}
use borrow.Author.Tests.{eq-eqb, le-leb}
use Rattle.scan.proofs.Bools.{both}
use Rattle.lines.specs.Lines.{header_lines}
use Rattle.lines.specs.Headers.{values_of}
use Rattle.lines.specs.Laid.{first_value}
use Rattle.reader.specs.Fields.{transport_of}
use Rattle.std.specs.Prelude.{Some}
use Rattle.table.specs.declared.SatBox.{SatBox}
use Rattle.steps.proofs.Telling.{asked_fit, asked_port}
use Rattle.satbox.specs.Calls.{requested, replied}
use Rattle.closings.proofs.Keeping.{Whole}
use Rattle.serving.proofs.Recorded.{Recorded}
use Rattle.serving.proofs.Kept.{is_port}
use Rattle.promises.proofs.Requests.{Reads, requested_whole, replied_whole}
use Rattle.promises.proofs.Written.{requested_recorded}

port_read : (v : List ℕ) (p : ℕ) → transport_of v ≡ Some p → is_port p ≡ true
port_read v p e =
    let h = asked_port v p e in
    both (both (le-leb 1024 p h.0) (le-leb p 65534 h.1)) (eq-eqb (p % 2) 0 h.2)

pub reads : Reads
reads frontends s e =
    record { codes = asked_fit frontends s; port = port_read (first_value (values_of 2 (header_lines s))) }

-- ANY REQUEST, of any bytes s, at any clock, from any address, with any 32-bit draw, on a well-formed table (`Whole`)
module _ (s : List ℕ) (clock address draw : ℕ) (short : draw < 4294967296) (t : SatBox) (w : Whole t) where
  -- the table stays well formed after it,
  pub request_whole : Whole (requested s clock address draw t).did.satbox
  request_whole = requested_whole reads s address draw short clock t w

  -- and after its call, with any answer buffer and any journal;
  pub reply_whole : (b j : List ℕ) → Whole (replied s clock address draw t b j).satbox
  reply_whole b j = replied_whole reads s address draw short clock t b j w

  -- and all that it writes are records
  pub request_recorded : Recorded t (requested s clock address draw t).did
  request_recorded = requested_recorded reads s address draw short clock t w
