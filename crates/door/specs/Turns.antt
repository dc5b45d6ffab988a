-- What C gets of a call: a refusal's number, 0 where the call was done, and what was counted; of a record the record, or the bytes. Assumes nothing.
use Rattle.std.specs.Prelude.{ℕ, List, replicate, Option, Some, None, Result, Ok, Err}
use Rattle.stream.specs.Streams.{no_stream}
use Rattle.stream.specs.declared.Stream.{Stream}
use Rattle.table.specs.Made.{refusal_number}
use Rattle.table.specs.declared.Refusal.{Refusal}
use Rattle.door.specs.declared.turns.Reply.{Reply}
use Rattle.door.specs.declared.turns.Ordered.{Ordered}
use Rattle.journal.specs.Records.{record_size, record_refusal, write_of}
use Rattle.journal.specs.declared.Record.{Record}
use Rattle.journal.specs.declared.Refusal.{Refusal as Unrecorded}
use Rattle.door.specs.declared.records.Found.{Found}
use Rattle.door.specs.declared.records.Noted.{Noted}

abbrev pub reply_of : Result ℕ Refusal → Reply
reply_of (Ok count) = record { refusal = 0; count = count }
reply_of (Err refusal) = record { refusal = refusal_number refusal; count = 0 }

-- the stream of an order that is off is none, and so is that of a refusal
abbrev pub ordered_as : Result (Option Stream) Refusal → Ordered
ordered_as (Ok (Some m)) = record { refusal = 0; on = 1; stream = m }
ordered_as (Ok None) = record { refusal = 0; on = 0; stream = no_stream }
ordered_as (Err refusal) = record { refusal = refusal_number refusal; on = 0; stream = no_stream }

abbrev pub no_record : Record
no_record = record { kind = 0; cause = 0; clock = 0; session = 0; stream = 0; frontend = 0; sequence = 0 }

abbrev pub read_from : Result Record Unrecorded → Found
read_from (Ok r) = record { refusal = 0; entry = r }
read_from (Err refusal) = record { refusal = record_refusal refusal; entry = no_record }

-- the bytes of a refusal are zeros
abbrev pub written_as : Result (List ℕ) Unrecorded → Noted
written_as (Ok bytes) = record { refusal = 0; bytes = bytes }
written_as (Err refusal) = record { refusal = record_refusal refusal; bytes = replicate record_size 0 }

abbrev pub write_reply : Record → Noted
write_reply r = written_as (write_of r)
