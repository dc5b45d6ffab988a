-- Document 01: "The request program makes a box with F = 2, C = 1,024, clock 0, address 192.168.178.39, draw 1, reads one request from
-- standard input and writes the answer." Order 1 of document 02: "In the request program each reaches all four." Assumes nothing.
use Rattle.std.specs.Prelude.{ℕ, List}
use Rattle.table.specs.Made.{settings_of, fresh}
use Rattle.satbox.specs.Calls.{answer_of}

-- the answer to a request's bytes
abbrev pub printed : List ℕ → List ℕ
printed s = answer_of s 0 0xC0A8B227 1 (fresh (settings_of 2 1024))
