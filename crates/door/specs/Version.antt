-- The version, as C compares it with its header. Assumes nothing.
use Rattle.std.specs.Prelude.{ℕ, ◌+◌, ◌*◌}

-- version a.b: a in the upper sixteen bits, b in the lower; the file VERSION has the same
abbrev pub version_number : ℕ
version_number = 1 * 65536 + 4
