-- That a box as it is made is well formed. Assumes nothing.
use mathlib.Core.Path.{◌≡◌, ap}
use mathlib.Core.Bool.{Bool, true, ◌&&◌}
use native.Mathlib.Omega.{arith}
use borrow.Author.Tests.{le-leb}
use Rattle.stream.specs.Values.{are_none}
use Rattle.stream.specs.Streams.{is_sound, are_zero}
use Rattle.table.specs.Formed.{are_sizes, are_settings, is_blank, well_formed}
use Rattle.table.specs.Reach.{are_sets}
use Rattle.table.specs.Made.{fresh}
use Rattle.table.specs.declared.Settings.{Settings}

pub settings_are : (s : Settings) {b : Bool} → b ≡ are_sets s.frontends s.reach → (are_sizes s && b) ≡ are_settings s
settings_are s e = ap (λ b. are_sizes s && b) e

pub fresh_formed : (s : Settings) → are_settings s ≡ true → well_formed (fresh s) ≡ true
unfolding well_formed is_blank is_sound are_zero are_none
fresh_formed s e = rw e (le-leb 0 s.size (omega arith))
