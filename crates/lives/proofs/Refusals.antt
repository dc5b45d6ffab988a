-- Which refusals a call on a well-formed box can get: never 1, and 2 exactly if its journal is of another length. Assumes nothing.
use Rattle.std.specs.Prelude.{Option, Result, Ok, Err}
use mathlib.Core.Path.{◌≡◌, refl}
use mathlib.Core.Bool.{Bool, true, false, not, ◌&&◌}
use mathlib.Core.Logic.{◌↔◌}
use Prim.Native.Nat.{ℕ, suc}
use native.Mathlib.Omega.{arith}
use lib.Dec.{ltb}
use lib.ListN.{length}
use Rattle.scan.specs.Lists.{is_between, first}
use Rattle.scan.proofs.Bools.{never, cond_keeps}
use Rattle.stream.specs.Values.{are_complete}
use Rattle.table.specs.Table.{any, stream_of}
use Rattle.table.specs.Formed.{well_formed}
use Rattle.table.specs.declared.SatBox.{SatBox}
use Rattle.table.specs.declared.Refusal.{Refusal}
use Rattle.table.specs.declared.Refusal.TheVariants.{Table, Journal, Answer, Buffer}
use Rattle.orders.specs.Orders.{order_of}
use Rattle.stream.specs.declared.Stream.{Stream}
use Rattle.satbox.specs.Calls.{◌else◌and_then◌, is_journal, ticked, collected, replied}
use Rattle.lives.specs.Calls.{lent, Call, request, tick, collect, order, told, lacks_journal, Life, live}
use Rattle.lives.proofs.Lived.{lived, lived_as}
use Rattle.table.specs.Made.{number_in, Outcome}

-- what stands behind the tests of 1 and 2 refuses by neither
abbrev Past : Outcome → Type 0
Past o = (number_in o ≡ 1 → ⊥) × (number_in o ≡ 2 → ⊥)

past_done : Past (Ok tt)
past_done = (λ e. omega arith, λ e. omega arith)

last_test : (b : Bool) (r : Refusal) → Past (Err r) → Past (b else r and_then Ok tt)
last_test true r h = past_done
last_test false r h = h

-- on a well-formed table, with a journal that is of length C or not
abbrev Gated : Bool → Outcome → Type 0
Gated lacks o = (number_in o ≡ 1 → ⊥) × ((number_in o ≡ 2) ↔ (lacks ≡ true))

gated : (formed journal : Bool) (o : Outcome) → formed ≡ true → Past o → Gated (not journal) (formed else Table and_then journal else Journal and_then o)
gated false journal o f h = never f refl
gated true true o f h = (h.0, (λ e. absurd (h.1 e), λ e. never e refl))
gated true false o f h = (λ e. omega arith, (λ e. refl, λ e. refl))

-- a frontend order is lent no journal
ungated : (o : Outcome) → Past o → Gated false o
ungated o h = (h.0, (λ e. absurd (h.1 e), λ e. never e refl))

order_past : (t : SatBox) (n : ℕ) → well_formed t ≡ true → Past (told (order_of t n))
unfolding order_of
order_past t n f =
    rw f (cond_keeps (λ (o : Result (Option Stream) Refusal). Past (told o)) (is_between 1 t.settings.frontends n) _ _ (λ e. past_done) (λ e. (λ y. omega arith, λ y. omega arith)))

-- EVERY CALL
module _ (x : Life) (f : well_formed x.satbox ≡ true) where
  lived_gated : (c : Call) → Gated (lacks_journal x.satbox.settings.size c x.journal) (lived_as c x).outcome
  lived_gated (request s clock address draw b l) =
      gated (well_formed x.satbox) (is_journal x.satbox (lent l x.journal)) _ f (last_test (not (ltb (length b) 4096)) Answer (λ e. omega arith, λ e. omega arith))
  lived_gated (tick clock l) = gated (well_formed x.satbox) (is_journal x.satbox (lent l x.journal)) (Ok tt) f past_done
  lived_gated (collect b l) =
      gated (well_formed x.satbox) (is_journal x.satbox (lent l x.journal)) _ f (last_test (not (ltb (length b) x.satbox.held)) Buffer (λ e. omega arith, λ e. omega arith))
  lived_gated (order n) = ungated (told (order_of x.satbox n)) (order_past x.satbox n f)

  pub call_gated : (c : Call) → Gated (lacks_journal x.satbox.settings.size c x.journal) (live c x).outcome
  call_gated c = rw (lived c x) (lived_gated c)
