-- The auditor's answers and the table agree after every call of every life. Assumes nothing.
use Rattle.std.specs.Prelude.{Ok, Err}
use mathlib.Core.Path.{◌≡◌, refl}
use mathlib.Core.Bool.{true}
use mathlib.Core.List.{List, [], ◌∷◌, ◌++◌}
use Prim.Native.Nat.{ℕ}
use borrow.Author.Tests.{ltb-true}
use Rattle.scan.specs.Lists.{all}
use Rattle.scan.proofs.Bools.{and_both}
use Rattle.journal.specs.declared.Record.{Record}
use Rattle.table.specs.Made.{fresh, Outcome}
use Rattle.table.specs.declared.Settings.{Settings}
use Rattle.table.specs.declared.SatBox.{SatBox}
use Rattle.closings.specs.Closing.{Did, sweeping}
use Rattle.satbox.specs.Calls.{if_done, tick_outcome, collect_outcome, ticked, emptied, collected, request_outcome, requested, replied}
use Rattle.lives.specs.Calls.{lent, Call, request, tick, collect, order, is_short, is_call, Life, live, run, Lives, life_after}
use Rattle.lives.specs.Audit.{Agree, empty, Leads, begun, quiet}
use Rattle.lives.proofs.Lived.{lived, lived_as}
use Rattle.lives.proofs.Holding.{Good, born_good}
use Rattle.lives.proofs.Running.{live_good}
use Rattle.lives.proofs.Agreeing.{agree_emptied}
use Rattle.lives.proofs.Chains.{Watched, leads_agree, leads_then, watched_quiet, sweeping_watched}
use Rattle.lives.proofs.Watching.{requested_watched}

-- A FRESH BOX holds nothing
born_agree : (settings : Settings) → Agree [] (fresh settings)
born_agree settings = record { same = λ f n z. refl }

-- EACH CALL
done_leads : (o : Outcome) (d : Did) (h : List Record) (t : SatBox) → Watched t d → Agree h t → Leads h t (h ++ if_done o d.records []) (if_done o d.satbox t)
done_leads (Ok o) d h t w g = w h g
done_leads (Err r) d h t w g = watched_quiet (begun g)

emptied_leads : (o : Outcome) (h : List Record) (t : SatBox) → Agree h t → Leads h t (h ++ []) (if_done o (emptied t) t)
emptied_leads (Ok o) h t g = watched_quiet (quiet (begun g) empty (agree_emptied t g))
emptied_leads (Err r) h t g = watched_quiet (begun g)

module _ {settings : Settings} {x : Life} (g : Good settings x) (a : Agree x.history x.satbox) where
  lived_leads : (c : Call) → is_call settings.size c ≡ true → Leads x.history x.satbox (lived_as c x).history (lived_as c x).satbox
  lived_leads (request s clock address draw b l) e =
      let short = ltb-true draw 4294967296 (and_both (is_short draw) _ (and_both (is_short address) _ (and_both (is_short clock) _ e).1).1).0 in
      done_leads (request_outcome x.satbox (lent l x.journal) b) (requested s clock address draw x.satbox).did x.history x.satbox (requested_watched s clock address draw short x.satbox g.whole) a
  lived_leads (tick clock l) e =
      done_leads (tick_outcome x.satbox (lent l x.journal)) (sweeping clock x.satbox) x.history x.satbox (sweeping_watched clock x.satbox g.whole) a
  lived_leads (collect b l) e = emptied_leads (collect_outcome x.satbox (lent l x.journal) b) x.history x.satbox a
  lived_leads (order n) e = watched_quiet (begun a)

  pub live_leads : (c : Call) → is_call settings.size c ≡ true → Leads x.history x.satbox (live c x).history (live c x).satbox
  live_leads c e = rw (lived c x) (lived_leads c e)

-- ALL OF THEM
run_leads : {settings : Settings} (cs : List Call) {x : Life} → all (is_call settings.size) cs ≡ true → Good settings x → Agree x.history x.satbox → Leads x.history x.satbox (run cs x).history (run cs x).satbox
run_leads [] e g a = begun a
run_leads {settings = settings} (c ∷ cs) {x} e g a =
    let p = and_both (is_call settings.size c) _ e in
    let first = live_leads g a c p.0 in
    leads_then first (run_leads cs p.1 (live_good g c p.0) (leads_agree first))

pub after_leads : {settings : Settings} {j : List ℕ} {cs : List Call} → Lives settings j cs → Leads [] (fresh settings) (life_after settings j cs).history (life_after settings j cs).satbox
after_leads {settings} {j} {cs} h =
    run_leads cs h.calls (born_good settings j h.sizes h.journal) (born_agree settings)
