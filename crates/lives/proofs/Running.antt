-- Each call keeps what every life keeps (`Holding`), and so does any run of them. Assumes nothing.
use Rattle.std.specs.Prelude.{Err}
use mathlib.Core.Path.{◌≡◌, refl, ◌∙◌}
use mathlib.Core.Bool.{Bool, true, false}
use mathlib.Core.List.{List, [], ◌∷◌}
use Prim.Native.Nat.{ℕ}
use native.Mathlib.Omega.{arith}
use borrow.Author.Tests.{ltb-true, not-true}
use Rattle.scan.specs.Lists.{all}
use Rattle.scan.proofs.Bools.{never, and_both}
use Rattle.table.specs.Formed.{well_formed}
use Rattle.table.specs.declared.Settings.{Settings}
use Rattle.table.specs.declared.SatBox.{SatBox}
use Rattle.table.specs.declared.Refusal.{Refusal}
use Rattle.table.specs.declared.Refusal.TheVariants.{Table, Journal}
use Rattle.table.specs.Made.{Outcome}
use Rattle.closings.specs.Closing.{sweeping, at_clock}
use Rattle.satbox.specs.Calls.{◌else◌and_then◌, is_journal, tick_outcome, ticked, ticked_journal, collect_outcome, collected, collected_into, request_outcome, requested, replied, replied_journal}
use Rattle.closings.proofs.Closings.{swept_fine}
use Rattle.closings.proofs.Keeping.{Whole, whole_roomy, clock_whole}
use Rattle.satbox.proofs.Kept.{sweeping_whole, collect_whole}
use Rattle.serving.proofs.RecordLaws.{swept_numbered}
use Rattle.serving.proofs.Recorded.{swept_recorded}
use Rattle.promises.proofs.Reading.{request_whole, request_recorded}
use Rattle.promises.proofs.Written.{Counted}
use Rattle.promises.proofs.Counting.{requested_counted}
use Rattle.lives.specs.Calls.{own, other, Call, request, tick, collect, order, is_short, is_lent, is_call, Life, live, run, Lives, life_after}
use Rattle.lives.proofs.Settings.{sweeping_set, requested_set}
use Rattle.lives.proofs.Lived.{worked, emptied_into, lived_as, lived}
use Rattle.lives.proofs.Holding.{Good, sized, born_good, Works, same_good, worked_good, collected_good}

-- a call that is lent other bytes than the box's journal, of another length, is refused
pub refused_away : (P : Outcome → Type 0) (a b : Bool) (o : Outcome) → b ≡ false → ((r : Refusal) → P (Err r)) → P (a else Table and_then b else Journal and_then o)
refused_away P true true o e h = never refl e
refused_away P true false o e h = h Journal
refused_away P false b o e h = h Table

not_lent : (size : ℕ) (t : SatBox) (k : List ℕ) → t.settings.size ≡ size → is_lent size (other k) ≡ true → is_journal t k ≡ false
not_lent size t k e h = rw e (not-true _ h)

sweeping_counted : (clock : ℕ) (t : SatBox) → Whole t → Counted t (sweeping clock t)
unfolding at_clock
sweeping_counted clock t w =
    let r = whole_roomy (at_clock clock t) (clock_whole clock t w) in
    record { held = (swept_fine (at_clock clock t) r).held; sequence = swept_numbered (at_clock clock t) r }

-- EACH CALL
module _ {settings : Settings} {x : Life} (g : Good settings x) where
  sweeping_works : (clock : ℕ) → is_short clock ≡ true → Works x.satbox (sweeping clock x.satbox)
  sweeping_works clock h =
      let t = x.satbox in
      let f = sweeping_set clock t g.whole in
      record {
        whole = sweeping_whole clock t g.whole;
        counted = sweeping_counted clock t g.whole;
        recorded = swept_recorded (at_clock clock t) (clock_whole clock t g.whole);
        settings = f.settings;
        clock = omega (arith, f.clock, g.clock, ltb-true clock 4294967296 h);
      }

  requested_works : (s : List ℕ) (clock address draw : ℕ) → is_short clock ≡ true → is_short draw ≡ true → Works x.satbox (requested s clock address draw x.satbox).did
  requested_works s clock address draw h short =
      let t = x.satbox in
      let f = requested_set s clock address draw t g.whole in
      let d = ltb-true draw 4294967296 short in
      record {
        whole = request_whole s clock address draw d t g.whole;
        counted = requested_counted s address draw clock t g.whole;
        recorded = request_recorded s clock address draw d t g.whole;
        settings = f.settings;
        clock = omega (arith, f.clock, g.clock, ltb-true clock 4294967296 h);
      }

  lived_good : (c : Call) → is_call settings.size c ≡ true → Good settings (lived_as c x)
  unfolding well_formed collected
  lived_good (request s clock address draw b own) e =
      let p = and_both (is_short clock) _ e in
      let q = and_both (is_short draw) _ (and_both (is_short address) _ p.1).1 in
      worked_good g (request_outcome x.satbox x.journal b) (requested s clock address draw x.satbox).did (requested_works s clock address draw p.0 q.0)
  lived_good (request s clock address draw b (other k)) e =
      let p = and_both (is_short clock) _ e in
      let q = and_both (is_short draw) _ (and_both (is_short address) _ p.1).1 in
      refused_away (λ (o : Outcome). Good settings (worked (other k) o (requested s clock address draw x.satbox).did x)) (well_formed x.satbox) (is_journal x.satbox k) _
      (not_lent settings.size x.satbox k (sized g) q.1) (λ r. same_good g)
  lived_good (tick clock own) e =
      worked_good g (tick_outcome x.satbox x.journal) (sweeping clock x.satbox) (sweeping_works clock (and_both (is_short clock) _ e).0)
  lived_good (tick clock (other k)) e =
      refused_away (λ (o : Outcome). Good settings (worked (other k) o (sweeping clock x.satbox) x)) (well_formed x.satbox) (is_journal x.satbox k) _
      (not_lent settings.size x.satbox k (sized g) (and_both (is_short clock) _ e).1) (λ r. same_good g)
  lived_good (collect b own) e =
      collected_good g (collect_outcome x.satbox x.journal b) b (collect_whole x.satbox x.journal b g.whole)
  lived_good (collect b (other k)) e =
      refused_away (λ (o : Outcome). Good settings (emptied_into (other k) o b x)) (well_formed x.satbox) (is_journal x.satbox k) _
      (not_lent settings.size x.satbox k (sized g) e) (λ r. same_good g)
  lived_good (order n) e = same_good g

  pub live_good : (c : Call) → is_call settings.size c ≡ true → Good settings (live c x)
  live_good c e = rw (lived c x) (lived_good c e)

-- ALL OF THEM
run_good : {settings : Settings} (cs : List Call) {x : Life} → all (is_call settings.size) cs ≡ true → Good settings x → Good settings (run cs x)
run_good [] e g = g
run_good {settings = settings} (c ∷ cs) e g = let p = and_both (is_call settings.size c) _ e in run_good cs p.1 (live_good g c p.0)

pub after_good : {settings : Settings} {j : List ℕ} {cs : List Call} → Lives settings j cs → Good settings (life_after settings j cs)
after_good {settings} {j} {cs} h = run_good cs h.calls (born_good settings j h.sizes h.journal)

-- and the box after expired sessions are closed has its frontends and its size still
module _ {settings : Settings} {j : List ℕ} {cs : List Call} (h : Lives settings j cs) (clock : ℕ) where
  pub swept_set : (sweeping clock (life_after settings j cs).satbox).satbox.settings ≡ settings
  swept_set = (sweeping_set clock (life_after settings j cs).satbox (after_good h).whole).settings ∙ (after_good h).set
