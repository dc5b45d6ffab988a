-- What every life keeps: the table is well formed, and the journal, what was collected and the sequence are those of the history. An operation
-- that counts what it writes keeps it, and so does a collection. Assumes nothing.
use Rattle.std.specs.Prelude.{Ok, Err}
use mathlib.Core.Path.{◌≡◌, refl, ◌∙◌, ap}
use mathlib.Core.Bool.{true}
use mathlib.Core.List.{List, [], ◌++◌, append_assoc, append-nil}
use Prim.Native.Nat.{ℕ, ◌+◌, ◌*◌, ◌≤◌, ◌<◌}
use native.Mathlib.Omega.{arith}
use lib.ListN.{length, take, drop, length-append}
use lib.Seq.{take_at, length-take-le}
use Rattle.scan.specs.Lists.{all}
use Rattle.writing.specs.Writing.{written}
use Rattle.writing.proofs.Writes.{written_length}
use Rattle.journal.specs.Records.{is_record}
use Rattle.journal.specs.declared.Record.{Record}
use Rattle.table.specs.Formed.{are_settings}
use Rattle.table.specs.declared.Settings.{Settings}
use Rattle.table.specs.declared.SatBox.{SatBox}
use Rattle.table.specs.Made.{Outcome}
use Rattle.closings.specs.Closing.{Did, bytes_of}
use Rattle.satbox.specs.Calls.{if_done, emptied}
use Rattle.closings.proofs.DoesLaws.{bytes_append, bytes_length}
use Rattle.closings.proofs.Keeping.{Whole}
use Rattle.satbox.proofs.Kept.{fresh_whole}
use Rattle.serving.proofs.RecordLaws.{CountsOn}
use Rattle.serving.proofs.Recorded.{Recorded}
use Rattle.promises.proofs.Written.{Counted}
use Rattle.lives.specs.Calls.{Lent, own, lent, own_after, Life, life_after}
use Rattle.lives.proofs.Lived.{worked, emptied_into}
use Rattle.lives.proofs.Fitting.{all_both}
use Rattle.lives.proofs.Journals.{take_written, counts_both}

pub record Good (settings : Settings) (x : Life) : Type 0 where
  pub whole : Whole x.satbox
  pub set : x.satbox.settings ≡ settings
  pub clock : x.satbox.clock < 4294967296
  pub journal : length x.journal ≡ settings.size
  pub held : x.satbox.held ≡ 16 * length x.since
  pub text : take x.satbox.held x.journal ≡ bytes_of x.since
  pub sequence : CountsOn 0 x.history x.satbox.sequence
  pub recorded : all is_record x.history ≡ true
  pub past : List Record
  pub split : x.history ≡ past ++ x.since
  pub gathered : x.gathered ≡ bytes_of past

size_of : {a b : Settings} → a ≡ b → a.size ≡ b.size
size_of e = ap (λ (s : Settings). s.size) e

pub sized : {settings : Settings} {x : Life} → Good settings x → x.satbox.settings.size ≡ settings.size
sized g = size_of g.set

-- A FRESH BOX
pub born_good : (settings : Settings) (j : List ℕ) → are_settings settings ≡ true → length j ≡ settings.size → Good settings (life_after settings j [])
born_good settings j e h =
    record {
      whole = fresh_whole settings e;
      set = refl;
      clock = omega arith;
      journal = h;
      held = refl;
      text = refl;
      sequence = refl;
      recorded = refl;
      past = [];
      split = refl;
      gathered = refl;
    }

-- what is known of an operation that a call does
pub record Works (t : SatBox) (d : Did) : Type 0 where
  pub whole : Whole d.satbox
  pub counted : Counted t d
  pub recorded : Recorded t d
  pub settings : d.satbox.settings ≡ t.settings
  pub clock : d.satbox.clock < 4294967296

module _ {settings : Settings} {x : Life} (g : Good settings x) where
  pub same_good : {o : Outcome} → Good settings (record { outcome = o; records = []; satbox = x.satbox; journal = x.journal; history = x.history ++ []; since = x.since ++ []; gathered = x.gathered ++ [] })
  same_good =
      record {
        whole = g.whole;
        set = g.set;
        clock = g.clock;
        journal = g.journal;
        held = rw append-nil g.held;
        text = rw append-nil g.text;
        sequence = rw append-nil g.sequence;
        recorded = rw append-nil g.recorded;
        past = g.past;
        split = simp append-nil g.split;
        gathered = rw append-nil g.gathered;
      }

  done_good : (d : Did) → Works x.satbox d → Good settings (worked own (Ok tt) d x)
  done_good d w =
      let t = x.satbox in
      let new = bytes_of d.records in
      let n = bytes_length d.records in
      let held : d.satbox.held ≡ t.held + length new = omega (arith, n, w.counted.held) in
      let fits : t.held + length new ≤ length x.journal = omega (arith, held, w.whole.formed.fits.bound, size_of w.settings, sized g, g.journal) in
      record {
        whole = w.whole;
        set = w.settings ∙ g.set;
        clock = w.clock;
        journal = written_length x.journal t.held new ∙ g.journal;
        held = rw length-append (omega (arith, w.counted.held, g.held));
        text = rw (held, take_written x.journal t.held new fits, g.text, bytes_append) refl;
        sequence = counts_both 0 t.sequence d.satbox.sequence x.history d.records g.sequence w.counted.sequence;
        recorded = all_both is_record x.history d.records g.recorded w.recorded;
        past = g.past;
        split = rw g.split (append_assoc g.past x.since d.records);
        gathered = rw append-nil g.gathered;
      }

  pub worked_good : (o : Outcome) (d : Did) → Works x.satbox d → Good settings (worked own o d x)
  worked_good (Ok o) d w = done_good d w
  worked_good (Err r) d w = same_good

  -- A COLLECTION
  pub collected_good : (o : Outcome) (b : List ℕ) → Whole (if_done o (emptied x.satbox) x.satbox) → Good settings (emptied_into own o b x)
  unfolding emptied
  collected_good (Err r) b w = same_good
  collected_good (Ok o) b w =
      let t = x.satbox in
      let n : length (take t.held x.journal) ≡ t.held = length-take-le t.held x.journal (omega (arith, g.whole.formed.fits.bound, sized g, g.journal)) in
      record {
        whole = w;
        set = g.set;
        clock = g.clock;
        journal = g.journal;
        held = refl;
        text = refl;
        sequence = rw append-nil g.sequence;
        recorded = rw append-nil g.recorded;
        past = x.history;
        split = refl;
        gathered = rw (take_at (take t.held x.journal) (drop t.held b) t.held n, g.text, g.split, bytes_append g.past x.since, g.gathered);
      }
