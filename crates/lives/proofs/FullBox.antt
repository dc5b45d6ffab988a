-- STATEMENT 5 IS MET, both ways, by P9's life: with F = 2 and C = 1,024 one session is opened and closed again and again, and nothing is collected.
-- Where a proof is `refl`, both sides come to the same when they are worked out. Assumes nothing.
use Prim.Native.Nat.{ℕ, ◌+◌, ◌*◌, ◌≤◌, ◌<◌}
use mathlib.Core.Path.{◌≡◌, refl, sym, ap, subst, ◌∙◌}
use mathlib.Core.List.{List, [], ◌∷◌, map}
use native.Mathlib.Omega.{arith}
use lib.ListN.{length, replicate}
use borrow.Author.Tests.{eq-eqb}
use Rattle.std.specs.Prelude.{None, Option, Some}
use Rattle.refusals.specs.declared.Refusal.TheVariants as refusal
use Rattle.reader.specs.Request.{request_refusal}
use Rattle.journal.specs.Records.{record_size}
use Rattle.table.specs.Table.{open_count}
use Rattle.table.specs.Made.{settings_of}
use Rattle.table.specs.declared.SatBox.{SatBox}
use Rattle.steps.specs.Sights.{asked_of, lists_of}
use Rattle.steps.specs.Steps.{status_of}
use Rattle.steps.specs.declared.cases.Case.{Case}
use Rattle.steps.specs.declared.cases.Case.TheVariants.{Full}
use Rattle.closings.specs.Closing.{sweeping}
use Rattle.satbox.specs.Calls.{requested, replied}
use Rattle.closings.proofs.Keeping.{whole_formed}
use Rattle.promises.proofs.Asks.{example, box, home, after as asked}
use Rattle.promises.proofs.Edges.{meanings, rounds}
use Rattle.lives.specs.Calls.{own, Call, request, Life, live, run, Lives, life_after}
use Rattle.lives.specs.Closed.{PassesElse}
use Rattle.lives.proofs.Holding.{Good, sized, born_good}
use Rattle.lives.proofs.Running.{live_good}
use Rattle.lives.proofs.Lives.{refused_for_room, passed_with_room}

-- a request at clock 0, from P9's client and with draw 1, with an answer buffer of 4,096 bytes and the box's own journal
abbrev pub asking : List ℕ → Call
asking s = request s 0 home 1 (replicate 4096 0) own

-- the example and its TEARDOWN, n times (`Edges.rounds`)
abbrev pub calls : ℕ → List Call
calls n = map asking (rounds n)

abbrev pub journal : List ℕ
journal = replicate 1024 0

abbrev pub life : ℕ → Life
life n = life_after (settings_of 2 1024) journal (calls n)

-- the box then, after expired sessions are closed
abbrev pub swept : ℕ → SatBox
swept n = (sweeping 0 (life n).satbox).satbox

-- n ROUNDS AND THE EXAMPLE ONCE MORE: what statement 5 asks for, which are the first three; the bytes held, 16 for each open session and 32; and what
-- the example comes to
pub record Meets (n room : ℕ) (case : Option Case) (status : ℕ) : Type 0 where
  pub lives : Lives (settings_of 2 1024) journal (calls n)
  pub read : request_refusal 2 example ≡ None
  pub else : PassesElse (swept n) (asked_of 2 example) (lists_of example)
  pub needed : (swept n).held + record_size * open_count (swept n) + 2 * record_size ≡ room
  pub is : (requested example 0 home 1 (life n).satbox).case ≡ case
  pub answered : status_of case ≡ status

-- a request that is lent the box's journal and a long enough buffer does what it is to do, and so do any in a row
asking_does : {x : Life} → Good (settings_of 2 1024) x → (s : List ℕ) → (live (asking s) x).satbox ≡ (requested s 0 home 1 x.satbox).did.satbox
unfolding live replied
asking_does {x} g s =
    rw (whole_formed x.satbox g.whole, eq-eqb (length x.journal) x.satbox.settings.size (g.journal ∙ sym (sized g)))

all_do : {x : Life} → Good (settings_of 2 1024) x → (ss : List (List ℕ)) → (run (map asking ss) x).satbox ≡ asked 1 ss x.satbox
all_do g [] = refl
all_do {x = x} g (s ∷ ss) = all_do {x = live (asking s) x} (live_good g (asking s) refl) ss ∙ ap (asked 1 ss) (asking_does g s)

-- the box after n rounds: nobody is open, and the two records of each are held
abbrev idle : ℕ → SatBox
idle n =
    record {
      sessions = box.sessions;
      streams = box.streams;
      settings = settings_of 2 1024;
      held = 32 * n;
      clock = 0;
      sequence = 2 * n;
      spare = 0;
    }

example_read : request_refusal 2 example ≡ None
unfolding meanings
example_read = refl

-- where the rounds lead there, nothing expires, and every other check is passed, the rest is statement 5's to say
module _ (n : ℕ) (lives : Lives (settings_of 2 1024) journal (calls n)) (leads : asked 1 (rounds n) box ≡ idle n) (young : (sweeping 0 (idle n)).satbox ≡ idle n)
    (else : PassesElse (idle n) (asked_of 2 example) (lists_of example)) where
  swept_idle : swept n ≡ idle n
  swept_idle = ap (λ t. (sweeping 0 t).satbox) (all_do (born_good (settings_of 2 1024) journal refl refl) (rounds n) ∙ leads) ∙ young

  passes_else : PassesElse (swept n) (asked_of 2 example) (lists_of example)
  passes_else = subst (λ t. PassesElse t (asked_of 2 example) (lists_of example)) (sym swept_idle) else

  needs : (swept n).held + record_size * open_count (swept n) + 2 * record_size ≡ 32 * n + 32
  needs = ap (λ t. t.held + 16 * open_count t + 32) swept_idle ∙ omega arith

  meets : (case : Option Case) → (requested example 0 home 1 (life n).satbox).case ≡ case → Meets n (32 * n + 32) case (status_of case)
  meets case e = record { lives = lives; read = example_read; else = passes_else; needed = needs; is = e; answered = refl }

  meets_passed : 32 * n + 32 ≤ 1024 → Meets n (32 * n + 32) None 200
  meets_passed h =
      meets None (passed_with_room (settings_of 2 1024) journal (calls n) lives example 0 home 1 example_read passes_else (omega (arith, needs)))

  meets_full : 1024 < 32 * n + 32 → Meets n (32 * n + 32) (Some Full) 503
  meets_full h =
      meets (Some Full) ((refused_for_room (settings_of 2 1024) journal (calls n) lives example 0 home 1 example_read passes_else).1 (omega (arith, needs)))

-- GRANTED AT THE LAST BYTE: after 31 rounds 992 bytes are held, and with 32 they are C
pub granted : Meets 31 1024 None 200
unfolding meanings
granted =
    meets_passed 31 (record { sizes = refl; journal = refl; calls = refl }) refl refl
    (record { opening = refl; seen = refl; query = refl; src = refl; place = refl; frontend = λ z. refl }) (omega arith)

-- REFUSED FOR ROOM ALONE, step 18: after 32 rounds C bytes are held
pub refused : Meets 32 1056 (Some Full) 503
unfolding meanings
refused =
    meets_full 32 (record { sizes = refl; journal = refl; calls = refl }) refl refl
    (record { opening = refl; seen = refl; query = refl; src = refl; place = refl; frontend = λ z. refl }) (omega arith)
