-- A fresh box refuses no request, so what the call gives is the answer.
use Rattle.std.proofs.Common.{◌≡◌, refl, ap, Result, Ok, is_ok, ℕ, ◌≤◌, List, ◌++◌, length, take, drop, length-append, length-take, arith, eq-eqb}
use borrow.Author.Tests.{le-ltb}
use Rattle.table.specs.Made.{settings_of, fresh, made_of}
use Rattle.table.specs.declared.SatBox.{SatBox}
use Rattle.table.specs.declared.Refusal.{Refusal}
use Rattle.table.proofs.Fresh.{fresh_formed}
use Rattle.satbox.specs.Calls.{request_outcome, replied, replied_into}
use Rattle.satbox.specs.declared.Replied.{Replied}
use Rattle.request.specs.Program.{printed}
use Rattle.request.proofs.answer.Goals as goal
use Rattle.request.proofs.answer.Goals.{After-request-replied}

-- a text counts the bytes that it fills a buffer's front with
counts : (p q : List ℕ) → (length p ≤ length (p ++ q)) × (length p ≡ length (take (length p) (p ++ q)))
counts p q =
    let h = length-append p q in
    (omega (arith, h), omega (arith, h, length-take (length p) (p ++ q)))

-- the box that is made
made : {r : Result SatBox Refusal} → r ≡ made_of (settings_of 2 1024) → r ≡ Ok (fresh (settings_of 2 1024))
unfolding made_of
made e = e

module _ (s b j : List ℕ) (h : length j ≡ 1024) (g : 4096 ≤ length b) where
  -- a fresh box, its journal and a buffer that is long enough are not refused
  done : request_outcome (fresh (settings_of 2 1024)) j b ≡ Ok tt
  done = rw (fresh_formed (settings_of 2 1024) refl, eq-eqb (length j) 1024 h, le-ltb (length b) 4096 g) refl

  module _ {t : SatBox} (e : t ≡ fresh (settings_of 2 1024)) where
    answered : {x : Replied} → x ≡ replied s 0 0xC0A8B227 1 t b j → x.outcome ≡ Ok (length (printed s))
    unfolding replied
    answered p = rw (p, e, done)

    answers : {n : ℕ} {d : List ℕ} → n ≡ length (printed s) → d ≡ replied_into s 0 0xC0A8B227 1 t b j
        → ((n ≡ length (printed s)) × (d ≡ printed s ++ drop n b)) × ((n ≤ length d) × (n ≡ length (take n d)))
    unfolding replied_into
    answers f q = rw (q, f, e, done) ((refl, refl), counts (printed s) (drop (length (printed s)) b))

pub unwrap-satbox-requires : goal.unwrap-satbox-requires
unwrap-satbox-requires c = ap is_ok (made c.fresh.ensures)

module _ (c : After-request-replied) where
  boxed : c.unwrap-satbox.result ≡ fresh (settings_of 2 1024)
  boxed = let e = made c.fresh.ensures in let f = c.unwrap-satbox.ensures in cc

  counted : c.request-replied.result.outcome ≡ Ok (length (printed c.args.request.now))
  counted = answered c.args.request.now c.args.buffer.now _ refl c.requires boxed c.request-replied.ensures.0

pub unwrap-requires : goal.unwrap-requires
unwrap-requires c = ap is_ok (counted (goal.at.unwrap-requires c).After-request-replied)

pub returns : goal.returns
returns c =
    let x = (goal.at.returns c).After-request-replied in
    let n : c.unwrap.result ≡ length (printed c.args.request.now) = (let e = counted x in let f = c.unwrap.ensures in cc) in
    let a = answers c.args.request.now c.args.buffer.now _ refl c.requires (boxed x) n c.request-replied.ensures.1 in
    record { value = a.0; fits = a.1.0; prefix_len = a.1.1 }
