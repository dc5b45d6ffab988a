-- What the known headers say, read off their places. Assumes nothing.
use mathlib.Core.Path.{◌≡◌, refl, ap, ap₂, ◌∙◌, sym}
use mathlib.Core.Bool.{Bool, true, false}
use mathlib.Core.List.{List}
use Prim.Native.Nat.{ℕ, ◌+◌, ◌≤◌}
use native.Mathlib.Omega.{arith}
use lib.ListN.{length, drop, drop_of_length-le}
use Rattle.scan.specs.Text.{text, is}
use Rattle.scan.specs.Lists.{part}
use Rattle.scan.specs.Found.{FirstOf}
use Rattle.scan.proofs.Parts.{part_rest}
use Rattle.digits.specs.Reading.{read_number, at_least, read_hex8}
use Rattle.std.specs.Prelude.{Option, Some, None}
use Rattle.digits.specs.declared.Zeros.TheVariants.{Refused}
use Rattle.target.specs.Uri.{starts_with}
use Rattle.reader.specs.Fields.{session_from, port_from, ports_in, transport_of}
use Rattle.reader.specs.Heads.{session_in}

pub session_read : (v : List ℕ) {k : ℕ} {n r : Option ℕ} → FirstOf (is 59) v k → n ≡ read_hex8 (part 0 k v) → n ≡ r → session_from r ≡ session_in v
session_read v f e q = rw (← f.is, ← e, q)

-- no text is no number, so without a dash there is no second port
no_digits : read_number Refused 5 65535 (text "") ≡ None
unfolding read_number
no_digits = refl

second_none : (a : Option ℕ) → port_from a None ≡ None
second_none (Some v) = refl
second_none None = refl

module _ (ports : List ℕ) {k : ℕ} (f : FirstOf (is 45) ports k) where
  pub ports_undashed : k ≡ length ports → None ≡ ports_in ports
  ports_undashed e =
      let none : drop (k + 1) ports ≡ text "" = drop_of_length-le ports {i = k + 1} (omega arith) in
      rw (← f.is) (sym (ap (λ b. port_from (at_least 1024 (read_number Refused 5 65534 (part 0 k ports))) b) (ap (read_number Refused 5 65535) none ∙ no_digits) ∙ second_none (at_least 1024 (read_number Refused 5 65534 (part 0 k ports)))))

  pub ports_dashed : k + 1 ≤ length ports → {a b c : Option ℕ} {r : Option ℕ} → a ≡ read_number Refused 5 65534 (part 0 k ports) → b ≡ read_number Refused 5 65535 (part (k + 1) (length ports) ports)
      → c ≡ at_least 1024 a → r ≡ port_from c b → r ≡ ports_in ports
  ports_dashed h p q d e =
      e ∙ ap₂ port_from (d ∙ ap (at_least 1024) p) (q ∙ ap (read_number Refused 5 65535) (part_rest (k + 1) (length ports) ports (omega arith)))
      ∙ ap (λ j. port_from (at_least 1024 (read_number Refused 5 65534 (part 0 j ports))) (read_number Refused 5 65535 (drop (j + 1) ports))) f.is

module _ (v : List ℕ) {t : Bool} (e : t ≡ starts_with (text "RTP/AVP;unicast;client_port=") v) where
  pub transport_other : t ≡ false → None ≡ transport_of v
  unfolding transport_of
  transport_other n = rw (sym e ∙ n)

  pub transport_ports : t ≡ true → {r : Option ℕ} → r ≡ ports_in (part 28 (length v) v) → r ≡ transport_of v
  unfolding transport_of
  transport_ports y q = rw (sym e ∙ y) (q ∙ ap ports_in (part_rest 28 (length v) v (omega arith)))
