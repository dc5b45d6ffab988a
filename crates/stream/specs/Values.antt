-- Document 01's table of attributes, as a stream keeps it, with 0 for a value that is missing. Assumes nothing.
use Rattle.std.specs.Prelude.{ℕ, Bool, not, cond, ◌&&◌, ◌||◌, List, [], ◌∷◌, eqb, leb, get_or}
use Rattle.scan.specs.Lists.{is_between, all}
use Rattle.stream.specs.declared.Values.{Values}

-- all are missing but src; and with a src of 0 that too, where no stream is
abbrev pub only_src : ℕ → Values
only_src src = record { src = src; freq = 0; pol = 0; msys = 0; mtype = 0; plts = 0; ro = 0; sr = 0; fec = 0 }

-- "all zeros"
abbrev pub is_zero : ℕ → Bool
is_zero n = eqb n 0

unfoldable pub are_none : Values → Bool
are_none v = all is_zero (v.src ∷ v.freq ∷ v.pol ∷ v.msys ∷ v.mtype ∷ v.plts ∷ v.ro ∷ v.sr ∷ v.fec ∷ [])

-- "May be missing in a stream: yes"
abbrev pub is_missing_or : ℕ → ℕ → ℕ → Bool
is_missing_or low high code = eqb code 0 || is_between low high code

-- "every value in range"; a word's code is its place among the words of document 01's row, from 1 on
unfoldable pub are_in_range : Values → Bool
are_in_range v =
    is_between 1 4 v.src && is_missing_or 1070000 1275000 v.freq && is_missing_or 1 4 v.pol
    && is_missing_or 1 2 v.msys && is_missing_or 1 2 v.mtype && is_missing_or 1 2 v.plts
    && is_missing_or 1 3 v.ro && is_missing_or 1000 45000 v.sr && is_missing_or 1 9 v.fec

-- "dvbs goes with no 8psk, no plts on, no ro but 0.35 and no fec of 89, 35, 45, 910. A missing value offends nothing."
unfoldable pub go_together : Values → Bool
go_together v = not (eqb v.msys 1) || (not (eqb v.mtype 2) && not (eqb v.plts 1) && leb v.ro 1 && leb v.fec 5)

-- "A given attribute replaces, an absent one stays."
abbrev pub given : ℕ → ℕ → ℕ
given code old = cond (eqb code 0) old code

-- the values after a query's, whose codes stand by the attribute's place; fe is the frontend held and is not kept here
unfoldable pub merged : Values → List ℕ → Values
merged v codes =
    record {
      src = given (get_or codes 0 0) v.src;
      freq = given (get_or codes 2 0) v.freq;
      pol = given (get_or codes 3 0) v.pol;
      msys = given (get_or codes 4 0) v.msys;
      mtype = given (get_or codes 5 0) v.mtype;
      plts = given (get_or codes 6 0) v.plts;
      ro = given (get_or codes 7 0) v.ro;
      sr = given (get_or codes 8 0) v.sr;
      fec = given (get_or codes 9 0) v.fec;
    }

-- "freq, pol, msys, sr and fec are all there"
unfoldable pub are_complete : Values → Bool
are_complete v = not (eqb v.freq 0) && not (eqb v.pol 0) && not (eqb v.msys 0) && not (eqb v.sr 0) && not (eqb v.fec 0)
