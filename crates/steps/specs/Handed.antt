-- What the crates promise each other about a request that the reader hands over and the answer that is written, in the numbers and places that
-- the code hands on. No call of the box reaches these; laws tie them to the meanings of the request's bytes (`Telling`, `ReplyLaws`).
-- Assumes nothing.
use Rattle.std.specs.Prelude.{ℕ, cond, List, eqb, get_or, Option, Some, None, is_some, unwrap_or}
use Rattle.scan.specs.Lists.{part, ◌gives◌or◌}
use Rattle.scan.specs.Found.{Holds, nowhere}
use Rattle.scan.specs.declared.Span.{Span}
use Rattle.aim.specs.declared.Method.{Method}
use Rattle.aim.specs.declared.Method.TheVariants.{Options, Setup, Play, Teardown, Other}
use Rattle.reader.specs.declared.Asked.{Asked as Read}
use Rattle.reader.specs.declared.Refused.{Refused}
use Rattle.table.specs.declared.Session.{Session}
use Rattle.answer.specs.declared.Kind.{Kind}
use Rattle.answer.specs.declared.Kind.TheVariants as kind
use Rattle.answer.specs.declared.Answer.{Answer}
use Rattle.steps.specs.Sights.{Asked, Lists, is_absent, port_of}
use Rattle.steps.specs.declared.Sight.{Sight}
use Rattle.steps.specs.Steps.{rule_of, status_of, is_passed}
use Rattle.steps.specs.declared.cases.Case.{Case}
use Rattle.steps.specs.declared.cases.Case.TheVariants.{Reading}

abbrev pub asked_by : Read → Asked
asked_by r =
    record {
      method = r.method;
      stream = unwrap_or r.stream 0;
      codes = r.codes;
      query = is_some r.query;
      session = r.session;
      transport = r.transport;
    }

-- what it asks beside what was looked up for it
abbrev pub sighted : Asked → ℕ → Session → ℕ → ℕ → Sight
sighted a place session frontend reach =
    record {
      method = a.method;
      absent = is_absent a.session;
      stream = a.stream;
      fe = get_or a.codes 1 0;
      src = get_or a.codes 0 0;
      query = a.query;
      port = port_of a.transport;
      place = place;
      session = session;
      frontend = frontend;
      reach = reach;
    }

-- where its query stands, 0 to 0 where it has none
abbrev pub query_at : Read → Span
query_at r = unwrap_or r.query nowhere

abbrev pub query_by : List ℕ → Read → List ℕ
query_by s r = part (query_at r).start (query_at r).end s

abbrev pub span_in : Read → ℕ → Span
span_in r attribute = get_or r.spans attribute nowhere

abbrev pub list_by : List ℕ → Read → ℕ → List ℕ
list_by s r attribute = part (span_in r attribute).start (span_in r attribute).end (query_by s r)

abbrev pub lists_by : List ℕ → Read → Lists
lists_by s r = record { pids = list_by s r 10; addpids = list_by s r 11; delpids = list_by s r 12 }

-- its places are places of the request
pub record Told (s : List ℕ) (r : Read) : Type 0 where
  pub query : Holds s (query_by s r) (query_at r).start (query_at r).end
  pub list : (attribute : ℕ) → Holds (query_by s r) (list_by s r attribute) (span_in r attribute).start (span_in r attribute).end

-- WHICH ANSWER IT GETS
abbrev pub refused_kind : Case → Kind
refused_kind c =
    eqb (rule_of c).0 5 gives kind.Unsupported or
    eqb (rule_of c).0 6 gives kind.Public or
    eqb (rule_of c).0 10 gives kind.Allow or
    kind.Bare

abbrev pub granted_kind : Method → Kind
granted_kind Options = kind.Options
granted_kind Setup = kind.Setup
granted_kind Play = kind.Play
granted_kind Teardown = kind.Teardown
granted_kind Other = kind.Bare

abbrev pub kind_of : Option Case → Method → Kind
kind_of None method = granted_kind method
kind_of (Some c) method = refused_kind c

-- the word that it repeats is the host on 200
unfoldable pub reply_to : Option Case → Read → Session → Answer
reply_to case r s =
    record {
      kind = kind_of case r.method;
      status = status_of case;
      cseq = r.cseq;
      session = s.number;
      stream = s.stream;
      address = s.address;
      port = s.port;
      text = cond (is_passed case) r.host nowhere;
    }

-- and of a request that steps 1 to 10 refuse a Require value
unfoldable pub refused_reply : Refused → Answer
refused_reply refused =
    record {
      kind = refused_kind (Reading refused.refusal);
      status = status_of (Some (Reading refused.refusal));
      cseq = unwrap_or refused.cseq nowhere;
      session = 0;
      stream = 0;
      address = 0;
      port = 0;
      text = unwrap_or refused.require nowhere;
    }
