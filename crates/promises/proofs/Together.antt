-- P1 to P11 of document 01 under one statement. It stands alone, so that a wrong one of them is refused where it stands. Assumes nothing.
use Rattle.promises.proofs.Edges.{P1, P2, P3, P4, P5, P6, P7, P8, P9, P10, P11, p1, p2, p3, p4, p5, p6, p7, p8, p9, p10, p11}

pub record Edges : Type 0 where
  pub empty_request : P1
  pub age : P2
  pub draw_zero : P3
  pub draw_last : P4
  pub combination : P5
  pub pids : P6
  pub pid : P7
  pub freq : P8
  pub room : P9
  pub port : P10
  pub first_record : P11

pub edges : Edges
edges =
    record {
      empty_request = p1;
      age = p2;
      draw_zero = p3;
      draw_last = p4;
      combination = p5;
      pids = p6;
      pid = p7;
      freq = p8;
      room = p9;
      port = p10;
      first_record = p11;
    }
