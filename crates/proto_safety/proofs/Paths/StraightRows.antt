-- The straight paths of one run over two replicas, and of one over one replica.
use Rattle.std.proofs.Common.{ℕ, ◌+◌, ◌≡◌, ◌≤◌, ◌<◌, [], ◌∷◌, Some, refl, arith, length}
use Rattle.proto_data.specs.declared.message.Carried.{Carried}
use Rattle.proto_data.specs.Carrying.{carried_packet, carried_output}
use Rattle.proto_model.specs.WorldStep.{Delivers}
use Rattle.proto_model.specs.Runs.{Run, before, act_at}
use Rattle.proto_safety.specs.StraightRuns.{run_of, hop, packet, out}
use Rattle.proto_model.specs.Straight.{Hop, SentAt, StraightPut, StraightAsk, load_of}

sent_at : (r : Run) (c : Carried) (place : ℕ) (h : Hop) (a b : ℕ) → length (before r place).frames ≡ a → length (before r (place + 1)).frames ≡ b →
    place < h.place → a ≤ h.frame → h.frame < b → load_of h.msg.body ≡ Some c → act_at r h.place ≡ Some (Delivers h.frame h.msg) → SentAt r c place h
sent_at r c place h a b ea eb later from sent carries delivered =
    record { later = later; not_before = omega (arith, ea, from); sent = omega (arith, eb, sent); carries = carries; delivered = delivered }

-- the Put of the run over two replicas
pub put_path : StraightPut (run_of 2) 3 0 (97 ∷ []) 1 1 1 ((0, 1) ∷ []) out (hop (run_of 2) 5 4) (hop (run_of 2) 6 5 ∷ []) (hop (run_of 2) 7 6)
put_path =
    record {
      goes = record {
        strict = refl;
        asked_by = refl;
        answered_to = refl;
        hops = (
          sent_at (run_of 2) (carried_output out) 3 (hop (run_of 2) 5 4) 4 5 refl refl (omega arith) (omega arith) (omega arith) refl refl,
          (
            sent_at (run_of 2) (carried_output out) 5 (hop (run_of 2) 6 5) 5 6 refl refl (omega arith) (omega arith) (omega arith) refl refl,
            sent_at (run_of 2) (carried_output out) 6 (hop (run_of 2) 7 6) 6 8 refl refl (omega arith) (omega arith) (omega arith) refl refl,
          ),
        );
        ready = record { members = ((_, refl, refl, refl), ((_, refl, refl, refl), tt)); switch = (_, refl, refl) };
        calm = (refl, (refl, (refl, tt)));
        in_order = (refl, tt);
        room = (refl, (refl, tt));
      };
      put = refl;
      head = refl;
      owned = (refl, (refl, (refl, (refl, tt))));
      few = omega arith;
      waits = tt;
    }

-- the Ask of the run over two replicas
pub ask_path : StraightAsk (run_of 2) 0 0 (97 ∷ []) 1 1 1 packet (hop (run_of 2) 1 0) (hop (run_of 2) 2 1 ∷ []) (hop (run_of 2) 3 2)
ask_path =
    record {
      goes = record {
        strict = refl;
        asked_by = refl;
        answered_to = refl;
        hops = (
          sent_at (run_of 2) (carried_packet packet) 0 (hop (run_of 2) 1 0) 0 1 refl refl (omega arith) (omega arith) (omega arith) refl refl,
          (
            sent_at (run_of 2) (carried_packet packet) 1 (hop (run_of 2) 2 1) 1 2 refl refl (omega arith) (omega arith) (omega arith) refl refl,
            sent_at (run_of 2) (carried_packet packet) 2 (hop (run_of 2) 3 2) 2 4 refl refl (omega arith) (omega arith) (omega arith) refl refl,
          ),
        );
        ready = record { members = ((_, refl, refl, refl), ((_, refl, refl, refl), tt)); switch = (_, refl, refl) };
        calm = (refl, (refl, tt));
        in_order = (refl, tt);
        room = (refl, (refl, tt));
      };
      ask = refl;
      grants = refl;
      meets = refl;
    }

-- over one replica the head answers itself
pub one_path : StraightPut (run_of 1) 2 0 (97 ∷ []) 1 1 1 ((0, 1) ∷ []) out (hop (run_of 1) 3 2) [] (hop (run_of 1) 4 3)
one_path =
    record {
      goes = record {
        strict = refl;
        asked_by = refl;
        answered_to = refl;
        hops = (
          sent_at (run_of 1) (carried_output out) 2 (hop (run_of 1) 3 2) 2 3 refl refl (omega arith) (omega arith) (omega arith) refl refl,
          sent_at (run_of 1) (carried_output out) 3 (hop (run_of 1) 4 3) 3 4 refl refl (omega arith) (omega arith) (omega arith) refl refl,
        );
        ready = record { members = ((_, refl, refl, refl), tt); switch = (_, refl, refl) };
        calm = (refl, tt);
        in_order = tt;
        room = (refl, tt);
      };
      put = refl;
      head = refl;
      owned = (refl, (refl, tt));
      few = omega arith;
      waits = tt;
    }
