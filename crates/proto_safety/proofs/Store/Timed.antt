-- The terms of a run hold, and each replica has them.
use Rattle.std.proofs.Common.{◌≡◌, ℕ, List, [], ◌∷◌, length, refl, ◌∙◌, drop, false}
use Rattle.rp_base.specs.Clocks.{TermsHold}
use Rattle.rp_app.specs.Application.{Application}
use Rattle.proto_model.specs.Feeds.{Each}
use Rattle.proto_model.specs.ReplicaRows.{store_row}
use Rattle.proto_model.specs.World.{World, Setup, ReplicaNode, opened, open_replica_node, below}
use Rattle.proto_model.specs.WorldStep.{advanced_replicas}
use Rattle.proto_safety.proofs.Store.StoreBooks.{row_terms}
use Rattle.proto_safety.proofs.Inductions.Induction.{Keeps}
use Rattle.proto_data.specs.declared.terms.Terms.{Terms}
use Rattle.proto_safety.proofs.Basics.Eachs.{each_at, each_changed, each_map, each_set}

abbrev HasTerms : Terms → ReplicaNode → Type 0
HasTerms terms r = r.state.terms ≡ terms

pub record Timed (w : World) : Type 0 where
  pub hold : TermsHold w.terms.t_switch w.terms.t_store w.terms.ratio
  pub replicas : Each (HasTerms w.terms) w.replicas

advanced_terms : (terms : Terms) (nodes : List ReplicaNode) (by : List ℕ) → Each (HasTerms terms) nodes → Each (HasTerms terms) (advanced_replicas nodes by)
advanced_terms terms [] by h = tt
advanced_terms terms (n ∷ ns) [] h = h
advanced_terms terms (n ∷ ns) (d ∷ ds) h = (h.0, advanced_terms terms ns ds h.1)

pub timed_kept : (app : Application) → Keeps app Timed
timed_kept app =
    record {
      counts = λ w h. record { hold = h.hold; replicas = h.replicas };
      passes = λ w i h. record { hold = h.hold; replicas = h.replicas };
      feeds = λ w n node p at up mark h. record { hold = h.hold; replicas = h.replicas };
      switches = λ w n node input at up from h. record { hold = h.hold; replicas = h.replicas };
      replicas = λ w n node input at up from h.
          record {
            hold = h.hold;
            replicas = each_set (HasTerms w.terms) w.replicas n _ h.replicas (row_terms node.state node.clock (store_row node.state node.clock input) ∙ each_at (HasTerms w.terms) w.replicas n node h.replicas at);
          };
      advances = λ w by rates h. record { hold = h.hold; replicas = advanced_terms w.terms w.replicas (drop (length w.switches) by) h.replicas };
      stops_switch = λ w n fits h. record { hold = h.hold; replicas = h.replicas };
      stops_replica = λ w n fits h. record { hold = h.hold; replicas = each_changed (HasTerms w.terms) w.replicas n (λ (r : ReplicaNode). record r { runs = false }) (λ x k. k) h.replicas };
      boots = λ w n down h. record { hold = h.hold; replicas = h.replicas };
      detects_switch = λ w n fits h. record { hold = h.hold; replicas = h.replicas };
      detects_replica = λ w n fits h. record { hold = h.hold; replicas = h.replicas };
      announces = λ w h. record { hold = h.hold; replicas = h.replicas };
    }

pub opened_timed : (cells : ℕ) (setup : Setup) → TermsHold setup.terms.t_switch setup.terms.t_store setup.terms.ratio → Timed (opened cells setup)
opened_timed cells setup hold = record { hold = hold; replicas = each_map (HasTerms setup.terms) (open_replica_node cells setup) (below setup.replicas) (λ n. refl) }
