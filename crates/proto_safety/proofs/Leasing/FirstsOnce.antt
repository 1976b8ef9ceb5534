-- The list of first sendings has each request of the frames once, with the switch's clock when it was first sent.
use Rattle.std.proofs.Common.{◌≡◌, ◌⊎◌, inl, inr, ℕ, List, [], ◌∷◌, ◌++◌, Option, Some, None, refl, sym, ap, ◌∙◌, subst, true, false, Bool, slice_get}
use Rattle.std.specs.List.{list_any}
use Rattle.rp_base.specs.declared.node.Node.{Node}
use Rattle.rp_base.specs.declared.event.Event.{Event}
use Rattle.proto_data.specs.declared.message.Msg.{Msg}
use Rattle.proto_data.specs.declared.message.Input.{Input}
use Rattle.proto_safety.proofs.Leasing.WorldPuts.{number_request}
use Rattle.rp_app.specs.Application.{Application}
use Rattle.proto_model.specs.Effects.{packet_fed, frame_passed}
use Rattle.proto_model.specs.Feeds.{Pairwise}
use Rattle.proto_model.specs.SwitchRows.{switch_step}
use Rattle.key_table.specs.Table.{Key}
use Rattle.proto_model.specs.World.{World, Setup, SwitchNode, opened}
use Rattle.proto_model.specs.WorldStep.{Act, Feeds, Delivers, Alarms, act_of, next_event, world_step, world_after}
use Rattle.proto_safety.specs.Books.{In}
use Rattle.proto_safety.specs.FirstLaws.{RequestSent, SameRequest, AreFirsts, IsNow}
use Rattle.proto_safety.specs.Firsts.{request_of, is_made, with_request, with_sent, switch_firsts, node_firsts, act_firsts, event_firsts, firsts_after, firsts_of}
use Rattle.proto_safety.specs.LeaseLaws.{Request, First}
use Rattle.proto_safety.proofs.Leasing.FirstSendings.{Made, SentNow, sending, stays, comes, made_any, not_made, sent_was}
use Rattle.proto_safety.proofs.Inductions.FirstsInduction.{firsts_kept}
use Rattle.proto_safety.proofs.Leasing.FirstsKept.{Settled, settled_kept, firsts_kept_by}
use Rattle.proto_safety.proofs.Leasing.HandedKept.{opened_firsts}
use Rattle.proto_safety.proofs.Legality.LegalRun.{opened_standing}
use Rattle.proto_safety.proofs.Leasing.WorldFirsts.{FirstsHold, WasSent, by_ask, by_put}
use Rattle.proto_safety.proofs.Basics.Eachs.{each_all}
use Rattle.proto_safety.proofs.Basics.Pairs.{pairwise_push}

-- ---- once

abbrev Once : List First → Type 0
Once fs = Pairwise (λ (a b : First). SameRequest a b → ⊥) fs

request_once : (s now : ℕ) (fs : List First) (o : Option (Key × Request)) → Once fs → Once (with_request s now fs o)
request_once s now fs None h = h
request_once s now fs (Some r) h = made_case (list_any (is_made s r.0 r.1) fs) refl
  where
    made_case : (b : Bool) → list_any (is_made s r.0 r.1) fs ≡ b → Once (with_request s now fs (Some r))
    made_case true is = subst Once (sym (stays s now fs r.0 r.1 (made_any s r.0 r.1 fs is))) h
    made_case false is =
        subst Once (sym (comes s now fs r.0 r.1 (not_made s r.0 r.1 fs is)))
        (pairwise_push (λ (a b : First). SameRequest a b → ⊥) fs (sending s now r.0 r.1) h
        (each_all (λ (f : First). SameRequest f (sending s now r.0 r.1) → ⊥) fs (λ f i same. not_made s r.0 r.1 fs is (record { first = f; there = i; switch_is = same.0; key_is = same.1; request_is = same.2 }))))

sent_once : (s now : ℕ) (fs : List First) (ms : List Msg) → Once fs → Once (with_sent s now fs ms)
sent_once s now fs [] h = h
sent_once s now fs (m ∷ ms) h = sent_once s now (with_request s now fs (request_of m.body)) ms (request_once s now fs (request_of m.body) h)

switch_once : (app : Application) (n : ℕ) (input : Input) (fs : List First) (o : Option SwitchNode) → Once fs → Once (switch_firsts app n input fs o)
switch_once app n input fs None h = h
switch_once app n input fs (Some node) h = sent_once n node.clock fs (switch_step app node.state node.clock input).1.sent h

node_once : (app : Application) (w : World) (to : Node) (input : Input) (fs : List First) → Once fs → Once (node_firsts app w to input fs)
node_once app w (Node.Switch n) input fs h = switch_once app n input fs (slice_get w.switches n) h
node_once app w (Node.Replica n) input fs h = h
node_once app w Node.Master input fs h = h

act_once : (app : Application) (w : World) (fs : List First) (act : Act) → Once fs → Once (act_firsts app w fs act)
act_once app w fs (Feeds n p) h = node_once app (packet_fed w p) (Node.Switch n) (Input.Packet p) fs h
act_once app w fs (Delivers i m) h = node_once app (frame_passed w i) m.to (Input.Msg m) fs h
act_once app w fs (Alarms node) h = node_once app w node Input.Alarm fs h
act_once app w fs _ h = h

run_once : (app : Application) (w : World) (fs : List First) (es : List Event) → Once fs → Once (firsts_after app w fs es)
run_once app w fs [] h = h
run_once app w fs (e ∷ es) h = run_once app (world_step app w e).0 (event_firsts app w fs e) es (act_once app (next_event w) fs (act_of app (next_event w) e) h)

-- ---- of the frames

was_request : (frames : List Msg) (f : First) → WasSent frames f → RequestSent frames f
was_request frames f (by_ask is a) = record { msg = a.msg; there = a.there; from_is = a.from_is; request_is = ap request_of a.body_is ∙ ap (λ (x : Request). Some (f.key, x)) (sym is) }
was_request frames f (by_put is p) = record { msg = p.msg; there = p.there; from_is = p.from_is; request_is = number_request p.msg.body _ _ _ f.key p.number_in ∙ ap (λ (x : Request). Some (f.key, x)) (sym is) }

pub are_firsts : (app : Application) (setup : Setup) (events : List Event) → AreFirsts (firsts_of app setup events) (world_after app (opened app.cell_count setup) events).frames
are_firsts app setup events =
    let start : Settled app.cell_count (opened app.cell_count setup) = (opened_standing app setup).0 in
    let h : FirstsHold (firsts_of app setup events) (world_after app (opened app.cell_count setup) events) = firsts_kept app (Settled app.cell_count) FirstsHold (settled_kept app) (firsts_kept_by app) events (opened app.cell_count setup) [] start (opened_firsts app setup) in
    record {
      all = λ m s key request i from is.
          let d : Made (firsts_of app setup events) s key request = h.asked m s (key, request) i from is in
          record { first = d.first; there = d.there; switch_is = d.switch_is; key_is = d.key_is; request_is = d.request_is };
      sent = λ f i. was_request (world_after app (opened app.cell_count setup) events).frames f (h.sent f i);
      once = run_once app (opened app.cell_count setup) [] events tt;
    }

-- ---- the moment

-- a member was there, or is first sent now
abbrev Came : World → List First → First → Type 0
Came w fs f = In fs f ⊎ IsNow w f

switch_now : (app : Application) (w : World) (n : ℕ) (input : Input) (fs : List First) (o : Option SwitchNode) (f : First) → slice_get w.switches n ≡ o → In (switch_firsts app n input fs o) f → Came w fs f
switch_now app w n input fs None f at i = inl i
switch_now app w n input fs (Some node) f at i = now_case (sent_was n node.clock fs (switch_step app node.state node.clock input).1.sent f i)
  where
    now_case : In fs f ⊎ SentNow n node.clock fs (switch_step app node.state node.clock input).1.sent f → Came w fs f
    now_case (inl j) = inl j
    now_case (inr k) = inr (record { node = node; at = ap (λ j. slice_get w.switches j) k.switch_is ∙ at; moment_is = k.moment_is })

node_now : (app : Application) (w v : World) (to : Node) (input : Input) (fs : List First) (f : First) → v.switches ≡ w.switches → In (node_firsts app v to input fs) f → Came w fs f
node_now app w v (Node.Switch n) input fs f same i = switch_now app w n input fs (slice_get v.switches n) f (ap (λ l. slice_get l n) (sym same)) i
node_now app w v (Node.Replica n) input fs f same i = inl i
node_now app w v Node.Master input fs f same i = inl i

act_now : (app : Application) (w : World) (fs : List First) (act : Act) (f : First) → In (act_firsts app (next_event w) fs act) f → Came w fs f
act_now app w fs (Feeds n p) f i = node_now app w (packet_fed (next_event w) p) (Node.Switch n) (Input.Packet p) fs f refl i
act_now app w fs (Delivers j m) f i = node_now app w (frame_passed (next_event w) j) m.to (Input.Msg m) fs f refl i
act_now app w fs (Alarms node) f i = node_now app w (next_event w) node Input.Alarm fs f refl i
act_now app w fs _ f i = inl i

one_more : (app : Application) (w : World) (fs : List First) (es : List Event) (e : Event) → firsts_after app w fs (es ++ e ∷ []) ≡ event_firsts app (world_after app w es) (firsts_after app w fs es) e
one_more app w fs [] e = refl
one_more app w fs (x ∷ es) e = one_more app (world_step app w x).0 (event_firsts app w fs x) es e

pub first_now : (app : Application) (setup : Setup) (events : List Event) (event : Event) (f : First) → In (firsts_of app setup (events ++ event ∷ [])) f →
    In (firsts_of app setup events) f ⊎ IsNow (world_after app (opened app.cell_count setup) events) f
first_now app setup events event f i =
    act_now app (world_after app (opened app.cell_count setup) events) (firsts_of app setup events) (act_of app (next_event (world_after app (opened app.cell_count setup) events)) event) f
    (subst (λ l. In l f) (one_more app (opened app.cell_count setup) [] events event) i)
