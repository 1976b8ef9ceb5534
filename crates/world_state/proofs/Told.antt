-- What the world writes down of a switch's step is what the step tells.
use Rattle.std.proofs.Common.{◌≡◌, ℕ, List, ◌++◌, length, map, refl, ap, ◌∙◌}
use Rattle.rp_base.specs.declared.event.DropCause.{DropCause}
use Rattle.rp_base.specs.declared.line.Line.{Line as Shown}
use Rattle.proto_data.specs.declared.message.Msg.{Msg}
use Rattle.proto_model.specs.Effects.{added, made_output, history_after, release_line}
use Rattle.proto_model.specs.Lines.{Dropped, LostLine, send_lines}
use Rattle.proto_model.specs.SwitchState.{SwitchDid, Begun}
use Rattle.proto_model.specs.World.{History}
use Rattle.run_history.specs.Rounds.{round_begun}
use Rattle.run_history.specs.Shown.{shown}
use Rattle.world_state.specs.Turns.{told_switch}
use Rattle.run_history.proofs.ShownLines.{shown-switch}

module _ (event : ℕ) (frames : List Msg) (h : History) (did : SwitchDid) where
  -- the lines but those of what was sent
  abbrev own_lines : List Shown
  own_lines =
      shown (added (release_line event) did.released) ++ (shown (added (λ (d : ℕ × DropCause). Dropped event d.0 d.1) did.dropped) ++ shown (added (LostLine event) did.lost))

  pub told_is : (begun : List Begun) (sent more : List Msg) (h1 h2 h3 : History) (frames2 : List Msg) (lines lines2 : List Shown) → begun ≡ did.begun → sent ≡ did.sent → more ≡ did.sent →
      h1 ≡ record h { rounds = h.rounds ++ map (round_begun event (length h.items)) begun } →
      h2 ≡ record h1 { items = h1.items ++ added (λ i. record { event = event; item = i; output = made_output did.released sent }) did.item } →
      h3 ≡ record h2 { released = h2.released ++ added (λ o. record { event = event; output = o }) did.released } →
      frames2 ≡ frames ++ more → lines ≡ own_lines → lines2 ≡ lines ++ shown (send_lines event (length frames) more) →
      (frames2, h3, lines2) ≡ told_switch event frames h did
  told_is begun sent more h1 h2 h3 frames2 lines lines2 begun_is sent_is more_is rounds items released framed lined told =
      let past : h3 ≡ history_after event h did = rw (released, items, rounds, sent_is, begun_is) refl in
      let all : frames2 ≡ frames ++ did.sent = framed ∙ ap (λ ms. frames ++ ms) more_is in
      let shows : lines2 ≡ (told_switch event frames h did).2 =
      told ∙ (λ i. lined i ++ shown (send_lines event (length frames) (more_is i))) ∙ shown-switch event (length frames) did
      in
      λ i. (all i, past i, shows i)
