-- The lines of a step as the report shows them.
use Rattle.std.proofs.Common.{◌≡◌, ℕ, List, ◌++◌, sym, ap, ◌∙◌, append_assoc}
use Rattle.std.proofs.lemmas.List.{map-append}
use Rattle.rp_base.specs.declared.event.DropCause.{DropCause}
use Rattle.proto_model.specs.Effects.{added, release_line, switch_lines, store_lines}
use Rattle.proto_model.specs.Lines.{Line, Dropped, LostLine, send_lines}
use Rattle.proto_model.specs.ReplicaState.{StoreDid}
use Rattle.proto_model.specs.SwitchState.{SwitchDid}
use Rattle.run_history.specs.Shown.{shown, line_of}

-- what is shown of lines is shown of one part and of the other
pub shown-both : (ls ms : List Line) → shown (ls ++ ms) ≡ shown ls ++ shown ms
shown-both ls ms = map-append line_of ls ms

-- a switch's lines: those of what it released, dropped and lost, and those of what it sent
pub shown-switch : (event frame : ℕ) (did : SwitchDid) →
    (shown (added (release_line event) did.released) ++ (shown (added (λ (d : ℕ × DropCause). Dropped event d.0 d.1) did.dropped) ++ shown (added (LostLine event) did.lost)))
    ++ shown (send_lines event frame did.sent) ≡ shown (switch_lines event frame did)
shown-switch event frame did =
    let out = added (release_line event) did.released in
    let drops = added (λ (d : ℕ × DropCause). Dropped event d.0 d.1) did.dropped in
    let lost = added (LostLine event) did.lost in
    let sends = send_lines event frame did.sent in
    append_assoc (shown out) (shown drops ++ shown lost) (shown sends)
    ∙ ap (λ l. shown out ++ l) (append_assoc (shown drops) (shown lost) (shown sends) ∙ ap (λ l. shown drops ++ l) (sym (shown-both lost sends)) ∙ sym (shown-both drops (lost ++ sends)))
    ∙ sym (shown-both out (drops ++ (lost ++ sends)))

-- a replica's lines
pub shown-store : (event frame : ℕ) (did : StoreDid) → shown (added (LostLine event) did.lost) ++ shown (send_lines event frame did.sent) ≡ shown (store_lines event frame did)
shown-store event frame did = sym (shown-both (added (LostLine event) did.lost) (send_lines event frame did.sent))
