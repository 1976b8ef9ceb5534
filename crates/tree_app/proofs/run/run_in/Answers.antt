use Rattle.std.proofs.Common.{◌≡◌, ◌++◌, ◌∙◌, sym, ap, rules, length, Some, []}
use Rattle.rp_bits.specs.Bits.{bits_of, bytes_of}
use Rattle.app_data.specs.declared.run.Run.{Run}
use Rattle.app_meaning.specs.Packets.{parse, emitted}
use Rattle.app_meaning.specs.Programs.{parser_scope, control_scope, deparser_scope, first_values, run_control, output_of, deparsed}
use Rattle.tree_eval.specs.Seen.{seen}
use Rattle.tree_app.specs.Ended.{ended}
use Rattle.tree_app.specs.declared.run.Ended.{Ended}
use Rattle.tree_app.proofs.Ran.{accepted_ends}
use Rattle.tree_app.proofs.run.run_in.Goals as goal

-- src/run.rt:42:1
pub returns : goal.returns
returns c =
    let e : parse (parser_scope c.args.p.now) c.args.p.now.parser.states (record { values = first_values c.args.p.now (control_scope c.args.p.now (length c.args.cells)) c.args.held c.args.packet.now; left = bits_of c.args.packet.now.bytes }) ≡ Some (record { values = c.parse.new.values; left = c.parse.new.left }) = search rules in
    let s : seen c.control_of-sc.result ≡ (control_scope c.args.p.now (length c.args.cells)) = search rules in
    let r0 : c.in_ok-run.run' ≡ run_control c.args.p.now (seen c.control_of-sc.result) c.args.cells (record { values = c.parse.new.values; left = [] }) = search rules in
    let r : c.in_ok-run.run' ≡ (run_control c.args.p.now (control_scope c.args.p.now (length c.args.cells)) c.args.cells (record { values = c.parse.new.values; left = c.parse.new.left })) = r0 ∙ ap (λ sc. run_control c.args.p.now sc c.args.cells (record { values = c.parse.new.values; left = c.parse.new.left })) s in
    let o : c.in_ok-output.output ≡ output_of c.args.p.now (control_scope c.args.p.now (length c.args.cells)) c.args.packet.now (bytes_of (emitted (deparser_scope c.args.p.now) c.args.p.now.deparser.emits c.in_ok-run.run'.values ++ c.parse.new.left)) c.in_ok-run.run'.values = search rules in
    let o2 : c.in_ok-output.output ≡ output_of c.args.p.now (control_scope c.args.p.now (length c.args.cells)) c.args.packet.now (bytes_of (emitted (deparser_scope c.args.p.now) c.args.p.now.deparser.emits (run_control c.args.p.now (control_scope c.args.p.now (length c.args.cells)) c.args.cells (record { values = c.parse.new.values; left = c.parse.new.left })).values ++ c.parse.new.left)) (run_control c.args.p.now (control_scope c.args.p.now (length c.args.cells)) c.args.cells (record { values = c.parse.new.values; left = c.parse.new.left })).values = o ∙ ap (λ (x : Run). output_of c.args.p.now (control_scope c.args.p.now (length c.args.cells)) c.args.packet.now (bytes_of (emitted (deparser_scope c.args.p.now) c.args.p.now.deparser.emits x.values ++ c.parse.new.left)) x.values) r in
    let d : ◌≡◌ {A = Ended} (record { delta = c.in_ok-run.run'.delta; key = c.in_ok-run.run'.key; output = c.in_ok-output.output }) (ended (deparsed c.args.p.now (control_scope c.args.p.now (length c.args.cells)) c.args.packet.now c.parse.new.left (run_control c.args.p.now (control_scope c.args.p.now (length c.args.cells)) c.args.cells (record { values = c.parse.new.values; left = c.parse.new.left })))) = λ i. record { delta = (r i).delta; key = (r i).key; output = o2 i } in
    d ∙ sym (accepted_ends c.args.p.now c.args.held c.args.cells c.args.packet.now (record { values = c.parse.new.values; left = c.parse.new.left }) e)
