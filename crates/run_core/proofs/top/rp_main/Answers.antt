use Rattle.run_core.proofs.Runs.{bounded_told, legal_told}
use Rattle.run_core.proofs.top.rp_main.Goals as goal

pub returns-clause-legal : goal.returns-clause-legal
returns-clause-legal g c =
    legal_told c.answer.result c.args.words.now (g.K.Sink.written c.args.out.now) (g.K.Sink.written c.answer.new.out) (g.I.Inputs.contents c.args.inputs.now) c.answer.ensures.told

pub returns-clause-bounded : goal.returns-clause-bounded
returns-clause-bounded g c =
    bounded_told c.answer.result c.args.words.now (g.K.Sink.written c.args.out.now) (g.K.Sink.written c.answer.new.out) (g.I.Inputs.contents c.args.inputs.now) c.answer.ensures.told
