use Rattle.rp_cli.proofs.Unread.{unread_bounded, unread_legal, unread_told}
use Rattle.rp_cli.proofs.run.Goals as goal

pub returns-in-Err-clause-told : goal.returns-in-Err-clause-told
returns-in-Err-clause-told g c = unread_told (g.A.CommandLine.words c.args.line.now) (g.I.Inputs.contents c.args.inputs.now) (g.K.Sink.written c.args.out.now)

pub returns-in-Err-clause-legal : goal.returns-in-Err-clause-legal
returns-in-Err-clause-legal g c = unread_legal (g.A.CommandLine.words c.args.line.now) (g.I.Inputs.contents c.args.inputs.now) (g.K.Sink.written c.args.out.now)

pub returns-in-Err-clause-bounded : goal.returns-in-Err-clause-bounded
returns-in-Err-clause-bounded g c = unread_bounded (g.A.CommandLine.words c.args.line.now) (g.I.Inputs.contents c.args.inputs.now) (g.K.Sink.written c.args.out.now)
