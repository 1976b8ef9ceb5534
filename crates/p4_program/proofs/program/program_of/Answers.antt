use Rattle.std.proofs.lemmas.Result.{err_from_is_err_and}
use Rattle.p4_program.proofs.Wholes.{Fronted, deparser_fails, package_fails}
use Rattle.p4_program.proofs.program.program_of.Goals as goal

pub returns-in_err-deparser : goal.returns-in_err-deparser
returns-in_err-deparser c =
    let h : Fronted c.args.fuel c.args.tokens.now c.in_ok-ingress.rest.now = record { declared = (c.in_ok-env.env, c.in_ok-env.declarations); parser = c.in_ok-parser.parser; ingress = c.in_ok-ingress.ingress; behind = c.in_ok-env.rest.now; later = c.in_ok-parser.rest.now; declarations_are = c.in_ok-env.ensures; parser_is = c.in_ok-parser.ensures; ingress_is = c.in_ok-ingress.ensures } in
    let p = err_from_is_err_and c.from_residual-in_err-deparser.result c.from_residual-in_err-deparser.ensures.1 in
    rw (p.1, p.2) (deparser_fails c.args.fuel c.args.tokens.now c.in_ok-ingress.rest.now _ h c.in_err-deparser.ensures)

pub returns-in_err-package : goal.returns-in_err-package
returns-in_err-package c =
    let h : Fronted c.args.fuel c.args.tokens.now c.in_ok-ingress.rest.now = record { declared = (c.in_ok-env.env, c.in_ok-env.declarations); parser = c.in_ok-parser.parser; ingress = c.in_ok-ingress.ingress; behind = c.in_ok-env.rest.now; later = c.in_ok-parser.rest.now; declarations_are = c.in_ok-env.ensures; parser_is = c.in_ok-parser.ensures; ingress_is = c.in_ok-ingress.ensures } in
    let p = err_from_is_err_and c.from_residual-in_err-package.result c.from_residual-in_err-package.ensures.1 in
    rw (p.1, p.2) (package_fails c.args.fuel c.args.tokens.now c.in_ok-ingress.rest.now c.in_ok-deparser.rest.now c.in_ok-deparser.deparser _ h c.in_ok-deparser.ensures c.in_err-package.ensures)
