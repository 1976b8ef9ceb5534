use Rattle.std.proofs.Common.{◌≡◌, Result, Ok, Err, OnOk, OnErr, subst, sym}
use Rattle.rp_app.specs.Application.{Delta, IsDelta, with_cell}
use Rattle.rp_app.proofs.Deltas.{with_cell-IsDelta}
use Rattle.rp_app.proofs.delta.Delta.set.Goals as goal

-- a delta that was written, or left where memory ran out
kept : {T E : Type 0} (r : Result T E) (old written new : Delta) → IsDelta old → IsDelta written → OnOk r (new ≡ written) → OnErr r (new ≡ old) → IsDelta new
kept (Ok x) old written new h k ok err = subst IsDelta (sym ok) k
kept (Err x) old written new h k ok err = subst IsDelta (sym err) h

pub invariant_of-self : goal.invariant_of-self
invariant_of-self c =
    let old = c.self.inside.pairs.items in
    kept c.set_in.result old (with_cell old c.args.cell c.args.v) _ c.self.invariant (with_cell-IsDelta old c.args.cell c.args.v c.self.invariant c.requires) c.set_in.ensures.ok c.set_in.ensures.err
