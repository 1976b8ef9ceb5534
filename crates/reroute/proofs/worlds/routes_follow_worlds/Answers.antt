use Rattle.reroute.proofs.WorldRoutes.{picks_same, opens_same, acts_same, detects_same}
use Rattle.reroute.proofs.worlds.routes_follow_worlds.Goals as goal

pub returns-clause-opens : goal.returns-clause-opens
returns-clause-opens c = opens_same

pub returns-clause-picks : goal.returns-clause-picks
returns-clause-picks c = picks_same

pub returns-clause-acts : goal.returns-clause-acts
returns-clause-acts c = acts_same

pub returns-clause-detects : goal.returns-clause-detects
returns-clause-detects c = detects_same
