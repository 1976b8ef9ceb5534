use Rattle.rp_world.proofs.Calls.{feed_sized, feed_at_sized}
use Rattle.rp_world.proofs.world.is_sized.Goals as goal

pub returns-in-Feed : goal.returns-in-Feed
returns-in-Feed c setup fits = feed_sized setup c.args.e.now _ _ c.in-Feed.is c.is_port.ensures fits

pub returns-in-FeedAt : goal.returns-in-FeedAt
returns-in-FeedAt c setup fits = feed_at_sized setup c.args.e.now _ _ _ c.in-FeedAt.is c.is_port-in-FeedAt.ensures fits
