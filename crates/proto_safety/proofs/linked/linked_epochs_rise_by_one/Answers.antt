use Rattle.proto_safety.proofs.Store.EpochsCount as count
use Rattle.proto_safety.proofs.linked.linked_epochs_rise_by_one.Goals as goal

pub returns : goal.returns
returns c = record { each = count.linked_books_count; committed = count.linked_committed_counts; serial = count.linked_serials_go_by_epoch }
