use Rattle.proto_safety.proofs.Store.EpochsCount as count
use Rattle.proto_safety.proofs.books.epochs_rise_by_one.Goals as goal

pub returns : goal.returns
returns c = record { each = count.each_book_counts; committed = count.committed_counts; serial = count.serials_go_by_epoch }
