use Rattle.proto_safety.proofs.Store.BookEpochLaws.{each_book_has_epochs, committed_has_epochs}
use Rattle.proto_safety.proofs.books.epochs_are_granted_once.Goals as goal

pub returns : goal.returns
returns c = record { each = each_book_has_epochs; committed = committed_has_epochs }
