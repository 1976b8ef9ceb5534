use Rattle.proto_safety.proofs.Store.BooksInOrder.{committed_only_grows}
use Rattle.proto_safety.proofs.books.committed_book_grows.Goals as goal

pub returns : goal.returns
returns c = committed_only_grows
