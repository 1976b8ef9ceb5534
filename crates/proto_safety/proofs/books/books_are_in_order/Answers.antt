use Rattle.proto_safety.proofs.Store.BooksInOrder.{books_in_order}
use Rattle.proto_safety.proofs.books.books_are_in_order.Goals as goal

pub returns : goal.returns
returns c = books_in_order
