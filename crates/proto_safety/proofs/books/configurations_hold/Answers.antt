use Rattle.proto_safety.proofs.Store.BooksInOrder.{configurations_hold}
use Rattle.proto_safety.proofs.books.configurations_hold.Goals as goal

pub returns : goal.returns
returns c = configurations_hold
