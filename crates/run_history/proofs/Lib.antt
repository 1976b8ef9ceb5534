pub mod ShownLines
