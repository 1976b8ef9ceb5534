-- Lists are put together.
pub use Rattle.std.proofs.lemmas.List.{append_assoc}
