use Rattle.std.proofs.Common.{◌≡◌, take, List}
use Rattle.app_data.specs.declared.value.Value.{Value}
use Rattle.app_meaning.specs.Actions.{key_values}
use Rattle.exec_tables.specs.Applying.{code_values}
use Rattle.tree_eval.specs.Seen.{seen}
use Rattle.exec_tables.proofs.made.keys_of.Given as goal

abbrev pub invariant-loop-k : goal.invariant-loop-k
invariant-loop-k l = (values : List Value) → code_values l.cs values ≡ key_values (take l.k-index l.keys) (seen l.sc) values
