-- Nodes by their sort and number.
use Rattle.std.specs.Prelude.{Bool, true, false, ◌==◌}
use Rattle.rp_base.specs.declared.node.Node.{Node}

-- whether two nodes are one
abbrev pub same_node : Node → Node → Bool
same_node (Node.Switch n) (Node.Switch m) = n == m
same_node (Node.Replica n) (Node.Replica m) = n == m
same_node Node.Master Node.Master = true
same_node _ _ = false
