-- What is made of tables can be searched.
use Rattle.std.proofs.Common.{◌≡◌, zero, suc, List, [], ◌∷◌, length, refl, sym, ap, ◌∙◌, subst}
use Rattle.p4_ast.specs.declared.control.P4Local.{P4Local}
use Rattle.p4_ast.specs.declared.control.P4Local.TheVariants as tree
use Rattle.p4_ast.specs.declared.table.P4Key.{P4Key}
use Rattle.p4_ast.specs.declared.table.P4Table.{P4Table}
use Rattle.app_data.specs.declared.value.Value.{Value}
use Rattle.app_meaning.specs.Slots.{Scope}
use Rattle.app_meaning.specs.Actions.{key_values}
use Rattle.exec_code.specs.declared.code.Code.{Code}
use Rattle.exec_tables.specs.declared.local.Local.{Local}
use Rattle.exec_tables.specs.declared.local.Local.TheVariants as local
use Rattle.exec_tables.specs.declared.local.Table.{Table}
use Rattle.exec_tables.specs.Applying.{code_values}
use Rattle.exec_tables.specs.Locals.{IsTable, IsLocal, AreLocals}
use Rattle.exec_tables.specs.Ready.{IsReady, AreReady}
use Rattle.match_tables.proofs.Winners.{gone, some_is}

length_codes : (cs : List Code) (values : List Value) → length (code_values cs values) ≡ length cs
length_codes [] values = refl
length_codes (c ∷ cs) values = ap suc (length_codes cs values)

length_keys : (sc : Scope) (ks : List P4Key) (values : List Value) → length (key_values ks sc values) ≡ length ks
length_keys sc [] values = refl
length_keys sc (k ∷ ks) values = ap suc (length_keys sc ks values)

module _ (sc : Scope) (all : List P4Local) where
  table_ready : (t : P4Table) (x : Table) → IsTable sc all t x → length x.keys ≡ length x.rows.keys
  table_ready t x h = sym (length_codes x.keys []) ∙ ap length (h.keys []) ∙ length_keys sc t.keys.keys [] ∙ sym h.rows.long

  local_ready : (l : P4Local) (x : Local) → IsLocal sc all l x → IsReady x
  local_ready l (local.Action a) h = tt
  local_ready l local.Other h = tt
  local_ready (tree.Const c) (local.Table x) h = absurd h
  local_ready (tree.Var v) (local.Table x) h = absurd h
  local_ready (tree.Cell c) (local.Table x) h = absurd h
  local_ready (tree.Action a) (local.Table x) h = absurd h
  local_ready (tree.Table t) (local.Table x) h = table_ready t x h

  pub prepared : (ls : List P4Local) (xs : List Local) → AreLocals sc all ls xs → AreReady xs
  prepared [] [] h i x e = gone e
  prepared [] (y ∷ ys) h i x e = absurd h
  prepared (l ∷ ls) [] h i x e = absurd h
  prepared (l ∷ ls) (y ∷ ys) h zero x e = subst IsReady (some_is y x e) (local_ready l y h.0)
  prepared (l ∷ ls) (y ∷ ys) h (suc i) x e = prepared ls ys h.1 i x e
