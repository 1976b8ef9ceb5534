-- Which actions and tables of a control reach cells: those that the scope behind its declarations says of.
use Rattle.std.proofs.Common.{◌≡◌, ◌⊎◌, inl, inr, ℕ, Bool, true, false, not, List, [], ◌∷◌, ◌++◌, length, Option, Some, None, is_some, refl, sym, ap, ◌∙◌, subst, if◌then◌else◌}
use Rattle.std.specs.Prelude.{bytes_eq}
use Rattle.std.specs.Option.{option_map_or}
use Rattle.std.specs.Cmp.Derive.{both_true}
use Rattle.std.proofs.lemmas.Bool.{false≢true}
use Rattle.std.proofs.lemmas.Option.{none-some}
use Rattle.p4_ast.specs.declared.control.P4Local.{P4Local}
use Rattle.p4_ast.specs.declared.control.P4Local.TheVariants as local
use Rattle.p4_ast.specs.declared.control.P4Action.{P4Action}
use Rattle.p4_scope.specs.declared.thing.Thing.{Thing}
use Rattle.p4_scope.specs.declared.thing.Thing.TheVariants as thing
use Rattle.p4_scope.specs.declared.thing.Action.{Action}
use Rattle.p4_scope.specs.Scopes.{Text, Scope, find, each}
use Rattle.p4_scope.specs.FlowKeys.{action_uses}
use Rattle.p4_check.specs.Programs.{action_param, action, local_}
use Rattle.app_meaning.specs.Premises.{no_reach, block_facts, actions_keyless, calls}
use Rattle.check_laws.proofs.Clean.{get_last, same_text}
use Rattle.check_laws.proofs.Onward.{still_found, new_name}
use Rattle.check_laws.proofs.Lists.{each_front}
use Rattle.check_laws.proofs.Locals.{named, begun, body, named_onward, body_count, local_onward, locals_onward}
use Rattle.check_laws.proofs.Plain.{IsUsing, still_using}
use Rattle.check_laws.proofs.Quiet.{block_quiet}

-- ---- actions

action_keyless : (a : P4Action) (s : Scope) → (action a s).0.fault ≡ None → (block_facts no_reach (body a s).1).keyless ≡ true
action_keyless a s c = (block_quiet no_reach a.block (begun a s) c tt).keyless

pub locals_keyless : (ls : List P4Local) (s : Scope) → (each local_ ls s []).0.fault ≡ None → actions_keyless (each local_ ls s []).1 ≡ true
locals_keyless [] s = λ c. refl
locals_keyless (l ∷ ls) s =
    subst (λ (y : Scope × List P4Local). y.0.fault ≡ None → actions_keyless y.1 ≡ true) (sym (each_front local_ l ls s))
    (λ c. by l ((locals_onward ls (local_ l s).0).clean c) (locals_keyless ls (local_ l s).0 c))
  where
    by : (k : P4Local) → (local_ k s).0.fault ≡ None → actions_keyless (each local_ ls (local_ l s).0 []).1 ≡ true → actions_keyless ((local_ k s).1 ∷ (each local_ ls (local_ l s).0 []).1) ≡ true
    by (local.Action a) c h = both_true (action_keyless a s c) h
    by (local.Const x) c h = h
    by (local.Var x) c h = h
    by (local.Cell x) c h = h
    by (local.Table x) c h = h

-- a block that isn't calm has a use that is noted
noted_use : (a : P4Action) (s : Scope) → (action a s).0.fault ≡ None → not (block_facts no_reach (body a s).1).calm ≡ true → is_some (body a s).0.uses ≡ true
noted_use a s c h = by (body a s).0.uses refl
  where
    by : (o : Option ℕ) → (body a s).0.uses ≡ o → is_some o ≡ true
    by (Some n) e = refl
    by None e =
        let q = (block_quiet no_reach a.block (begun a s) c tt).calm (record { calls = λ x. refl; applies = λ x. refl }, e) in
        absurd (false≢true (sym (ap not q) ∙ h))

-- an action that reaches cells
action_using : (a : P4Action) (s : Scope) → (action a s).0.fault ≡ None → not (block_facts no_reach (body a s).1).calm ≡ true → IsUsing (action a s).0 a.name.text
action_using a s c h =
    let u : Scope = named a s in
    let t : Scope = (action a s).0 in
    let r : Scope = (body a s).0 in
    let new : Action = record { params = (each action_param a.params u []).1; uses = r.uses; reached = false } in
    record {
      number = length s.actions;
      found = still_found u t (named_onward a s) a.name.text _ (new_name a.name (thing.Action (length s.actions)) s ((named_onward a s).clean c)).found;
      uses =
          ap (λ (n : ℕ). action_uses t.actions n) (sym (body_count a s))
          ∙ (ap (λ (o : Option Action). option_map_or (λ (x : Action). is_some x.uses) o false) (get_last r.actions new) ∙ noted_use a s c h);
    }

using_named : (s : Scope) (x y : Text) → bytes_eq x y ≡ true → IsUsing s x → IsUsing s y
using_named s x y e h = subst (IsUsing s) (same_text x y e) h

-- a declaration of a name that reaches cells
local_using : (l : P4Local) (s : Scope) (x : Text) → (local_ l s).0.fault ≡ None → calls ((local_ l s).1 ∷ []) x ≡ true → IsUsing (local_ l s).0 x
local_using (local.Action a) s x c = by (bytes_eq a.name.text x) refl
  where
    by : (b : Bool) → bytes_eq a.name.text x ≡ b → (if b then not (block_facts no_reach (body a s).1).calm else false) ≡ true → IsUsing (action a s).0 x
    by true e h = using_named (action a s).0 a.name.text x e (action_using a s c h)
    by false e h = absurd (false≢true h)
local_using (local.Const a) s x c = λ h. absurd (false≢true h)
local_using (local.Var a) s x c = λ h. absurd (false≢true h)
local_using (local.Cell a) s x c = λ h. absurd (false≢true h)
local_using (local.Table a) s x c = λ h. absurd (false≢true h)

-- what is called in a list is called in its first part or in the rest
pub calls_either : (ls ms : List P4Local) (x : Text) → calls (ls ++ ms) x ≡ true → (calls ls x ≡ true) ⊎ (calls ms x ≡ true)
calls_either [] ms x h = inr h
calls_either (local.Action a ∷ ls) ms x h = by (bytes_eq a.name.text x) h (calls_either ls ms x)
  where
    by : (b : Bool) → (if b then not (block_facts no_reach a.block).calm else calls (ls ++ ms) x) ≡ true → (calls (ls ++ ms) x ≡ true → (calls ls x ≡ true) ⊎ (calls ms x ≡ true))
        → ((if b then not (block_facts no_reach a.block).calm else calls ls x) ≡ true) ⊎ (calls ms x ≡ true)
    by true h rest = inl h
    by false h rest = rest h
calls_either (local.Const a ∷ ls) ms x h = calls_either ls ms x h
calls_either (local.Var a ∷ ls) ms x h = calls_either ls ms x h
calls_either (local.Cell a ∷ ls) ms x h = calls_either ls ms x h
calls_either (local.Table a ∷ ls) ms x h = calls_either ls ms x h

-- the actions of these declarations that reach cells are known to
abbrev pub Known : List P4Local → Scope → Type 0
Known done s = (x : Text) → calls done x ≡ true → IsUsing s x

pub known_more : (done : List P4Local) (l : P4Local) (s : Scope) → Known done s → (local_ l s).0.fault ≡ None → Known (done ++ (local_ l s).1 ∷ []) (local_ l s).0
known_more done l s k c x h = by (calls_either done ((local_ l s).1 ∷ []) x h)
  where
    by : (calls done x ≡ true) ⊎ (calls ((local_ l s).1 ∷ []) x ≡ true) → IsUsing (local_ l s).0 x
    by (inl e) = still_using s (local_ l s).0 (local_onward l s) x (k x e)
    by (inr e) = local_using l s x c e

-- those of all declarations
pub known_all : (ls : List P4Local) (s : Scope) → (each local_ ls s []).0.fault ≡ None → (x : Text) → calls (each local_ ls s []).1 x ≡ true → IsUsing (each local_ ls s []).0 x
known_all [] s = λ c x h. absurd (false≢true h)
known_all (l ∷ ls) s =
    let r : Scope × P4Local = local_ l s in
    let rest : Scope × List P4Local = each local_ ls r.0 [] in
    subst (λ (y : Scope × List P4Local). y.0.fault ≡ None → (x : Text) → calls y.1 x ≡ true → IsUsing y.0 x) (sym (each_front local_ l ls s))
    (λ c x h. by c x (calls_either (r.1 ∷ []) rest.1 x h) (known_all ls r.0 c x))
  where
    by : (each local_ ls (local_ l s).0 []).0.fault ≡ None → (x : Text) → (calls ((local_ l s).1 ∷ []) x ≡ true) ⊎ (calls (each local_ ls (local_ l s).0 []).1 x ≡ true)
        → (calls (each local_ ls (local_ l s).0 []).1 x ≡ true → IsUsing (each local_ ls (local_ l s).0 []).0 x) → IsUsing (each local_ ls (local_ l s).0 []).0 x
    by c x (inl e) more = still_using (local_ l s).0 _ (locals_onward ls (local_ l s).0) x (local_using l s x ((locals_onward ls (local_ l s).0).clean c) e)
    by c x (inr e) more = more e

-- ---- names that are declared already

other_name : (a : P4Action) (s : Scope) (x : Text) (v : Thing) → find x s ≡ Some v → (action a s).0.fault ≡ None → bytes_eq a.name.text x ≡ false
other_name a s x v h c = off (bytes_eq a.name.text x) refl
  where
    off : (b : Bool) → bytes_eq a.name.text x ≡ b → b ≡ false
    off false e = refl
    off true e =
        let fresh = (new_name a.name (thing.Action (length s.actions)) s ((named_onward a s).clean c)).fresh in
        absurd (none-some v (sym fresh ∙ (ap (λ (y : Text). find y s) (same_text a.name.text x e) ∙ h)))

not_called : (l : P4Local) (s : Scope) (rest : List P4Local) (x : Text) (v : Thing) → find x s ≡ Some v → (local_ l s).0.fault ≡ None → calls rest x ≡ false → calls ((local_ l s).1 ∷ rest) x ≡ false
not_called (local.Action a) s rest x v h c more = ap (λ (b : Bool). if b then not (block_facts no_reach (body a s).1).calm else calls rest x) (other_name a s x v h c) ∙ more
not_called (local.Const a) s rest x v h c more = more
not_called (local.Var a) s rest x v h c more = more
not_called (local.Cell a) s rest x v h c more = more
not_called (local.Table a) s rest x v h c more = more

-- no action behind has the name of what is found before
pub no_later : (ls : List P4Local) (s : Scope) → (each local_ ls s []).0.fault ≡ None → (x : Text) (v : Thing) → find x s ≡ Some v → calls (each local_ ls s []).1 x ≡ false
no_later [] s = λ c x v h. refl
no_later (l ∷ ls) s =
    let r : Scope × P4Local = local_ l s in
    subst (λ (y : Scope × List P4Local). y.0.fault ≡ None → (x : Text) (v : Thing) → find x s ≡ Some v → calls y.1 x ≡ false) (sym (each_front local_ l ls s))
    (λ c x v h. not_called l s _ x v h ((locals_onward ls r.0).clean c) (no_later ls r.0 c x v (still_found s r.0 (local_onward l s) x v h)))
