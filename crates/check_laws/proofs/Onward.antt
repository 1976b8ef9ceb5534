-- Each part of a program leaves a scope that comes behind the one before it: a fault stays, names are only added, `rp` isn't one of
-- them, and an action or a table that reads or writes a cell goes on to.
use Rattle.std.proofs.Common.{◌≡◌, ℕ, Bool, true, false, List, [], ◌∷◌, ◌++◌, length, take, append_assoc, cond, Option, Some, None, is_some, refl, sym, ap, ◌∙◌, codes, arith}
use Rattle.std.specs.Prelude.{bytes_eq}
use Rattle.std.specs.Map.{lookup}
use Rattle.std.proofs.lemmas.List.{append-nil}
use Rattle.std.proofs.lemmas.Bool.{or_parts}
use Rattle.std.proofs.Math.Seq.{take-append_seam}
use Rattle.rp_base.specs.declared.refused.Why.TheVariants as why
use Rattle.p4_ast.specs.declared.name.P4Name.{P4Name}
use Rattle.p4_scope.specs.declared.thing.Thing.{Thing}
use Rattle.p4_scope.specs.declared.thing.Site.{Site}
use Rattle.p4_scope.specs.declared.thing.Action.{Action}
use Rattle.p4_scope.specs.declared.thing.Table.{Table}
use Rattle.p4_scope.specs.Faults.{Fault, first_of, fault, fault_if}
use Rattle.p4_scope.specs.Scopes.{Text, Scope, note, find, declared_by, declare, is_in, reserved, leave}
use Rattle.p4_scope.specs.FlowKeys.{action_uses, table_uses}
use Rattle.check_laws.proofs.Clean.{clean_both, clean_if, not_clean, found_front, found_last, other_text, text_same}

-- `rp` isn't visible
abbrev pub NoRp : Scope → Type 0
NoRp s = find (codes "rp") s ≡ None

-- the second scope comes behind the first
pub record Onward (s t : Scope) : Type 0 where
  pub clean : t.fault ≡ None → s.fault ≡ None
  pub names : (more : List (Text × Thing)) × (t.names ≡ s.names ++ more)
  pub free : t.fault ≡ None → NoRp s → NoRp t
  pub actions : (n : ℕ) → action_uses s.actions n ≡ true → action_uses t.actions n ≡ true
  pub tables : (n : ℕ) → table_uses s.tables n ≡ true → table_uses t.tables n ≡ true

-- the same within a block or a parameter list, where neither cells nor actions are declared
pub record Within (s t : Scope) : Type 0 where
  pub on : Onward s t
  pub cells : t.cells ≡ s.cells
  pub count : length t.actions ≡ length s.actions
  pub uses : t.uses ≡ None → s.uses ≡ None

-- ---- one behind the other

pub onward_then : (s t u : Scope) → Onward s t → Onward t u → Onward s u
onward_then s t u h g = record {
  clean = λ e. h.clean (g.clean e);
  names = (h.names.0 ++ g.names.0, grind (arith, h.names.1, g.names.1, append_assoc));
  free = λ e r. g.free e (h.free (g.clean e) r);
  actions = λ n e. g.actions n (h.actions n e);
  tables = λ n e. g.tables n (h.tables n e);
}

pub within_then : (s t u : Scope) → Within s t → Within t u → Within s u
within_then s t u h g = record {
  on = onward_then s t u h.on g.on;
  cells = g.cells ∙ h.cells;
  count = g.count ∙ h.count;
  uses = λ e. h.uses (g.uses e);
}

-- names stay, and what is found stays found
pub still_found : (s t : Scope) → Onward s t → (x : Text) (v : Thing) → find x s ≡ Some v → find x t ≡ Some v
still_found s t h x v e = ap (lookup (bytes_eq x)) h.names.1 ∙ found_front (bytes_eq x) s.names h.names.0 v e

-- ---- single steps

-- where names, actions and tables are the same
pub same_within : (s t : Scope) → (t.fault ≡ None → s.fault ≡ None) → t.names ≡ s.names → t.cells ≡ s.cells → t.actions ≡ s.actions → t.tables ≡ s.tables → (t.uses ≡ None → s.uses ≡ None) → Within s t
same_within s t f n c a b u = record {
  on = record {
    clean = f;
    names = ([], n ∙ sym (append-nil s.names));
    free = λ e r. ap (lookup (bytes_eq (codes "rp"))) n ∙ r;
    actions = λ k e. ap (λ (x : List Action). action_uses x k) a ∙ e;
    tables = λ k e. ap (λ (x : List Table). table_uses x k) b ∙ e;
  };
  cells = c;
  count = ap (length {A = Action}) a;
  uses = u;
}

pub itself : (s : Scope) → Within s s
itself s = same_within s s (λ e. e) refl refl refl refl (λ e. e)

pub noted : (f : Fault) (s : Scope) → Within s (note f s)
noted f s = same_within s (note f s) (λ e. (clean_both s.fault f e).0) refl refl refl refl (λ e. e)

pub sited : (p : Site) (s : Scope) → Within s (record s { site = p })
sited p s = same_within s (record s { site = p }) (λ e. e) refl refl refl refl (λ e. e)

-- behind a block
pub left : (s t : Scope) → Within s t → Within s (leave s t)
left s t h = record {
  on = record {
    clean = h.on.clean;
    names = ([], back ∙ sym (append-nil s.names));
    free = λ e r. ap (lookup (bytes_eq (codes "rp"))) back ∙ r;
    actions = h.on.actions;
    tables = h.on.tables;
  };
  cells = h.cells;
  count = h.count;
  uses = h.uses;
}
  where
    back : take (length s.names) t.names ≡ s.names
    back = ap (take (length s.names)) h.on.names.1 ∙ take-append_seam s.names h.on.names.0

-- ---- declarations

-- a name that is declared without a fault: it is new, isn't `rp`, and is found behind it
pub record IsNew (x : P4Name) (v : Thing) (s t : Scope) : Type 0 where
  pub fresh : find x.text s ≡ None
  pub own : bytes_eq (codes "rp") x.text ≡ false
  pub found : find x.text t ≡ Some v

own_name : (x : P4Name) (f : Fault) → first_of f (fault_if (is_in x.text reserved) why.Twice x.at) ≡ None → bytes_eq (codes "rp") x.text ≡ false
own_name x f h =
    let bad : is_in x.text reserved ≡ false = clean_if (is_in x.text reserved) why.Twice x.at (clean_both f (fault_if (is_in x.text reserved) why.Twice x.at) h).1 in
    other_text x.text (codes "rp") (or_parts (bytes_eq x.text (codes "rp")) _ bad).0

declared_within : (x : P4Name) (v : Thing) (s : Scope) (b : Bool) → Within s (declared_by b x v s)
declared_within x v s true = noted (fault why.Twice x.at) s
declared_within x v s false = record {
  on = record {
    clean = λ e. (clean_both s.fault (fault_if (is_in x.text reserved) why.Twice x.at) e).0;
    names = ((x.text, v) ∷ [], refl);
    free = λ e r.
        found_last (bytes_eq (codes "rp")) s.names x.text v r ∙ ap (λ c. cond c (Some v) None) (own_name x s.fault e);
    actions = λ n e. e;
    tables = λ n e. e;
  };
  cells = refl;
  count = refl;
  uses = λ e. e;
}

pub declared : (x : P4Name) (v : Thing) (s : Scope) → Within s (declare x v s)
declared x v s = declared_within x v s (is_some (find x.text s))

pub new_name : (x : P4Name) (v : Thing) (s : Scope) → (declare x v s).fault ≡ None → IsNew x v s (declare x v s)
new_name x v s h = by (find x.text s) refl h
  where
    by : (o : Option Thing) → find x.text s ≡ o → (declared_by (is_some o) x v s).fault ≡ None → IsNew x v s (declare x v s)
    by (Some w) e f = absurd (not_clean why.Twice x.at (clean_both s.fault (fault why.Twice x.at) f).1)
    by None e f = record {
      fresh = e;
      own = own_name x s.fault f;
      found =
          ap (λ (c : Bool). find x.text (declared_by c x v s)) (ap is_some e)
          ∙ (found_last (bytes_eq x.text) s.names x.text v e ∙ ap (λ c. cond c (Some v) None) (text_same x.text));
    }

-- ---- a declaration changes nothing else

pub tables_declared : (x : P4Name) (v : Thing) (s : Scope) → (declare x v s).tables ≡ s.tables
tables_declared x v s = by (is_some (find x.text s))
  where
    by : (b : Bool) → (declared_by b x v s).tables ≡ s.tables
    by true = refl
    by false = refl

pub site_declared : (x : P4Name) (v : Thing) (s : Scope) → (declare x v s).site ≡ s.site
site_declared x v s = by (is_some (find x.text s))
  where
    by : (b : Bool) → (declared_by b x v s).site ≡ s.site
    by true = refl
    by false = refl
