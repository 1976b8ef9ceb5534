-- Tables are spelled again by their canonical tokens: their properties stand there in the order of the grammar, and a call has its parentheses.
use Rattle.std.proofs.Common.{◌≡◌, ℕ, zero, suc, Bool, true, false, List, [], ◌∷◌, ◌++◌, map, Option, Some, None, refl, sym, ap, subst, ◌∙◌, append_assoc, append-nil, inl, inr, ◌⊎◌}
use Rattle.std.specs.Prelude.{option_map}
use Rattle.p4_lex.specs.declared.token.Token.{Token}
use Rattle.p4_lex.specs.declared.token.Sign.TheVariants as sign
use Rattle.p4_lex.specs.declared.token.Lexeme.{Lexeme}
use Rattle.p4_lex.specs.declared.token.Lexeme.TheVariants as lexeme
use Rattle.p4_ast.specs.declared.expression.P4Expr.{P4Expr}
use Rattle.p4_ast.specs.declared.table.P4Default.{P4Default}
use Rattle.p4_ast.specs.declared.table.P4Entries.{P4Entries}
use Rattle.p4_ast.specs.declared.table.P4Size.{P4Size}
use Rattle.p4_ast.specs.Bare.{bare_name, bare_expr}
use Rattle.p4_ast.specs.BareProgram.{bare_call, bare_key, bare_keys, bare_acts, bare_default, bare_entry, bare_entries, bare_size, bare_table}
use Rattle.p4_print.specs.Shared.{the, maybe}
use Rattle.p4_print.specs.Expressions.{where_so, args_tokens}
use Rattle.p4_print.specs.Tables.{match_sign, key_tokens, keys_tokens, act_tokens, acts_tokens, call_tokens, default_tokens, entry_tokens, entries_tokens, size_tokens, table_tokens}
use Rattle.p4_grammar.specs.declared.mark.Properties.{Properties}
use Rattle.p4_grammar.specs.Forms.{Lang, only, either, steps, option}
use Rattle.p4_grammar.specs.Tokens.{is}
use Rattle.p4_grammar.specs.Values.{Env}
use Rattle.p4_grammar.specs.Trees.{no_properties, is_none, is_const}
use Rattle.p4_grammar.specs.GrammarExpressions.{args}
use Rattle.p4_grammar.specs.Grammar.{match_, key, keys, act, acts, call, default_of, entry, entries_of, size, const_or_none, default, entries, property, properties, table}
use Rattle.p4_grammar.proofs.Languages.{same, same_bind, same_either, dist, bind_only, ◌then◌}
use Rattle.p4_grammar.proofs.Basics.{tok, is_self}
use Rattle.p4_reread.specs.Again.{lexemes}
use Rattle.p4_reread.proofs.Again.{Parts, parts, none_at, All, Signs, all_join, Again, whole, step, last, fork, done, ends, sign-again, name-again, number-again, words_step, many-again, again_same, Says, says_bind, says_only, says_either, says_self, Spelt, all_true}
use Rattle.p4_reread.proofs.AgainExprs.{expr-again, args-again}
use Rattle.p4_reread.proofs.AgainDeclarations.{keyset-again}

-- ---- keys and actions

match-again : Again match_ (λ m. the (match_sign m) ∷ []) (λ m. m)
unfolding match_
match-again = whole (fork (words_step (sign.Exact ∷ []) (done refl refl)) (fork (words_step (sign.Lpm ∷ []) (done refl refl)) (words_step (sign.Ternary ∷ []) (done refl refl))))

key-again : (env : Env) → Again (key env) key_tokens bare_key
unfolding key key_tokens
key-again env = whole (step (expr-again env) λ x y e. words_step (sign.Colon ∷ []) (step match-again λ m n g. words_step (sign.Semicolon ∷ []) (done refl (λ i. record { at = 0; expr = e i; matching = g i }))))

keys-again : (env : Env) → Again (keys env) keys_tokens bare_keys
unfolding keys keys_tokens
keys-again env = whole (step (sign-again sign.Key) λ at other u. words_step (sign.Assign ∷ sign.OpenBrace ∷ []) (step (many-again (key-again env)) λ ks ls e. words_step (sign.CloseBrace ∷ []) (done refl (λ i. record { at = 0; keys = e i }))))

act-again : Again act act_tokens bare_name
unfolding act
act-again = whole (step name-again λ x y e. words_step (sign.Semicolon ∷ []) (done refl e))

acts-again : Again acts acts_tokens bare_acts
unfolding acts acts_tokens
acts-again = whole (step (sign-again sign.Actions) λ at other u. words_step (sign.Assign ∷ sign.OpenBrace ∷ []) (step (many-again act-again) λ xs ys e. words_step (sign.CloseBrace ∷ []) (done refl (λ i. record { at = 0; names = e i }))))

-- ---- calls

module _ (env : Env) where
  no_args : args env [] (tok 0 0 (the sign.Open) ∷ tok 0 0 (the sign.Close) ∷ [])
  unfolding args
  no_args = (0, tok 0 0 (the sign.Open) ∷ [], tok 0 0 (the sign.Close) ∷ [], refl, (tok 0 0 (the sign.Open), refl, is_self sign.Open), inl (0, tok 0 0 (the sign.Close) ∷ [], [], refl, (tok 0 0 (the sign.Close), refl, is_self sign.Close), (refl, refl)))

  maybe_back : (xs : List P4Expr) (w : List Token) → args env xs w ⊎ only [] xs w → (v : List Token) → lexemes v ≡ args_tokens xs → (ys : List P4Expr) × either (args env) (only []) ys v × (map bare_expr ys ≡ map bare_expr xs)
  maybe_back xs w (inl d) v e = let r : (ys : List P4Expr) × args env ys v × (map bare_expr ys ≡ map bare_expr xs) = (args-again env).back xs w d v e in (r.0, inl r.1, r.2)
  maybe_back xs w (inr d) v e =
      let r : (ys : List P4Expr) × args env ys v × (map bare_expr ys ≡ map bare_expr []) = (args-again env).back [] (tok 0 0 (the sign.Open) ∷ tok 0 0 (the sign.Close) ∷ []) no_args v (e ∙ ap args_tokens d.0) in
      (r.0, inl r.1, r.2 ∙ ap (map bare_expr) (sym d.0))

  maybe_kept : (V : Lexeme → Type 0) → Signs V → (xs : List P4Expr) (w : List Token) → args env xs w ⊎ only [] xs w → All V (lexemes w) → All V (args_tokens xs)
  unfolding args_tokens
  maybe_kept V s xs w (inl d) a = (args-again env).kept V s xs w d a
  maybe_kept V s xs w (inr d) a = subst (λ (q : List P4Expr). All V (args_tokens q)) (sym d.0) (s sign.Open, (s sign.Close, tt))

  -- arguments, or none without parentheses: then parentheses are written
  maybe_args-again : Again (either (args env) (only [])) args_tokens (map bare_expr)
  maybe_args-again = record { back = maybe_back; kept = maybe_kept }

  call-again : Again (call env) call_tokens bare_call
  unfolding call call_tokens
  call-again = again_same (same_bind same (λ x. dist then same_either same bind_only)) (whole (step name-again λ x y e. last maybe_args-again λ xs ys g. ends refl (λ i. record { at = 0; name = e i; args = g i })))

-- ---- properties

const-again : Again const_or_none (λ c. where_so (is_const c) sign.Const) is_const
unfolding const_or_none
const-again = whole (fork (last (sign-again sign.Const) λ at other u. ends refl refl) (done refl refl))

default-again : (env : Env) → Again (default env) default_tokens bare_default
unfolding default default_of default_tokens
default-again env = whole (step const-again λ c d e. step (sign-again sign.DefaultAction) λ at other u. words_step (sign.Assign ∷ []) (step (call-again env) λ f g h. words_step (sign.Semicolon ∷ []) (done refl (λ i. record { at = 0; const_ = e i; call = h i }))))

entry-again : (env : Env) → Again (entry env) entry_tokens bare_entry
unfolding entry entry_tokens
entry-again env = whole (step (keyset-again env) λ k l e. words_step (sign.Colon ∷ []) (step (call-again env) λ f g h. words_step (sign.Semicolon ∷ []) (done refl (λ i. record { at = 0; keyset = e i; call = h i }))))

entries-again : (env : Env) → Again (entries env) entries_tokens bare_entries
unfolding entries entries_of entries_tokens
entries-again env = whole (step const-again λ c d e. step (sign-again sign.Entries) λ at other u. words_step (sign.Assign ∷ sign.OpenBrace ∷ []) (step (many-again (entry-again env)) λ es fs g. words_step (sign.CloseBrace ∷ []) (done refl (λ i. record { at = 0; const_ = e i; entries = g i }))))

size-again : Again size size_tokens bare_size
unfolding size size_tokens
size-again = whole (step (sign-again sign.Size) λ at other u. words_step (sign.Assign ∷ []) (step number-again λ n m e. words_step (sign.Semicolon ∷ []) (done refl (λ i. record { at = 0; number = e i }))))

-- a property that some tokens spelled, where it is there
abbrev There : {A : Type 0} → (Lexeme → Type 0) → Lang A → Option A → Type 0
There V L None = Unit {0}
There V L (Some x) = Spelt V L x

record AllThere (env : Env) (V : Lexeme → Type 0) (a : Properties) : Type 0 where
  pub default : There V (default env) a.default
  pub entries : There V (entries env) a.entries
  pub size : There V size a.size

says_option : {A : Type 0} {V : Lexeme → Type 0} {L M : Lang A} {Q : A → Type 0} (b : Bool) → Says V L Q → Says V M Q → Says V (option b L M) Q
says_option true h k = says_either h k
says_option false h k = k

module _ (env : Env) (V : Lexeme → Type 0) where
  property_there : (a : Properties) → AllThere env V a → Says V (property env a) (AllThere env V)
  unfolding property
  property_there a h = says_option (is_none a.default) (says_bind says_self λ d s. says_only (record { default = s; entries = h.entries; size = h.size }))
      (says_option (is_none a.entries) (says_bind says_self λ e s. says_only (record { default = h.default; entries = s; size = h.size }))
      (says_option (is_none a.size) (says_bind says_self λ z s. says_only (record { default = h.default; entries = h.entries; size = s })) (record { at = λ x w d u. absurd d })))

  steps_there : (k : ℕ) (a : Properties) → AllThere env V a → Says V (steps k (property env) a) (AllThere env V)
  steps_there zero a h = record { at = λ x w d u. absurd d }
  steps_there (suc k) a h = says_either (says_bind (property_there a h) λ r g. steps_there k r g) (says_only h)

  properties_there : Says V (properties env) (AllThere env V)
  unfolding properties
  properties_there = record { at = λ x w d u. (steps_there d.0 no_properties (record { default = tt {0}; entries = tt {0}; size = tt {0} })).at x w d.1 u }

-- in the order of the grammar
abbrev properties_tokens : Properties → List Lexeme
properties_tokens a = maybe default_tokens a.default ++ (maybe entries_tokens a.entries ++ maybe size_tokens a.size)

abbrev bare_properties : Properties → Properties
bare_properties a = record { default = option_map bare_default a.default; entries = option_map bare_entries a.entries; size = option_map bare_size a.size }

there_kept : {A C : Type 0} (V : Lexeme → Type 0) → Signs V → (L : Lang A) (f : A → List Lexeme) (b : A → C) → Again L f b → (o : Option A) → There V L o → All V (maybe f o)
there_kept V s L f b h None t = tt
there_kept V s L f b h (Some x) t = h.kept V s x t.0 t.1 t.2

module _ (env : Env) where
  -- what the properties become from these on
  abbrev From : Properties → Properties → List Token → Type 0
  From a z u = (k : ℕ) × steps k (property env) a z u

  -- a property that is left out, or spelled again
  record Added {A C : Type 0} (b : A → C) (o : Option A) (start : Properties) (next : Option A → Properties) (u : List Token) : Type 0 where
    pub value : Option A
    pub same : option_map b value ≡ option_map b o
    pub spelt : (z : Properties) (r : List Token) → From (next value) z r → From start z (u ++ r)

  added : {A C : Type 0} (V : Lexeme → Type 0) (L : Lang A) (f : A → List Lexeme) (b : A → C) → Again L f b → (start : Properties) (next : Option A → Properties) → next None ≡ start → ((x : A) (u : List Token) → L x u → property env start (next (Some x)) u) → (o : Option A) → There V L o → (u : List Token) → lexemes u ≡ maybe f o → Added b o start next u
  added V L f b h start next is put None t u e = record { value = None; same = refl; spelt = λ z r d. subst (λ (q : List Token). From start z (q ++ r)) (sym (none_at u e)) (subst (λ (q : Properties). From q z r) is d) }
  added V L f b h start next is put (Some x) t u e =
      let y : (y : _) × L y u × (b y ≡ b x) = h.back x t.0 t.1 u e in
      record { value = Some y.0; same = ap Some y.2; spelt = λ z r d. (suc d.0, inl (next (Some y.0), u, r, refl, put y.0 u y.1, d.1)) }

  -- an alternative that stands behind one that may be left out
  later : {A : Type 0} (b : Bool) (L M : Lang A) (x : A) (u : List Token) → M x u → option b L M x u
  later true L M x u d = inr d
  later false L M x u d = d

  put_default : (x : P4Default) (u : List Token) → default env x u → property env no_properties (record { default = Some x; entries = None; size = None }) u
  unfolding property
  put_default x u d = inl (x, u, [], sym (append-nil u), d, (refl, refl))

  put_entries : (o : Option P4Default) (x : P4Entries) (u : List Token) → entries env x u → property env (record { default = o; entries = None; size = None }) (record { default = o; entries = Some x; size = None }) u
  unfolding property
  put_entries o x u d = later (is_none o) _ _ _ u (inl (x, u, [], sym (append-nil u), d, (refl, refl)))

  put_size : (o : Option P4Default) (e : Option P4Entries) (x : P4Size) (u : List Token) → size x u → property env (record { default = o; entries = e; size = None }) (record { default = o; entries = e; size = Some x }) u
  unfolding property
  put_size o e x u d = later (is_none o) _ _ _ u (later (is_none e) _ _ _ u (inl (x, u, [], sym (append-nil u), d, (refl, refl))))

  properties_back : (V : Lexeme → Type 0) (a : Properties) → AllThere env V a → (v : List Token) → lexemes v ≡ properties_tokens a → (z : Properties) × properties env z v × (bare_properties z ≡ bare_properties a)
  unfolding properties
  properties_back V a t v e =
      let p : Parts (maybe default_tokens a.default) (maybe entries_tokens a.entries ++ maybe size_tokens a.size) v = parts (maybe default_tokens a.default) (maybe entries_tokens a.entries ++ maybe size_tokens a.size) v e in
      let q : Parts (maybe entries_tokens a.entries) (maybe size_tokens a.size) p.behind = parts (maybe entries_tokens a.entries) (maybe size_tokens a.size) p.behind p.behinds in
      let d : Added bare_default a.default no_properties (λ o. record { default = o; entries = None; size = None }) p.front = added V (default env) default_tokens bare_default (default-again env) no_properties (λ o. record { default = o; entries = None; size = None }) refl put_default a.default t.default p.front p.fronts in
      let n : Added bare_entries a.entries (record { default = d.value; entries = None; size = None }) (λ o. record { default = d.value; entries = o; size = None }) q.front = added V (entries env) entries_tokens bare_entries (entries-again env) (record { default = d.value; entries = None; size = None }) (λ o. record { default = d.value; entries = o; size = None }) refl (put_entries d.value) a.entries t.entries q.front q.fronts in
      let s : Added bare_size a.size (record { default = d.value; entries = n.value; size = None }) (λ o. record { default = d.value; entries = n.value; size = o }) q.behind = added V size size_tokens bare_size size-again (record { default = d.value; entries = n.value; size = None }) (λ o. record { default = d.value; entries = n.value; size = o }) refl (put_size d.value n.value) a.size t.size q.behind q.behinds in
      let z : Properties = record { default = d.value; entries = n.value; size = s.value } in
      let whole_list : v ≡ p.front ++ (q.front ++ (q.behind ++ [])) = p.is ∙ ap (λ (r : List Token). p.front ++ r) (q.is ∙ ap (λ (r : List Token). q.front ++ r) (sym (append-nil q.behind))) in
      (z, subst (λ (r : List Token). From no_properties z r) (sym whole_list) (d.spelt z (q.front ++ (q.behind ++ [])) (n.spelt z (q.behind ++ []) (s.spelt z [] (1, inr (refl, refl))))), λ i. record { default = d.same i; entries = n.same i; size = s.same i })

  properties-again : Again (properties env) properties_tokens bare_properties
  properties-again = record {
    back = λ x w d v e. properties_back (λ l. Unit {0}) x ((properties_there env (λ l. Unit {0})).at x w d (all_true (lexemes w))) v e;
    kept = λ V s x w d a.
        let t : AllThere env V x = (properties_there env V).at x w d a in
        all_join V (maybe default_tokens x.default) (maybe entries_tokens x.entries ++ maybe size_tokens x.size) (there_kept V s (default env) default_tokens bare_default (default-again env) x.default t.default)
        (all_join V (maybe entries_tokens x.entries) (maybe size_tokens x.size) (there_kept V s (entries env) entries_tokens bare_entries (entries-again env) x.entries t.entries) (there_kept V s size size_tokens bare_size size-again x.size t.size));
  }

  -- the properties and the end of a table
  closing : (a : Properties) → maybe default_tokens a.default ++ (maybe entries_tokens a.entries ++ (maybe size_tokens a.size ++ (the sign.CloseBrace ∷ []))) ≡ properties_tokens a ++ (the sign.CloseBrace ∷ [])
  closing a = ap (λ (q : List Lexeme). maybe default_tokens a.default ++ q) (sym (append_assoc (maybe entries_tokens a.entries) (maybe size_tokens a.size) (the sign.CloseBrace ∷ []))) ∙ sym (append_assoc (maybe default_tokens a.default) (maybe entries_tokens a.entries ++ maybe size_tokens a.size) (the sign.CloseBrace ∷ []))

  pub table-again : Again (table env) table_tokens bare_table
  unfolding table table_tokens
  table-again = whole (step (sign-again sign.Table) λ at other u. step name-again λ x y e. words_step (sign.OpenBrace ∷ []) (step (keys-again env) λ ks ls g. step acts-again λ xs ys h. step properties-again λ a b l. words_step (sign.CloseBrace ∷ []) (done
      (ap (λ (q : List Lexeme). the sign.Table ∷ lexeme.Name x.text ∷ the sign.OpenBrace ∷ (keys_tokens ks ++ (acts_tokens xs ++ q))) (closing a))
      (λ i. record { at = 0; name = e i; keys = g i; acts = h i; default = (l i).default; entries = (l i).entries; size = (l i).size }))))
