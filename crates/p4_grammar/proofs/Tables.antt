-- The readers of tables fit.
use Rattle.std.proofs.Common.{◌≡◌, ℕ, zero, suc, ◌+◌, ◌≤◌, length, arith, Bool, true, false, cond, List, [], ◌∷◌, ◌++◌, Option, Some, None, refl, sym, subst, inl, inr}
use Rattle.p4_lex.specs.declared.token.Token.{Token}
use Rattle.p4_lex.specs.declared.token.Sign.TheVariants as sign
use Rattle.p4_lex.specs.declared.token.Lexeme.TheVariants as lexeme
use Rattle.p4_grammar.specs.declared.mark.Properties.{Properties}
use Rattle.p4_grammar.specs.Forms.{Lang, none, only, bind, either, taken, Reader, done_at, bind_at, hand, steps, option, option_at}
use Rattle.p4_grammar.specs.Tokens.{is, in_hand, one_of, but}
use Rattle.p4_grammar.specs.Values.{Env}
use Rattle.p4_grammar.specs.Trees.{keyset_place, start_of, is_const, no_properties, is_none, with_default, with_entries, with_size}
use Rattle.p4_grammar.specs.Grammar.{default_of, entry, entries_of, size, const_or_none, default, entries, property, properties, table}
use Rattle.p4_grammar.specs.Reading.{default_at, entry_at, entries_at, size_at, const_or_at, properties_at, table_at}
use Rattle.p4_grammar.proofs.Languages.{Same, same, same_bind, same_either, assoc, dist, bind_only, ◌then◌}
use Rattle.p4_grammar.proofs.Forms.{IsEnd, Reads, done-reads, either-reads, fits, fewer, shifted-reads, stuck-reads}
use Rattle.p4_grammar.proofs.Basics.{free, is_free, tok, then-reads, words-reads, sign-reads, named-reads, Begins, begins_bind, choose-reads, said, sign_begins, behind-reads, some_by, any-reads}
use Rattle.p4_grammar.proofs.Expressions.{end_hand}
use Rattle.p4_grammar.proofs.Operands.{after_sign}
use Rattle.p4_grammar.proofs.Plain.{keys-reads, acts-reads, call-reads, size-reads, listed-reads}
use Rattle.p4_grammar.proofs.KeysetsSame.{keyset-reads}
use Rattle.p4_grammar.proofs.States.{keyset_goes}

default_of-reads : {n : ℕ} (env : Env) (c : Option ℕ) → Reads n (default_of env c) (default_of env c) free (default_at n env c)
unfolding default_of default_at
default_of-reads {n = n} env c = sign-reads sign.DefaultAction λ at. words-reads (sign.Assign ∷ []) (behind-reads (call-reads env) (λ f. sign_begins sign.Semicolon (λ i e. refl)) λ f. words-reads (sign.Semicolon ∷ []) (done-reads n free (record { at = start_of c at; const_ = is_const c; call = f })))

entry-reads : {n : ℕ} (env : Env) → Reads n (entry env) (entry env) free (entry_at n env)
unfolding entry entry_at
entry-reads {n = n} env = behind-reads (keyset-reads env) (λ k. sign_begins sign.Colon (λ i e. refl)) λ k. words-reads (sign.Colon ∷ []) (behind-reads (call-reads env) (λ f. sign_begins sign.Semicolon (λ i e. refl)) λ f. words-reads (sign.Semicolon ∷ []) (done-reads n free (record { at = keyset_place k; keyset = k; call = f })))

entry_goes : (env : Env) → Begins true (but sign.CloseBrace) (entry env)
unfolding entry
entry_goes env = begins_bind (keyset_goes env)

entries_of-reads : {n : ℕ} (env : Env) (c : Option ℕ) → Reads n (entries_of env c) (entries_of env c) free (entries_at n env c)
unfolding entries_of entries_at
entries_of-reads {n = n} env c = sign-reads sign.Entries λ at. words-reads (sign.Assign ∷ sign.OpenBrace ∷ []) (listed-reads sign.CloseBrace (λ i e. refl) (entry-reads env) (entry_goes env) (entry_goes env) λ es. done-reads n free (record { at = start_of c at; const_ = is_const c; entries = es }))

default_begins : {b : Bool} {t : Token → Bool} (env : Env) (c : Option ℕ) → ((at e : ℕ) → t (tok at e (lexeme.Sign sign.DefaultAction)) ≡ b) → Begins b t (default_of env c)
unfolding default_of
default_begins env c h = sign_begins sign.DefaultAction h

entries_begins : {b : Bool} {t : Token → Bool} (env : Env) (c : Option ℕ) → ((at e : ℕ) → t (tok at e (lexeme.Sign sign.Entries)) ≡ b) → Begins b t (entries_of env c)
unfolding entries_of
entries_begins env c h = sign_begins sign.Entries h

size_begins : {b : Bool} {t : Token → Bool} → ((at e : ℕ) → t (tok at e (lexeme.Sign sign.Size)) ≡ b) → Begins b t size
unfolding size
size_begins h = sign_begins sign.Size h

-- ---- properties: what the reader follows, where R is what follows one

abbrev Parts : Type 1
Parts = Option ℕ → Lang Properties

unfoldable pub const_or : Bool → Bool → Parts → Parts → Lang Properties → Lang Properties
const_or true true D E Q = either (bind (taken (is sign.Const)) λ at. either (D (Some at)) (E (Some at))) Q
const_or true false D E Q = either (bind (taken (is sign.Const)) λ at. D (Some at)) Q
const_or false true D E Q = either (bind (taken (is sign.Const)) λ at. E (Some at)) Q
const_or false false D E Q = Q

abbrev defaults : Env → Properties → (Properties → Lang Properties) → Parts
defaults env a R c = bind (default_of env c) λ d. R (with_default a d)

abbrev entriess : Env → Properties → (Properties → Lang Properties) → Parts
entriess env a R c = bind (entries_of env c) λ e. R (with_entries a e)

abbrev sizes : Properties → (Properties → Lang Properties) → Lang Properties
sizes a R = bind size λ s. R (with_size a s)

abbrev fproperty : Env → Properties → (Properties → Lang Properties) → Lang Properties
fproperty env a R = const_or (is_none a.default) (is_none a.entries) (defaults env a R) (entriess env a R)
    (option (is_none a.default) (defaults env a R None) (option (is_none a.entries) (entriess env a R None) (option (is_none a.size) (sizes a R) (only a))))

-- ---- both ways

option-bind : {A B : Type 0} (b : Bool) (L M : Lang A) (K : A → Lang B) → Same (bind (option b L M) K) (option b (bind L K) (bind M K))
option-bind true L M K = dist
option-bind false L M K = same

same_option : {A : Type 0} (b : Bool) {L M N O : Lang A} → Same L M → Same N O → Same (option b L N) (option b M O)
same_option true h k = same_either h k
same_option false h k = k

none-bind : {A B : Type 0} (K : A → Lang B) → Same (bind none K) none
none-bind K = record { to = λ y w d. absurd d.4; back = λ y w d. absurd d }

const-same : {A : Type 0} (K : Option ℕ → Lang A) → Same (bind const_or_none K) (either (bind (taken (is sign.Const)) λ at. K (Some at)) (K None))
unfolding const_or_none
const-same K = dist then same_either (assoc then same_bind same (λ at. bind_only)) bind_only

-- the grammar's form, with what follows a property
spread : Env → Properties → (Properties → Lang Properties) → Lang Properties
spread env a R = option (is_none a.default) (either (bind (taken (is sign.Const)) λ at. defaults env a R (Some at)) (defaults env a R None))
    (option (is_none a.entries) (either (bind (taken (is sign.Const)) λ at. entriess env a R (Some at)) (entriess env a R None))
    (option (is_none a.size) (sizes a R) none))

spread-same : (env : Env) (a : Properties) (R : Properties → Lang Properties) → Same (bind (property env a) R) (spread env a R)
unfolding property default entries spread
spread-same env a R =
    option-bind (is_none a.default) _ _ R then same_option (is_none a.default) (assoc then (assoc then (same_bind same (λ c. same_bind same (λ d. bind_only)) then const-same (defaults env a R))))
    (option-bind (is_none a.entries) _ _ R then same_option (is_none a.entries) (assoc then (assoc then (same_bind same (λ c. same_bind same (λ e. bind_only)) then const-same (entriess env a R))))
    (option-bind (is_none a.size) _ _ R then same_option (is_none a.size) (assoc then same_bind same (λ s. bind_only)) (none-bind R)))

module _ (y : Properties) (w : List Token) (D E : Parts) (S O : Lang Properties) where
  abbrev From : Bool → Bool → Bool → Type 0
  From nd ne ns = (either (option nd (either (bind (taken (is sign.Const)) λ at. D (Some at)) (D None)) (option ne (either (bind (taken (is sign.Const)) λ at. E (Some at)) (E None)) (option ns S none))) O) y w

  abbrev To : Bool → Bool → Bool → Type 0
  To nd ne ns = const_or nd ne D E (option nd (D None) (option ne (E None) (option ns S O))) y w

  turned : (nd ne ns : Bool) → From nd ne ns → To nd ne ns
  unfolding const_or
  turned true true ns (inl (inl (inl (at, a, b, e, c, d)))) = inl (at, a, b, e, c, inl d)
  turned true true ns (inl (inl (inr d))) = inr (inl d)
  turned true true ns (inl (inr (inl (inl (at, a, b, e, c, d))))) = inl (at, a, b, e, c, inr d)
  turned true true ns (inl (inr (inl (inr d)))) = inr (inr (inl d))
  turned true true true (inl (inr (inr (inl d)))) = inr (inr (inr (inl d)))
  turned true true true (inl (inr (inr (inr d)))) = absurd d
  turned true true false (inl (inr (inr d))) = absurd d
  turned true true true (inr d) = inr (inr (inr (inr d)))
  turned true true false (inr d) = inr (inr (inr d))
  turned true false ns (inl (inl (inl d))) = inl d
  turned true false ns (inl (inl (inr d))) = inr (inl d)
  turned true false true (inl (inr (inl d))) = inr (inr (inl d))
  turned true false true (inl (inr (inr d))) = absurd d
  turned true false false (inl (inr d)) = absurd d
  turned true false true (inr d) = inr (inr (inr d))
  turned true false false (inr d) = inr (inr d)
  turned false true ns (inl (inl (inl d))) = inl d
  turned false true ns (inl (inl (inr d))) = inr (inl d)
  turned false true true (inl (inr (inl d))) = inr (inr (inl d))
  turned false true true (inl (inr (inr d))) = absurd d
  turned false true false (inl (inr d)) = absurd d
  turned false true true (inr d) = inr (inr (inr d))
  turned false true false (inr d) = inr (inr d)
  turned false false true (inl (inl d)) = inl d
  turned false false true (inl (inr d)) = absurd d
  turned false false true (inr d) = inr d
  turned false false false (inl d) = absurd d
  turned false false false (inr d) = d

  returned : (nd ne ns : Bool) → To nd ne ns → From nd ne ns
  unfolding const_or
  returned true true ns (inl (at, a, b, e, c, inl d)) = inl (inl (inl (at, a, b, e, c, d)))
  returned true true ns (inl (at, a, b, e, c, inr d)) = inl (inr (inl (inl (at, a, b, e, c, d))))
  returned true true ns (inr (inl d)) = inl (inl (inr d))
  returned true true ns (inr (inr (inl d))) = inl (inr (inl (inr d)))
  returned true true true (inr (inr (inr (inl d)))) = inl (inr (inr (inl d)))
  returned true true true (inr (inr (inr (inr d)))) = inr d
  returned true true false (inr (inr (inr d))) = inr d
  returned true false ns (inl d) = inl (inl (inl d))
  returned true false ns (inr (inl d)) = inl (inl (inr d))
  returned true false true (inr (inr (inl d))) = inl (inr (inl d))
  returned true false true (inr (inr (inr d))) = inr d
  returned true false false (inr (inr d)) = inr d
  returned false true ns (inl d) = inl (inl (inl d))
  returned false true ns (inr (inl d)) = inl (inl (inr d))
  returned false true true (inr (inr (inl d))) = inl (inr (inl d))
  returned false true true (inr (inr (inr d))) = inr d
  returned false true false (inr (inr d)) = inr d
  returned false false true (inl d) = inl (inl d)
  returned false false true (inr d) = inr d
  returned false false false d = inr d

turn-same : (D E : Parts) (S O : Lang Properties) (nd ne ns : Bool) → Same (either (option nd (either (bind (taken (is sign.Const)) λ at. D (Some at)) (D None)) (option ne (either (bind (taken (is sign.Const)) λ at. E (Some at)) (E None)) (option ns S none))) O) (const_or nd ne D E (option nd (D None) (option ne (E None) (option ns S O))))
turn-same D E S O nd ne ns = record { to = λ y w. turned y w D E S O nd ne ns; back = λ y w. returned y w D E S O nd ne ns }

property-same : (env : Env) (a : Properties) (R : Properties → Lang Properties) → Same (either (bind (property env a) R) (only a)) (fproperty env a R)
unfolding spread
property-same env a R = same_either (spread-same env a R) same then turn-same (defaults env a R) (entriess env a R) (sizes a R) (only a) (is_none a.default) (is_none a.entries) (is_none a.size)

-- ---- the reader

-- what may go on behind some properties
abbrev pub EP : Token → Bool
EP a = one_of (sign.Const ∷ sign.DefaultAction ∷ sign.Entries ∷ sign.Size ∷ []) a

ep_const : (a b c d : Bool) → cond a true (cond b true (cond c true (cond d true false))) ≡ false → a ≡ false
ep_const true b c d e = absurd cc
ep_const false b c d e = refl

ep_default : (a b c d : Bool) → cond a true (cond b true (cond c true (cond d true false))) ≡ false → b ≡ false
ep_default true b c d e = absurd cc
ep_default false true c d e = absurd cc
ep_default false false c d e = refl

ep_entries : (a b c d : Bool) → cond a true (cond b true (cond c true (cond d true false))) ≡ false → c ≡ false
ep_entries true b c d e = absurd cc
ep_entries false true c d e = absurd cc
ep_entries false false true d e = absurd cc
ep_entries false false false d e = refl

ep_size : (a b c d : Bool) → cond a true (cond b true (cond c true (cond d true false))) ≡ false → d ≡ false
ep_size true b c d e = absurd cc
ep_size false true c d e = absurd cc
ep_size false false true d e = absurd cc
ep_size false false false true e = absurd cc
ep_size false false false false e = refl

-- no token of the test stands in front
abbrev Away : (Token → Bool) → Lang Properties → Type 0
Away t L = (y : Properties) (u m : List Token) → L y u → IsEnd EP m → hand t (u ++ m) ≡ false

away_begins : (t : Token → Bool) (L : Lang Properties) → Begins false t L → Away t L
away_begins t L h y u m d end = h.at y u m d

away_only : (t : Token → Bool) (a : Properties) → ((b : Token) → EP b ≡ false → t b ≡ false) → Away t (only a)
away_only t a h y u m d end = subst (λ (q : List Token). hand t (q ++ m) ≡ false) (sym d.1) (end_hand EP t h m end)

away_option : (t : Token → Bool) (b : Bool) (L M : Lang Properties) → Away t L → Away t M → Away t (option b L M)
away_option t true L M h k y u m (inl d) end = h y u m d end
away_option t true L M h k y u m (inr d) end = k y u m d end
away_option t false L M h k y u m d end = k y u m d end

opt-reads : {N : ℕ} {D U D2 U2 : Lang Properties} {p q : Reader Properties} (b : Bool) (t : Token → Bool) → Reads N D U (λ r. EP) p → Begins true t D → Reads N D2 U2 (λ r. EP) q → Away t D2 → Reads N (option b D D2) (option b U U2) (λ r. EP) (option_at b t p q)
opt-reads {N = N} {D = D} {U = U} {D2 = D2} {U2 = U2} {p = p} {q = q} true t h k i away = either-reads N t D U (λ r. EP) p D2 U2 q h i k.at away
opt-reads false t h k i away = i

module _ (n c : ℕ) (le : suc c ≤ n) (env : Env) (RD RU : Properties → Lang Properties) (ih : (r : Properties) → Reads c (RD r) (RU r) (λ r. EP) (properties_at n env c r)) (a : Properties) where
  default_long : (o : Option ℕ) (x : _) (u : List Token) → default_of env o x u → suc c ≤ length u + c
  default_long o x u d = let one : 1 ≤ length u = some_by (in_hand sign.DefaultAction) u ((default_begins {t = in_hand sign.DefaultAction} env o (λ i e. refl)).at x u [] d) in omega arith

  entries_long : (o : Option ℕ) (x : _) (u : List Token) → entries_of env o x u → suc c ≤ length u + c
  entries_long o x u d = let one : 1 ≤ length u = some_by (in_hand sign.Entries) u ((entries_begins {t = in_hand sign.Entries} env o (λ i e. refl)).at x u [] d) in omega arith

  size_long : (x : _) (u : List Token) → size x u → suc c ≤ length u + c
  size_long x u d = let one : 1 ≤ length u = some_by (in_hand sign.Size) u ((size_begins {t = in_hand sign.Size} (λ i e. refl)).at x u [] d) in omega arith

  part_d : Option ℕ → Reader Properties
  part_d o = bind_at (default_at n env o) λ d. properties_at n env c (with_default a d)

  part_e : Option ℕ → Reader Properties
  part_e o = bind_at (entries_at n env o) λ e. properties_at n env c (with_entries a e)

  part_s : Reader Properties
  part_s = bind_at size_at λ s. properties_at n env c (with_size a s)

  d-reads : (o : Option ℕ) → Reads (suc c) (defaults env a RD o) (defaults env a RU o) (λ r. EP) (part_d o)
  unfolding part_d
  d-reads o = shifted-reads (suc c) c (default_of env o) (default_of env o) free (default_at n env o) (λ d. RD (with_default a d)) (λ d. RU (with_default a d)) (λ r. EP) (λ d. properties_at n env c (with_default a d)) (default_of-reads_ (suc c) le o) (λ d. ih (with_default a d)) (default_long o) (λ x y v m d end. is_free (v ++ m)) where
    default_of-reads_ : (j : ℕ) → j ≤ n → (o : Option ℕ) → Reads j (default_of env o) (default_of env o) free (default_at n env o)
    default_of-reads_ j l o = fewer j n (default_of env o) (default_of env o) free (default_at n env o) l (default_of-reads env o)

  e-reads : (o : Option ℕ) → Reads (suc c) (entriess env a RD o) (entriess env a RU o) (λ r. EP) (part_e o)
  unfolding part_e
  e-reads o = shifted-reads (suc c) c (entries_of env o) (entries_of env o) free (entries_at n env o) (λ d. RD (with_entries a d)) (λ d. RU (with_entries a d)) (λ r. EP) (λ d. properties_at n env c (with_entries a d)) (fewer (suc c) n (entries_of env o) (entries_of env o) free (entries_at n env o) le (entries_of-reads env o)) (λ d. ih (with_entries a d)) (entries_long o) (λ x y v m d end. is_free (v ++ m))

  s-reads : Reads (suc c) (sizes a RD) (sizes a RU) (λ r. EP) part_s
  unfolding part_s
  s-reads = shifted-reads (suc c) c size size free size_at (λ d. RD (with_size a d)) (λ d. RU (with_size a d)) (λ r. EP) (λ d. properties_at n env c (with_size a d)) size-reads (λ d. ih (with_size a d)) size_long (λ x y v m d end. is_free (v ++ m))

  d_low : (o : Option ℕ) → Reads c (defaults env a RD o) (defaults env a RU o) (λ r. EP) (part_d o)
  d_low o = fewer c (suc c) _ _ (λ r. EP) _ (omega arith) (d-reads o)

  e_low : (o : Option ℕ) → Reads c (entriess env a RD o) (entriess env a RU o) (λ r. EP) (part_e o)
  e_low o = fewer c (suc c) _ _ (λ r. EP) _ (omega arith) (e-reads o)

  size_part : (R : Properties → Lang Properties) → Lang Properties
  size_part R = option (is_none a.size) (sizes a R) (only a)

  entries_part : (R : Properties → Lang Properties) → Lang Properties
  entries_part R = option (is_none a.entries) (entriess env a R None) (size_part R)

  plain_part : (R : Properties → Lang Properties) → Lang Properties
  plain_part R = option (is_none a.default) (defaults env a R None) (entries_part R)

  size_away : (t : Token → Bool) → ((at e : ℕ) → t (tok at e (lexeme.Sign sign.Size)) ≡ false) → ((b : Token) → EP b ≡ false → t b ≡ false) → Away t (size_part RD)
  unfolding size_part
  size_away t h k = away_option t (is_none a.size) (sizes a RD) (only a) (away_begins t (sizes a RD) (begins_bind (size_begins h))) (away_only t a k)

  entries_away : (t : Token → Bool) → ((at e : ℕ) → t (tok at e (lexeme.Sign sign.Size)) ≡ false) → ((at e : ℕ) → t (tok at e (lexeme.Sign sign.Entries)) ≡ false) → ((b : Token) → EP b ≡ false → t b ≡ false) → Away t (entries_part RD)
  unfolding entries_part
  entries_away t h i k = away_option t (is_none a.entries) (entriess env a RD None) (size_part RD) (away_begins t (entriess env a RD None) (begins_bind (entries_begins env None i))) (size_away t h k)

  const_away : Away (in_hand sign.Const) (plain_part RD)
  unfolding plain_part
  const_away = away_option (in_hand sign.Const) (is_none a.default) (defaults env a RD None) (entries_part RD) (away_begins (in_hand sign.Const) (defaults env a RD None) (begins_bind (default_begins env None (λ i e. refl)))) (entries_away (in_hand sign.Const) (λ i e. refl) (λ i e. refl) (λ b e. ep_const (in_hand sign.Const b) (in_hand sign.DefaultAction b) (in_hand sign.Entries b) (in_hand sign.Size b) e))

  plain_at : Reader Properties
  plain_at = option_at (is_none a.default) (in_hand sign.DefaultAction) (part_d None) (option_at (is_none a.entries) (in_hand sign.Entries) (part_e None) (option_at (is_none a.size) (in_hand sign.Size) part_s (done_at a)))

  plain_part-reads : Reads (suc c) (plain_part RD) (plain_part RU) (λ r. EP) plain_at
  unfolding plain_part entries_part size_part plain_at
  plain_part-reads = opt-reads (is_none a.default) (in_hand sign.DefaultAction) (d-reads None) (begins_bind (default_begins env None (λ i e. refl)))
      (opt-reads (is_none a.entries) (in_hand sign.Entries) (e-reads None) (begins_bind (entries_begins env None (λ i e. refl)))
      (opt-reads (is_none a.size) (in_hand sign.Size) s-reads (begins_bind (size_begins (λ i e. refl))) (done-reads (suc c) (λ r. EP) a)
      (away_only (in_hand sign.Size) a (λ b e. ep_size (in_hand sign.Const b) (in_hand sign.DefaultAction b) (in_hand sign.Entries b) (in_hand sign.Size b) e)))
      (size_away (in_hand sign.Entries) (λ i e. refl) (λ b e. ep_entries (in_hand sign.Const b) (in_hand sign.DefaultAction b) (in_hand sign.Entries b) (in_hand sign.Size b) e)))
      (entries_away (in_hand sign.DefaultAction) (λ i e. refl) (λ i e. refl) (λ b e. ep_default (in_hand sign.Const b) (in_hand sign.DefaultAction b) (in_hand sign.Entries b) (in_hand sign.Size b) e))

  const_or-reads : (nd ne : Bool) → Reads (suc c) (const_or nd ne (defaults env a RD) (entriess env a RD) (plain_part RD)) (const_or nd ne (defaults env a RU) (entriess env a RU) (plain_part RU)) (λ r. EP) (const_or_at nd ne part_d part_e plain_at)
  unfolding const_or const_or_at
  const_or-reads true true = either-reads (suc c) (in_hand sign.Const) _ _ (λ r. EP) _ (plain_part RD) (plain_part RU) plain_at
      (after_sign sign.Const λ at. choose-reads (in_hand sign.DefaultAction) (d_low (Some at)) (e_low (Some at)) (begins_bind (default_begins env (Some at) (λ i e. refl))) (begins_bind (entries_begins env (Some at) (λ i e. refl))))
      plain_part-reads (sign_begins {t = in_hand sign.Const} sign.Const (λ i e. refl)).at const_away
  const_or-reads true false = either-reads (suc c) (in_hand sign.Const) _ _ (λ r. EP) _ (plain_part RD) (plain_part RU) plain_at
      (after_sign sign.Const λ at. d_low (Some at)) plain_part-reads (sign_begins {t = in_hand sign.Const} sign.Const (λ i e. refl)).at const_away
  const_or-reads false true = either-reads (suc c) (in_hand sign.Const) _ _ (λ r. EP) _ (plain_part RD) (plain_part RU) plain_at
      (after_sign sign.Const λ at. e_low (Some at)) plain_part-reads (sign_begins {t = in_hand sign.Const} sign.Const (λ i e. refl)).at const_away
  const_or-reads false false = plain_part-reads

  pub fproperty-reads : Reads (suc c) (fproperty env a RD) (fproperty env a RU) (λ r. EP) (properties_at n env (suc c) a)
  unfolding properties_at plain_part entries_part size_part plain_at part_d part_e part_s
  fproperty-reads = const_or-reads (is_none a.default) (is_none a.entries)

property_step : (n c k : ℕ) (env : Env) (a : Properties) → suc c ≤ n → ((r : Properties) → Reads c (steps k (property env) r) (steps (suc c) (property env) r) (λ r. EP) (properties_at n env c r)) → Reads (suc c) (steps (suc k) (property env) a) (steps (suc (suc c)) (property env) a) (λ r. EP) (properties_at n env (suc c) a)
property_step n c k env a le ih = said (fproperty-reads n c le env (λ r. steps k (property env) r) (λ r. steps (suc c) (property env) r) ih a) (property-same env a (λ r. steps k (property env) r)) (property-same env a (λ r. steps (suc c) (property env) r))

bounded-reads : (n c k : ℕ) (env : Env) (a : Properties) → c ≤ n → Reads c (steps k (property env) a) (steps (suc c) (property env) a) (λ r. EP) (properties_at n env c a)
unfolding properties_at
bounded-reads n zero k env a le = stuck-reads (steps k (property env) a) (steps 1 (property env) a) (λ r. EP) a [] (inr (refl, refl))
bounded-reads n (suc c) zero env a le = fits (suc c) (steps 1 (property env) a) (steps (suc (suc c)) (property env) a) none (steps (suc (suc c)) (property env) a) (λ r. EP) (λ r. EP) (properties_at n env (suc c) a) (property_step n c 0 env a le (λ r. bounded-reads n c 0 env r (omega arith))) (λ x u d. absurd d) (λ x u d. d) (λ x m end. end)
bounded-reads n (suc c) (suc k) env a le = property_step n c k env a le (λ r. bounded-reads n c k env r (omega arith))

pub properties-reads : {n : ℕ} (env : Env) → Reads n (properties env) (properties env) (λ r. EP) (properties_at n env n no_properties)
unfolding properties
properties-reads {n = n} env = any-reads (suc n) (λ k. bounded-reads n n k env no_properties (omega arith))

pub table-reads : {n : ℕ} (env : Env) → Reads n (table env) (table env) free (table_at n env)
unfolding table table_at
table-reads {n = n} env = sign-reads sign.Table λ at. named-reads λ x. words-reads (sign.OpenBrace ∷ []) (then-reads (keys-reads env) λ ks. then-reads acts-reads λ xs. behind-reads (properties-reads env) (λ a. sign_begins sign.CloseBrace (λ i e. refl)) λ a. words-reads (sign.CloseBrace ∷ []) (done-reads n free (record { at = at; name = x; keys = ks; acts = xs; default = a.default; entries = a.entries; size = a.size })))
