-- A fault has one place.
use Rattle.std.proofs.Common.{◌≡◌, List, [], ◌∷◌, ◌++◌, Result, Ok, Err, refl, sym, ap, subst, ◌∙◌}
use Rattle.std.proofs.lemmas.List.{append_assoc, append-nil}
use Rattle.p4_lex.specs.declared.token.Token.{Token}
use Rattle.p4_ast.specs.declared.program.P4Program.{P4Program}
use Rattle.p4_grammar.specs.Forms.{Lang, Begins, Refused, IsFault}
use Rattle.p4_grammar.specs.Grammar.{program}
use Rattle.p4_grammar.specs.Reading.{programs_of}
use Rattle.p4_grammar.proofs.Programs.{program_sound, program_fault}

module _ {A : Type 0} (L : Lang A) where
  fewer : (u v : List Token) → Begins L (u ++ v) → Begins L u
  fewer u v b = (b.0, v ++ b.1, subst (L b.0) (append_assoc u v b.1) b.2)

  -- one list is refused where the other goes on
  late : (p v : List Token) (a : Token) (r s : List Token) → r ≡ a ∷ (v ++ s) → Refused L (p ++ []) r → Begins L (p ++ a ∷ v) → ⊥
  late p v a r s e n c =
      let refused : Refused L (p ++ []) (a ∷ (v ++ s)) = subst (Refused L (p ++ [])) e n in
      let longer : Begins L (p ++ a ∷ [] ++ v) = subst (Begins L) (sym (append_assoc p (a ∷ []) v)) c in
      let begun : Begins L (p ++ a ∷ []) = fewer (p ++ a ∷ []) v longer in
      refused (subst (λ (q : List Token). Begins L (q ++ a ∷ [])) (sym (append-nil p)) begun)

  moved_on : (P : List Token → Type 0) (p u : List Token) (a b : Token) → a ≡ b → P (p ++ b ∷ u) → P (p ++ a ∷ [] ++ u)
  moved_on P p u a b e h = subst P (sym (append_assoc p (a ∷ []) u)) (subst (λ (x : Token). P (p ++ x ∷ u)) (sym e) h)

  one_place : (p u v r s : List Token) → u ++ r ≡ v ++ s → Begins L (p ++ u) → Refused L (p ++ u) r → Begins L (p ++ v) → Refused L (p ++ v) s → r ≡ s
  one_place p [] [] r s e b n c m = e
  one_place p [] (a ∷ v) r s e b n c m = absurd (late p v a r s e n c)
  one_place p (a ∷ u) [] r s e b n c m = absurd (late p u a s r (sym e) m b)
  one_place p (a ∷ u) (x ∷ v) r s e b n c m =
      let same : a ≡ x = cc in
      let rest : u ++ r ≡ v ++ s = cc in
      one_place (p ++ a ∷ []) u v r s rest (moved_on (Begins L) p u a a refl b) (moved_on (λ q. Refused L q r) p u a a refl n) (moved_on (Begins L) p v a x same c) (moved_on (λ q. Refused L q s) p v a x same m)

  pub fault_one : (w r s : List Token) → IsFault L w r → IsFault L w s → r ≡ s
  fault_one w r s f g = one_place [] f.0 g.0 r s (sym f.1 ∙ g.1) f.2 f.3 g.2 g.3

at_fault : (w r : List Token) (q : Result P4Program (List Token)) → programs_of w ≡ q → IsFault program w r → q ≡ Err r
at_fault w r (Ok x) e f = absurd (f.4 x (program_sound w x e))
at_fault w r (Err s) e f = ap Err (fault_one program w s r (program_fault w s e) f)

pub program_refused : (w r : List Token) → IsFault program w r → programs_of w ≡ Err r
program_refused w r f = at_fault w r (programs_of w) refl f
