-- Pieces appended one after the other.
use Rattle.std.proofs.Common.{◌≡◌, List, ℕ, ◌++◌, sym, ap, ◌∙◌, append_assoc}

-- two pieces as one
pub left2 : (p o a b : List ℕ) → p ≡ (o ++ a) ++ b → p ≡ o ++ (a ++ b)
left2 p o a b h = h ∙ append_assoc o a b

-- three pieces as one
pub left3 : (p o a b c : List ℕ) → p ≡ ((o ++ a) ++ b) ++ c → p ≡ o ++ ((a ++ b) ++ c)
left3 p o a b c h = h ∙ append_assoc (o ++ a) b c ∙ append_assoc o a (b ++ c) ∙ ap (λ (l : List ℕ). o ++ l) (sym (append_assoc a b c))

pub joined2 : (o p q a b : List ℕ) → p ≡ o ++ a → q ≡ p ++ b → q ≡ o ++ (a ++ b)
joined2 o p q a b h k = k ∙ ap (λ (l : List ℕ). l ++ b) h ∙ append_assoc o a b

pub joined3 : (o p q r a b c : List ℕ) → p ≡ o ++ a → q ≡ p ++ b → r ≡ q ++ c → r ≡ o ++ ((a ++ b) ++ c)
joined3 o p q r a b c h k l = joined2 o q r (a ++ b) c (joined2 o p q a b h k) l

pub joined4 : (o p q r s a b c d : List ℕ) → p ≡ o ++ a → q ≡ p ++ b → r ≡ q ++ c → s ≡ r ++ d → s ≡ o ++ (((a ++ b) ++ c) ++ d)
joined4 o p q r s a b c d h k l m = joined2 o r s ((a ++ b) ++ c) d (joined3 o p q r a b c h k l) m
