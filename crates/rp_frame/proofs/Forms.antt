-- Forms: readers of several fields that make a value of them.
use Rattle.std.proofs.Common.{◌≡◌, ℕ, List, ◌++◌, Bool, true, ◌&&◌, Ok, sym, subst}
use Rattle.rp_frame.specs.Reading.{Reader, ◌>>=◌, done}
use Rattle.rp_frame.proofs.Codecs.{IsBytes, Took, Reads, Codec, chained, last}

-- a field: its reader, its spelling and its test
pub record Field (A : Type 0) : Type 0 where
  pub r : Reader A
  pub s : A → List ℕ
  pub F : A → Bool
  pub is : Codec r s F

-- a form: the values C x of its fields x
pub record Form (B : Type 0) : Type 1 where
  pub A : Type 0
  pub r : Reader B
  pub C : A → B
  pub s : A → List ℕ
  pub F : A → Bool
  pub is : Reads r C s F

abbrev pub form1 : {A Z : Type 0} → Field A → (A → Z) → Form Z
form1 {A} {Z} a C = record { A = A; r = a.r >>= λ x. done (C x); C = C; s = a.s; F = a.F; is = last a.r a.s a.F C a.is }

-- a field in front of forms
abbrev pub more : {A Z : Type 0} → Field A → (T : Type 0) → (g : A → Reader Z) (C : A → T → Z) (s : T → List ℕ) (F : T → Bool) → ((x : A) → Reads (g x) (C x) s F) → Form Z
more {A} {Z} a T g C s F others =
    record { A = A × T; r = a.r >>= g; C = λ p. C p.0 p.1; s = λ p. a.s p.0 ++ s p.1; F = λ p. a.F p.0 && F p.1; is = chained a.r g a.s a.F C (λ x t. s t) (λ x t. F t) a.is others }

abbrev pub form2 : {A A2 Z : Type 0} → Field A → Field A2 → (A → A2 → Z) → Form Z
form2 {A} {A2} {Z} a b C = more a A2 (λ x. (b.r >>= λ y. done (C x y))) C b.s b.F (λ x. (form1 b (C x)).is)

abbrev pub form3 : {A A2 A3 Z : Type 0} → Field A → Field A2 → Field A3 → (A → A2 → A3 → Z) → Form Z
form3 {A} {A2} {A3} {Z} a b c C =
    more a (A2 × A3) (λ x. (b.r >>= λ y. (c.r >>= λ z. done (C x y z)))) (λ x p. C x p.0 p.1) (λ p. b.s p.0 ++ c.s p.1) (λ p. b.F p.0 && c.F p.1) (λ x. (form2 b c (C x)).is)

abbrev pub form4 : {A A2 A3 A4 Z : Type 0} → Field A → Field A2 → Field A3 → Field A4 → (A → A2 → A3 → A4 → Z) → Form Z
form4 {A} {A2} {A3} {A4} {Z} a b c d C =
    more a (A2 × (A3 × A4)) (λ x. (b.r >>= λ y. (c.r >>= λ z. (d.r >>= λ w. done (C x y z w))))) (λ x p. C x p.0 p.1.0 p.1.1) (λ p. b.s p.0 ++ (c.s p.1.0 ++ d.s p.1.1)) (λ p. b.F p.0 && (c.F p.1.0 && d.F p.1.1)) (λ x. (form3 b c d (C x)).is)

abbrev pub form5 : {A A2 A3 A4 A5 Z : Type 0} → Field A → Field A2 → Field A3 → Field A4 → Field A5 → (A → A2 → A3 → A4 → A5 → Z) → Form Z
form5 {A} {A2} {A3} {A4} {A5} {Z} a b c d e C =
    more a (A2 × (A3 × (A4 × A5))) (λ x. (b.r >>= λ y. (c.r >>= λ z. (d.r >>= λ w. (e.r >>= λ v. done (C x y z w v)))))) (λ x p. C x p.0 p.1.0 p.1.1.0 p.1.1.1)
    (λ p. b.s p.0 ++ (c.s p.1.0 ++ (d.s p.1.1.0 ++ e.s p.1.1.1))) (λ p. b.F p.0 && (c.F p.1.0 && (d.F p.1.1.0 && e.F p.1.1.1))) (λ x. (form4 b c d e (C x)).is)

abbrev pub form6 : {A A2 A3 A4 A5 A6 Z : Type 0} → Field A → Field A2 → Field A3 → Field A4 → Field A5 → Field A6 → (A → A2 → A3 → A4 → A5 → A6 → Z) → Form Z
form6 {A} {A2} {A3} {A4} {A5} {A6} {Z} a b c d e f C =
    more a (A2 × (A3 × (A4 × (A5 × A6)))) (λ x. (b.r >>= λ y. (c.r >>= λ z. (d.r >>= λ w. (e.r >>= λ v. (f.r >>= λ u. done (C x y z w v u))))))) (λ x p. C x p.0 p.1.0 p.1.1.0 p.1.1.1.0 p.1.1.1.1)
    (λ p. b.s p.0 ++ (c.s p.1.0 ++ (d.s p.1.1.0 ++ (e.s p.1.1.1.0 ++ f.s p.1.1.1.1)))) (λ p. b.F p.0 && (c.F p.1.0 && (d.F p.1.1.0 && (e.F p.1.1.1.0 && f.F p.1.1.1.1)))) (λ x. (form5 b c d e f (C x)).is)

-- what a reader that was chosen by a byte gives
pub record Chosen {B : Type 0} (tag : B → ℕ) (t : B → List ℕ) (G : B → Bool) (k at : ℕ) (bytes : List ℕ) (y : B) (next : ℕ) : Type 0 where
  pub sort : tag y ≡ k
  pub fits : G y ≡ true
  pub took : Took at bytes (t y) next

pub chosen : {B : Type 0} (f : Form B) (tag : B → ℕ) (t : B → List ℕ) (G : B → Bool) (k at : ℕ) (bytes : List ℕ) (y : B) (next : ℕ)
    → ((x : f.A) → tag (f.C x) ≡ k) → ((x : f.A) → t (f.C x) ≡ f.s x) → ((x : f.A) → f.F x ≡ true → G (f.C x) ≡ true) → IsBytes bytes → f.r at bytes ≡ Ok (y, next) → Chosen tag t G k at bytes y next
chosen {B} f tag t G k at bytes y next sort text test fits e =
    let one = f.is.takes at bytes y next fits e in
    subst (λ (z : B). Chosen tag t G k at bytes z next) one.is
    (record { sort = sort one.x; fits = test one.x one.fits; took = subst (λ (l : List ℕ). Took at bytes l next) (sym (text one.x)) one.took })
