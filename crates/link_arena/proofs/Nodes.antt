-- The table of nodes: which links and values a change leaves.
use Rattle.std.proofs.Common.{◌≡◌, ◌≢◌, ◌⊎◌, ℕ, zero, suc, ◌+◌, ◌<◌, ◌≤◌, Bool, true, false, List, [], ◌∷◌, ◌++◌, length, Option, Some, None, is_some, IsSome, refl, sym, ap, ◌∙◌, inl, inr, subst, arith, map, set, get_or, cond, count_by, rules, length-set}
use Rattle.std.specs.Prelude.{option_map, slice_set, sum_by, replicate}
use Rattle.std.proofs.lemmas.Bool.{cases_eq}
use Rattle.std.proofs.lemmas.List.{get_or-set_same, get_or-set_other, get_or_past}
use Rattle.std.proofs.lemmas.List.Sums.{sum_by-set}
use Rattle.slab.specs.Slab.{Slab, get, with_value, slab_len, Updates, ContainsKey}
use Rattle.link_arena.specs.declared.node.Which.{Which}
use Rattle.link_arena.specs.declared.node.Link.{Link}
use Rattle.link_arena.specs.declared.node.Node.{Node}
use Rattle.link_arena.specs.declared.ends.Ends.{Ends}
use Rattle.link_arena.specs.Links.{Links, Row, In, Apart, Tied, Home, first_of, last_of, list_at, lists_in, off, ends_of, put_next, put_prev, put_place, shorter, longer, other, link, with_link, link_at, value_at, edited, edited_to, lists_of, InOrder, IsLoose, TakenOff, PutLast, SameBut}
use Rattle.link_arena.proofs.Rows.{changed, changed_at, changed_off, row_same, row_link}
use Rattle.link_arena.proofs.Ties.{tied_lists, tied_same, in_range, taken_tied, taken_home, taken_away, put_tied, put_home, prev_in, next_in, own_list}

pub changed_same : (g f : Links) (e : Link → Link) (o : Option ℕ) (y : ℕ) → ((x : ℕ) → g x ≡ f x) → changed g e o y ≡ changed f e o y
changed_same g f e None y same = same y
changed_same g f e (Some x) y same = elim (cases_eq y x) [
  | inl at ↦ subst (λ (z : ℕ). changed g e (Some x) z ≡ changed f e (Some x) z) (sym at) (changed_at g e x ∙ (ap (option_map e) (same x) ∙ sym (changed_at f e x)))
  | inr differs ↦ changed_off g e (Some x) y (λ p. differs (only p)) ∙ (same y ∙ sym (changed_off f e (Some x) y (λ p. differs (only p))))
]
  where
    only : Some x ≡ Some y → y ≡ x
    only e = cc

-- each node but one stands on its list
abbrev pub HomeBut : ℕ → Links → List (List ℕ) → Type 0
HomeBut x f lists = (y : ℕ) (k : Link) → y ≢ x → f y ≡ Some k → In (list_at lists k.list) y

module _ {T : Type 0} where
  -- ---- one write

  pub get_written : (s : Slab (Node T)) (x : ℕ) (n v : Node T) → get s x ≡ Some n → get (with_value s x v) x ≡ Some v
  get_written s x n v is = get_or-set_same s.slots x (Some v) None (within (cases x))
    where
      cases : (y : ℕ) → (y < length s.slots) ⊎ (length s.slots ≤ y)
      cases y = grind arith

      within : (x < length s.slots) ⊎ (length s.slots ≤ x) → x < length s.slots
      within (inl h) = h
      within (inr h) = let none : get s x ≡ None = get_or_past s.slots x None h in cc

  pub get_kept : (s : Slab (Node T)) (x y : ℕ) (v : Node T) → y ≢ x → get (with_value s x v) y ≡ get s y
  get_kept s x y v ne = get_or-set_other s.slots x y (Some v) None ne

  pub len_written : (s : Slab (Node T)) (x : ℕ) (n v : Node T) → get s x ≡ Some n → slab_len (with_value s x v) ≡ slab_len s
  len_written s x n v is =
      let sums = sum_by-set (λ (o : Option (Node T)). cond (is_some o) 1 0) s.slots x (Some v) None (within (cases x)) in
      let one : ◌≡◌ {A = ℕ} (cond (is_some (get_or s.slots x None)) 1 0) 1 = ap (λ (o : Option (Node T)). cond (is_some o) 1 0) is in
      omega (arith, sums, one)
    where
      cases : (y : ℕ) → (y < length s.slots) ⊎ (length s.slots ≤ y)
      cases y = grind arith

      within : (x < length s.slots) ⊎ (length s.slots ≤ x) → x < length s.slots
      within (inl h) = h
      within (inr h) = let none : get s x ≡ None = get_or_past s.slots x None h in cc

  -- what a change of a link leaves alone
  edited_keeps : {X : Type 0} (F : Node T → X) (which : Which) (e : Link → Link) (s : Slab (Node T)) (o : Option ℕ) (y : ℕ) → ((n : Node T) (k : Link) → F (with_link which n k) ≡ F n) → option_map F (get (edited which e s o) y) ≡ option_map F (get s y)
  edited_keeps F which e s None y keeps = refl
  edited_keeps F which e s (Some x) y keeps = node_case (get s x) refl
    where
      node_case : (o : Option (Node T)) → get s x ≡ o → option_map F (get (edited_to which e s x o) y) ≡ option_map F (get s y)
      node_case None is = refl
      node_case (Some n) is = elim (cases_eq y x) [
        | inl same ↦
            ap (λ (z : ℕ). option_map F (get (with_value s x (with_link which n (e (link which n)))) z)) same
            ∙ (ap (option_map F) (get_written s x n (with_link which n (e (link which n))) is)
            ∙ (ap Some (keeps n (e (link which n))) ∙ (sym (ap (option_map F) is) ∙ ap (λ (z : ℕ). option_map F (get s z)) (sym same))))
        | inr differs ↦ ap (option_map F) (get_kept s x y (with_link which n (e (link which n))) differs)
      ]

  -- the links after a change of one
  pub edited_links : (which : Which) (e : Link → Link) (s : Slab (Node T)) (o : Option ℕ) (y : ℕ) → link_at which (edited which e s o) y ≡ changed (link_at which s) e o y
  edited_links which e s None y = refl
  edited_links which e s (Some x) y = node_case (get s x) refl
    where
      set_link : (w : Which) (n : Node T) (k : Link) → link w (with_link w n k) ≡ k
      set_link Which.A n k = refl
      set_link Which.B n k = refl

      node_case : (o : Option (Node T)) → get s x ≡ o → link_at which (edited_to which e s x o) y ≡ changed (link_at which s) e (Some x) y
      node_case None is = elim (cases_eq y x) [
        | inl same ↦
            subst (λ (z : ℕ). link_at which s z ≡ changed (link_at which s) e (Some x) z) (sym same)
            (ap (option_map (link which)) is ∙ sym (changed_at (link_at which s) e x ∙ ap (λ (o : Option (Node T)). option_map e (option_map (link which) o)) is))
        | inr differs ↦ sym (changed_off (link_at which s) e (Some x) y (λ p. differs (only p)))
      ]
        where
          only : Some x ≡ Some y → y ≡ x
          only e2 = cc
      node_case (Some n) is = elim (cases_eq y x) [
        | inl same ↦
            subst (λ (z : ℕ). link_at which (edited_to which e s x (Some n)) z ≡ changed (link_at which s) e (Some x) z) (sym same)
            (ap (option_map (link which)) (get_written s x n (with_link which n (e (link which n))) is)
            ∙ (ap Some (set_link which n (e (link which n))) ∙ sym (changed_at (link_at which s) e x ∙ ap (λ (o : Option (Node T)). option_map e (option_map (link which) o)) is)))
        | inr differs ↦
            ap (option_map (link which)) (get_kept s x y (with_link which n (e (link which n))) differs)
            ∙ sym (changed_off (link_at which s) e (Some x) y (λ p. differs (only p)))
      ]
        where
          only : Some x ≡ Some y → y ≡ x
          only e2 = cc

  pub same_edited : (which : Which) (e : Link → Link) (s : Slab (Node T)) (o : Option ℕ) → SameBut which s (edited which e s o)
  same_edited which e s o =
      record {
        values = λ x. edited_keeps (λ (n : Node T). n.value) which e s o x (value_kept which);
        others = λ x. edited_keeps (link (other which)) which e s o x (link_kept which);
        length = len_case o;
        capacity = capacity_case o;
      }
    where
      value_kept : (w : Which) (n : Node T) (k : Link) → (with_link w n k).value ≡ n.value
      value_kept Which.A n k = refl
      value_kept Which.B n k = refl

      link_kept : (w : Which) (n : Node T) (k : Link) → link (other w) (with_link w n k) ≡ link (other w) n
      link_kept Which.A n k = refl
      link_kept Which.B n k = refl

      len_at : (x : ℕ) (o : Option (Node T)) → get s x ≡ o → slab_len (edited_to which e s x o) ≡ slab_len s
      len_at x None is = refl
      len_at x (Some n) is = len_written s x n (with_link which n (e (link which n))) is

      len_case : (o : Option ℕ) → slab_len (edited which e s o) ≡ slab_len s
      len_case None = refl
      len_case (Some x) = len_at x (get s x) refl

      capacity_at : (x : ℕ) (o : Option (Node T)) → (edited_to which e s x o).capacity ≡ s.capacity
      capacity_at x None = refl
      capacity_at x (Some n) = refl

      capacity_case : (o : Option ℕ) → (edited which e s o).capacity ≡ s.capacity
      capacity_case None = refl
      capacity_case (Some x) = capacity_at x (get s x)

  pub same_both : (which : Which) (s t u : Slab (Node T)) → SameBut which s t → SameBut which t u → SameBut which s u
  same_both which s t u a b =
      record {
        values = λ x. b.values x ∙ a.values x;
        others = λ x. b.others x ∙ a.others x;
        length = b.length ∙ a.length;
        capacity = b.capacity ∙ a.capacity;
      }

  -- ---- which nodes there are

  pub key_from_link : (which : Which) (s : Slab (Node T)) (x : ℕ) (k : Link) → link_at which s x ≡ Some k → (n : Node T) × (get s x ≡ Some n)
  key_from_link which s x k is = node_case (get s x) refl is
    where
      node_case : (o : Option (Node T)) → get s x ≡ o → option_map (link which) o ≡ Some k → (n : Node T) × (get s x ≡ Some n)
      node_case None at e = cc
      node_case (Some n) at e = (n, at)

  pub key_from_value : (s : Slab (Node T)) (x : ℕ) (v : T) → value_at s x ≡ Some v → (n : Node T) × (get s x ≡ Some n)
  key_from_value s x v is = node_case (get s x) refl is
    where
      node_case : (o : Option (Node T)) → get s x ≡ o → option_map (λ (n : Node T). n.value) o ≡ Some v → (n : Node T) × (get s x ≡ Some n)
      node_case None at e = cc
      node_case (Some n) at e = (n, at)

  pub contains_key : (s : Slab (Node T)) (x : ℕ) (n : Node T) → get s x ≡ Some n → ContainsKey s x
  contains_key s x n is = subst IsSome (sym is) (search rules)

  pub key_contained : (s : Slab (Node T)) (x : ℕ) → ContainsKey s x → (n : Node T) × (get s x ≡ Some n)
  key_contained s x h = node_case (get s x) refl h
    where
      node_case : (o : Option (Node T)) → get s x ≡ o → IsSome o → (n : Node T) × (get s x ≡ Some n)
      node_case None at e = absurd (grind (arith))
      node_case (Some n) at e = (n, at)

  pub in_key : (which : Which) (s : Slab (Node T)) (ends : List Ends) (lists : List (List ℕ)) (l x : ℕ) → Tied (link_at which s) ends lists → In (list_at lists l) x → (n : Node T) × (get s x ≡ Some n)
  in_key which s ends lists l x h i =
      let at = row_link (link_at which s) l None (list_at lists l) None x (h.rows l) i in key_from_link which s x at.link at.is

  -- a change of a link keeps which nodes there are
  pub edited_key : (which : Which) (e : Link → Link) (s : Slab (Node T)) (o : Option ℕ) (x : ℕ) → ContainsKey s x → ContainsKey (edited which e s o) x
  edited_key which e s o x h =
      let was = key_contained s x h in
      let value : value_at (edited which e s o) x ≡ Some was.0.value = (same_edited which e s o).values x ∙ ap (option_map (λ (n : Node T). n.value)) was.1 in
      let now = key_from_value (edited which e s o) x was.0.value value in
      contains_key (edited which e s o) x now.0 now.1

  pub same_key : (which : Which) (s t : Slab (Node T)) (x : ℕ) → SameBut which s t → ContainsKey s x → ContainsKey t x
  same_key which s t x same h =
      let was = key_contained s x h in
      let value : value_at t x ≡ Some was.0.value = same.values x ∙ ap (option_map (λ (n : Node T). n.value)) was.1 in
      let now = key_from_value t x was.0.value value in
      contains_key t x now.0 now.1

  -- ---- lists by what they are tied to

  pub loose_from : (which : Which) (s : Slab (Node T)) (ends : List Ends) (x : ℕ) (lists : List (List ℕ)) → Tied (link_at which s) ends lists → HomeBut x (link_at which s) lists → ((l : ℕ) → In (list_at lists l) x → ⊥) → IsLoose which s ends x
  loose_from which s ends x lists h home away =
      let again : lists ≡ lists_of which s ends = sym (tied_lists (link_at which s) ends lists h) in
      record {
        tied = subst (λ ls. Tied (link_at which s) ends ls) again h;
        home = subst (λ ls. HomeBut x (link_at which s) ls) again home;
        away = subst (λ ls. (l : ℕ) → In (list_at ls l) x → ⊥) again away;
      }

  pub order_from : (which : Which) (s : Slab (Node T)) (ends : List Ends) (lists : List (List ℕ)) → Tied (link_at which s) ends lists → Home (link_at which s) lists → InOrder which s ends
  order_from which s ends lists h home =
      let again : lists ≡ lists_of which s ends = sym (tied_lists (link_at which s) ends lists h) in
      record {
        tied = subst (λ ls. Tied (link_at which s) ends ls) again h;
        home = subst (λ ls. Home (link_at which s) ls) again home;
      }

  -- the same links are the same lists
  pub order_same : (which : Which) (s t : Slab (Node T)) (ends : List Ends) → ((x : ℕ) → link_at which t x ≡ link_at which s x) → InOrder which s ends → InOrder which t ends
  order_same which s t ends same h =
      order_from which t ends (lists_of which s ends) (tied_same (link_at which t) (link_at which s) ends (lists_of which s ends) same h.tied)
      (λ x k e. h.home x k (sym (same x) ∙ e))

  pub lists_same : (which : Which) (s t : Slab (Node T)) (ends : List Ends) → ((x : ℕ) → link_at which t x ≡ link_at which s x) → Tied (link_at which s) ends (lists_of which s ends) → lists_of which t ends ≡ lists_of which s ends
  lists_same which s t ends same h =
      tied_lists (link_at which t) ends (lists_of which s ends) (tied_same (link_at which t) (link_at which s) ends (lists_of which s ends) same h)

  pub loose_same : (which : Which) (s t : Slab (Node T)) (ends : List Ends) (x : ℕ) → ((y : ℕ) → link_at which t y ≡ link_at which s y) → IsLoose which s ends x → IsLoose which t ends x
  loose_same which s t ends x same h =
      loose_from which t ends x (lists_of which s ends) (tied_same (link_at which t) (link_at which s) ends (lists_of which s ends) same h.tied)
      (λ y k ne e. h.home y k ne (sym (same y) ∙ e)) h.away

  -- ---- a node comes, and a node goes

  -- what a new node leaves of the others
  pub order_new : (which : Which) (s t : Slab (Node T)) (ends : List Ends) (x : ℕ) → link_at which s x ≡ None → ((y : ℕ) → y ≢ x → link_at which t y ≡ link_at which s y) → InOrder which s ends → IsLoose which t ends x
  order_new which s t ends x none same h = loose_from which t ends x lists tied home away
    where
      lists : List (List ℕ)
      lists = lists_of which s ends

      away : (l : ℕ) → In (list_at lists l) x → ⊥
      away l i = let at = row_link (link_at which s) l None (list_at lists l) None x (h.tied.rows l) i in clash at.link (sym none ∙ at.is)
        where
          clash : (k : Link) → None ≡ Some k → ⊥
          clash k e = cc

      tied : Tied (link_at which t) ends lists
      tied =
          record {
            limits = h.tied.limits;
            rows = λ l.
                row_same (link_at which t) (link_at which s) l None (list_at lists l) None
                (λ y i. same y (λ e. away l (subst (In (list_at lists l)) e i)))
                (h.tied.rows l);
            apart = h.tied.apart;
          }

      home : HomeBut x (link_at which t) lists
      home y k ne e = h.home y k (sym (same y ne) ∙ e)

  pub lists_new : (which : Which) (s t : Slab (Node T)) (ends : List Ends) (x : ℕ) → link_at which s x ≡ None → ((y : ℕ) → y ≢ x → link_at which t y ≡ link_at which s y) → InOrder which s ends → lists_of which t ends ≡ lists_of which s ends
  lists_new which s t ends x none same h = tied_lists (link_at which t) ends lists tied
    where
      lists : List (List ℕ)
      lists = lists_of which s ends

      away : (l : ℕ) → In (list_at lists l) x → ⊥
      away l i = let at = row_link (link_at which s) l None (list_at lists l) None x (h.tied.rows l) i in clash at.link (sym none ∙ at.is)
        where
          clash : (k : Link) → None ≡ Some k → ⊥
          clash k e = cc

      tied : Tied (link_at which t) ends lists
      tied =
          record {
            limits = h.tied.limits;
            rows = λ l.
                row_same (link_at which t) (link_at which s) l None (list_at lists l) None
                (λ y i. same y (λ e. away l (subst (In (list_at lists l)) e i)))
                (h.tied.rows l);
            apart = h.tied.apart;
          }

  -- a node that stands on no list is gone
  pub order_gone : (which : Which) (s t : Slab (Node T)) (ends : List Ends) (x : ℕ) → link_at which t x ≡ None → ((y : ℕ) → y ≢ x → link_at which t y ≡ link_at which s y) → IsLoose which s ends x → InOrder which t ends
  order_gone which s t ends x none same h = order_from which t ends lists tied home
    where
      lists : List (List ℕ)
      lists = lists_of which s ends

      tied : Tied (link_at which t) ends lists
      tied =
          record {
            limits = h.tied.limits;
            rows = λ l.
                row_same (link_at which t) (link_at which s) l None (list_at lists l) None
                (λ y i. same y (λ e. h.away l (subst (In (list_at lists l)) e i)))
                (h.tied.rows l);
            apart = h.tied.apart;
          }

      home : Home (link_at which t) lists
      home y k e = elim (cases_eq y x) [
        | inl at ↦ clash (sym none ∙ (ap (link_at which t) (sym at) ∙ e))
        | inr differs ↦ h.home y k differs (sym (same y differs) ∙ e)
      ]
        where
          clash : None ≡ Some k → In (list_at lists k.list) y
          clash e2 = cc

  pub lists_gone : (which : Which) (s t : Slab (Node T)) (ends : List Ends) (x : ℕ) → ((y : ℕ) → y ≢ x → link_at which t y ≡ link_at which s y) → IsLoose which s ends x → lists_of which t ends ≡ lists_of which s ends
  lists_gone which s t ends x same h = tied_lists (link_at which t) ends lists tied
    where
      lists : List (List ℕ)
      lists = lists_of which s ends

      tied : Tied (link_at which t) ends lists
      tied =
          record {
            limits = h.tied.limits;
            rows = λ l.
                row_same (link_at which t) (link_at which s) l None (list_at lists l) None
                (λ y i. same y (λ e. h.away l (subst (In (list_at lists l)) e i)))
                (h.tied.rows l);
            apart = h.tied.apart;
          }

  -- ---- the two calls on a chain

  abbrev pub bridged_nodes : Which → Slab (Node T) → Link → Slab (Node T)
  bridged_nodes which s k = edited which (put_prev k.prev) (edited which (put_next k.next) s k.prev) k.next

  pub taken_off : (which : Which) (s : Slab (Node T)) (ends : List Ends) (x : ℕ) (n : Node T) → InOrder which s ends → get s x ≡ Some n → TakenOff which s ends x (link which n).list (bridged_nodes which s (link which n)) (set ends (link which n).list (shorter (ends_of (list_at (lists_of which s ends) (link which n).list)) (link which n)))
  taken_off which s ends x n h is =
      record {
        was = at;
        loose =
            loose_from which t after x (map (off x) lists)
            (tied_same (link_at which t) bridge after (map (off x) lists) same (taken_tied f ends lists x k h.tied here at))
            (λ y j ne e. taken_home f ends lists x k h.tied here at h.home y j ne (sym (same y) ∙ e))
            (taken_away f ends lists x k h.tied here at);
        lists = tied_lists (link_at which t) after (map (off x) lists) (tied_same (link_at which t) bridge after (map (off x) lists) same (taken_tied f ends lists x k h.tied here at));
        size = length-set ends k.list (shorter (ends_of (list_at lists k.list)) k);
        rest = same_both which s (edited which (put_next k.next) s k.prev) t (same_edited which (put_next k.next) s k.prev) (same_edited which (put_prev k.prev) (edited which (put_next k.next) s k.prev) k.next);
      }
    where
      k : Link
      k = link which n

      lists : List (List ℕ)
      lists = lists_of which s ends

      f : Links
      f = link_at which s

      t : Slab (Node T)
      t = bridged_nodes which s k

      after : List Ends
      after = set ends k.list (shorter (ends_of (list_at lists k.list)) k)

      here : f x ≡ Some k
      here = ap (option_map (link which)) is

      at : In (list_at lists k.list) x
      at = h.home x k here

      bridge : Links
      bridge = changed (changed f (put_next k.next) k.prev) (put_prev k.prev) k.next

      same : (y : ℕ) → link_at which t y ≡ bridge y
      same y =
          edited_links which (put_prev k.prev) (edited which (put_next k.next) s k.prev) k.next y
          ∙ changed_same (link_at which (edited which (put_next k.next) s k.prev)) (changed f (put_next k.next) k.prev) (put_prev k.prev) k.next y (edited_links which (put_next k.next) s k.prev)

  abbrev pub joined_nodes : Which → Slab (Node T) → ℕ → Option ℕ → ℕ → Slab (Node T)
  joined_nodes which s l back x = edited which (put_place l back) (edited which (put_next (Some x)) s back) (Some x)

  pub put_last : (which : Which) (s : Slab (Node T)) (ends : List Ends) (l x : ℕ) (n : Node T) → IsLoose which s ends x → get s x ≡ Some n → l < length (lists_of which s ends) → PutLast which s ends l x (joined_nodes which s l (last_of None (list_at (lists_of which s ends) l)) x) (set ends l (longer (ends_of (list_at (lists_of which s ends) l)) x))
  put_last which s ends l x n h is within =
      record {
        order = order_from which t after lists_after tied (λ y j e. put_home f ends lists l x k h.tied here h.away within h.home y j (sym (same y) ∙ e));
        lists = tied_lists (link_at which t) after lists_after tied;
        size = length-set ends l (longer (ends_of (list_at lists l)) x);
        rest = same_both which s (edited which (put_next (Some x)) s back) t (same_edited which (put_next (Some x)) s back) (same_edited which (put_place l back) (edited which (put_next (Some x)) s back) (Some x));
      }
    where
      k : Link
      k = link which n

      lists : List (List ℕ)
      lists = lists_of which s ends

      back : Option ℕ
      back = last_of None (list_at lists l)

      f : Links
      f = link_at which s

      t : Slab (Node T)
      t = joined_nodes which s l back x

      after : List Ends
      after = set ends l (longer (ends_of (list_at lists l)) x)

      lists_after : List (List ℕ)
      lists_after = set lists l (list_at lists l ++ x ∷ [])

      here : f x ≡ Some k
      here = ap (option_map (link which)) is

      join : Links
      join = changed (changed f (put_next (Some x)) back) (put_place l back) (Some x)

      same : (y : ℕ) → link_at which t y ≡ join y
      same y =
          edited_links which (put_place l back) (edited which (put_next (Some x)) s back) (Some x) y
          ∙ changed_same (link_at which (edited which (put_next (Some x)) s back)) (changed f (put_next (Some x)) back) (put_place l back) (Some x) y (edited_links which (put_next (Some x)) s back)

      tied : Tied (link_at which t) after lists_after
      tied = tied_same (link_at which t) join after lists_after same (put_tied f ends lists l x k h.tied here h.away within)
