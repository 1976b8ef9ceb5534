-- What an arena keeps to, and what is seen of it, through each call.
use Rattle.std.proofs.Common.{◌≡◌, ◌≢◌, ◌⊎◌, ℕ, zero, suc, ◌+◌, ◌<◌, ◌≤◌, Bool, true, false, List, [], ◌∷◌, ◌++◌, length, Option, Some, None, IsSome, refl, sym, ap, ◌∙◌, inl, inr, subst, arith, map, set, get_or, rules, replicate, filter, length-append, eq-eqb}
use Rattle.std.specs.Prelude.{option_map, sum_by, ◌==◌, not, if◌then◌else◌}
use Rattle.std.proofs.lemmas.Bool.{cases_eq}
use Rattle.std.proofs.lemmas.List.{length-map}
use Rattle.std.proofs.lemmas.List.Sums.{sum_by-set, sum_by-cons}
use Rattle.std.proofs.lemmas.List.Folds.{sum_by-replicate}
use Rattle.slab.specs.Slab.{Slab, get, ContainsKey, slab_len, Updates, with_value}
use Rattle.link_arena.specs.declared.node.Which.{Which}
use Rattle.link_arena.specs.declared.node.Link.{Link}
use Rattle.link_arena.specs.declared.node.Node.{Node}
use Rattle.link_arena.specs.declared.ends.Ends.{Ends}
use Rattle.link_arena.specs.Lists.{Lists, find_in, next_in, first_id, live, IsLive, IsFree, without, moved, revalued, appended, with_node, without_node, with_moved}
use Rattle.link_arena.specs.Lists as seen_as
use Rattle.link_arena.specs.Links.{In, Apart, Row, Tied, Home, first_of, last_of, list_at, lists_in, walk, ends_of, off, other, of_kind, link, link_at, value_at, lists_of, pairs, seen, InOrder, IsSound, IsLoose, TakenOff, PutLast, MovedLast, SameBut}
use Rattle.link_arena.proofs.Rows.{off_away, off_split, Split, split_in, apart_both, in_off, not_off}
use Rattle.link_arena.proofs.Ties.{tied_lists, one_list, in_range, list_at_off, off_set, Spot, spot}
use Rattle.link_arena.proofs.Nodes.{in_key, contains_key, key_contained, key_from_value, same_key, order_new, lists_new, order_same, lists_same, loose_same, order_gone, lists_gone, order_from, get_written, get_kept, len_written}
use Rattle.link_arena.proofs.Sights.{keep, keep_away, keep_in, moved_set, Valued, pairs_at, pairs_first, pairs_length, all_same, all_off, all_moved, all_appended, all_revalued, all_lengths, found, not_found, behind_at}
use Rattle.link_arena.proofs.Spots.{ends_at, ends_count}

-- ---- how many nodes

length_off : (x : ℕ) (xs : List ℕ) → Apart xs → In xs x → length (off x xs) + 1 ≡ length xs
length_off x xs h i =
    let at = split_in xs x i in
    let less : off x xs ≡ at.front ++ at.back = ap (off x) at.is ∙ off_split x at.front at.back (subst Apart at.is h) in
    let size : length xs ≡ length (at.front ++ x ∷ at.back) = ap length at.is in
    let rest : length (off x xs) ≡ length (at.front ++ at.back) = ap length less in
    omega (arith, size, rest, length-append at.front (x ∷ at.back), length-append at.front at.back)

pub sum_off : (x l : ℕ) (lists : List (List ℕ)) → ((m : ℕ) → m ≢ l → In (list_at lists m) x → ⊥) → Apart (list_at lists l) → In (list_at lists l) x → sum_by length (map (off x) lists) + 1 ≡ sum_by length lists
sum_off x l lists away h i =
    let is : sum_by length (map (off x) lists) ≡ sum_by length (set lists l (off x (list_at lists l))) = ap (sum_by length) (off_set x l lists away) in
    omega (arith, is, sum_by-set length lists l (off x (list_at lists l)) [] (in_range lists l x i), length_off x (list_at lists l) h i)

pub sum_put : (lists : List (List ℕ)) (l x : ℕ) → l < length lists → sum_by length (set lists l (list_at lists l ++ x ∷ [])) ≡ sum_by length lists + 1
sum_put lists l x within =
    omega (arith, sum_by-set length lists l (list_at lists l ++ x ∷ []) [] within, length-append (list_at lists l) (x ∷ []))

pub sum_moved : (x : ℕ) (lists : List (List ℕ)) → sum_by length (map (λ xs. off x xs ++ keep x xs) lists) ≡ sum_by length lists
sum_moved x [] = refl
sum_moved x (xs ∷ rest) =
    omega (arith, sum_by-cons length (off x xs ++ keep x xs) (map (λ xs. off x xs ++ keep x xs) rest), sum_by-cons length xs rest, sum_moved x rest, both xs, length-append (off x xs) (keep x xs))
  where
    both : (ys : List ℕ) → length (off x ys) + length (keep x ys) ≡ length ys
    both [] = refl
    both (y ∷ ys) = test_case (y == x) (both ys)
      where
        test_case : (b : Bool) → length (off x ys) + length (keep x ys) ≡ length ys → length (if not b then y ∷ off x ys else off x ys) + length (if b then y ∷ keep x ys else keep x ys) ≡ suc (length ys)
        test_case true rest2 = omega (arith, rest2)
        test_case false rest2 = omega (arith, rest2)

-- no list is longer than all together
pub length_in : (lists : List (List ℕ)) (l : ℕ) → length (list_at lists l) ≤ sum_by length lists
length_in [] l = omega arith
length_in (xs ∷ rest) zero = omega (arith, sum_by-cons length xs rest)
length_in (xs ∷ rest) (suc l) = omega (arith, sum_by-cons length xs rest, length_in rest l)

none_at : (n l : ℕ) → list_at (replicate n []) l ≡ []
none_at zero l = refl
none_at (suc n) zero = refl
none_at (suc n) (suc l) = none_at n l

ends_none : (n : ℕ) → replicate n (ends_of []) ≡ map ends_of (replicate n [])
ends_none zero = refl
ends_none (suc n) = ap (λ es. ends_of [] ∷ es) (ends_none n)

module _ {T : Type 0} where
  -- ---- one kind

  module _ (which : Which) (s : Slab (Node T)) (ends : List Ends) (h : InOrder which s ends) where
    pub valued : (l : ℕ) → Valued s (list_at (lists_of which s ends) l)
    valued l x i = let n = in_key which s ends (lists_of which s ends) l x h.tied i in (n.0.value, ap (option_map (λ (n : Node T). n.value)) n.1)

    pub only_there : (x l m : ℕ) → In (list_at (lists_of which s ends) l) x → m ≢ l → In (list_at (lists_of which s ends) m) x → ⊥
    only_there x l m i ne j = ne (one_list (link_at which s) ends (lists_of which s ends) x m l h.tied j i)

    pub node_in : (x : ℕ) (n : Node T) → get s x ≡ Some n → In (list_at (lists_of which s ends) (link which n).list) x
    node_in x n is = h.home x (link which n) (ap (option_map (link which)) is)

    pub seen_value : (x : ℕ) (v : T) → value_at s x ≡ Some v → find_in x (map (pairs s) (lists_of which s ends)) ≡ Some v
    seen_value x v is =
        let n = key_from_value s x v is in
        found s x v (lists_of which s ends) (link which n.0).list is (λ m. only_there x (link which n.0).list m (node_in x n.0 n.1)) (node_in x n.0 n.1)

    pub seen_next : (x : ℕ) (n : Node T) → get s x ≡ Some n → next_in x (map (pairs s) (lists_of which s ends)) ≡ (link which n).next
    seen_next x n is =
        behind_at s x at.front at.back (lists_of which s ends) (link which n).list at.is
        (subst Apart at.is (h.tied.apart (link which n).list))
        (λ y i. valued (link which n).list y (subst (λ ys. In ys y) (sym at.is) (later y at.front i)))
        (λ m. only_there x (link which n).list m (node_in x n is))
        ∙ sym (ap (λ (k : Link). k.next) at.link)
      where
        at : Spot (lists_of which s ends) x (link which n)
        at = spot (link_at which s) ends (lists_of which s ends) x (link which n) h.tied (ap (option_map (link which)) is) (node_in x n is)

        later : (y : ℕ) (ys : List ℕ) → In (x ∷ at.back) y → In (ys ++ x ∷ at.back) y
        later y [] i = i
        later y (z ∷ zs) i = inr (later y zs i)

    pub seen_first : (l : ℕ) (d : Ends) → l < length ends → first_id (get_or (map (pairs s) (lists_of which s ends)) l []) ≡ (get_or ends l d).front
    seen_first l d within =
        ap first_id (pairs_at s (lists_of which s ends) l)
        ∙ (pairs_first s (list_at (lists_of which s ends) l) (valued l)
        ∙ sym (ap (λ (e : Ends). e.front) (ends_at (link_at which s) ends (lists_of which s ends) l d h.tied within)))

    pub seen_count : (l : ℕ) (d : Ends) → l < length ends → length (get_or (map (pairs s) (lists_of which s ends)) l []) ≡ (get_or ends l d).count
    seen_count l d within =
        ap length (pairs_at s (lists_of which s ends) l)
        ∙ (pairs_length s (list_at (lists_of which s ends) l) (valued l)
        ∙ sym (ap (λ (e : Ends). e.count) (ends_at (link_at which s) ends (lists_of which s ends) l d h.tied within)))

    pub seen_size : length (map (pairs s) (lists_of which s ends)) ≡ length ends
    seen_size = length-map (lists_of which s ends) (pairs s) ∙ length-map ends (λ (e : Ends). walk (link_at which s) e.count e.front)

  -- ---- an arena

  module _ (s : Slab (Node T)) (a b : List Ends) (room : ℕ) (h : IsSound s a b room) where
    pub live_key : (x : ℕ) → IsLive (seen s a b room) x → ContainsKey s x
    live_key x on = node_case (get s x) refl on
      where
        absent : (w : Which) (ends : List Ends) → get s x ≡ None → IsSome (find_in x (map (pairs s) (lists_of w s ends))) → ⊥
        absent w ends none some = nothing (find_in x (map (pairs s) (lists_of w s ends))) (not_found s x (lists_of w s ends) (ap (option_map (λ (n : Node T). n.value)) none)) some
          where
            nothing : (o : Option T) → o ≡ None → IsSome o → ⊥
            nothing None e i = grind (arith)
            nothing (Some v) e i = cc

        node_case : (o : Option (Node T)) → get s x ≡ o → IsLive (seen s a b room) x → ContainsKey s x
        node_case None is (inl i) = absurd (absent Which.A a is i)
        node_case None is (inr i) = absurd (absent Which.B b is i)
        node_case (Some n) is i = contains_key s x n is

    pub live_is : live (seen s a b room) ≡ slab_len s
    live_is = all_lengths s (lists_of Which.A s a) (valued Which.A s a h.a) ∙ sym h.count_a

    pub live_both : live (seen s a b room) ≡ sum_by length (seen s a b room).b
    live_both = live_is ∙ (h.count_b ∙ sym (all_lengths s (lists_of Which.B s b) (valued Which.B s b h.b)))

    pub order_of : (which : Which) → InOrder which s (of_kind which a b)
    order_of Which.A = h.a
    order_of Which.B = h.b

  -- ---- at first

  pairs_none : (s : Slab (Node T)) (n : ℕ) → map (pairs s) (replicate n []) ≡ replicate n []
  pairs_none s zero = refl
  pairs_none s (suc n) = ap (λ ps. [] ∷ ps) (pairs_none s n)

  module _ (s : Slab (Node T)) (none : s.slots ≡ []) where
    nothing_at : (x : ℕ) → get s x ≡ None
    nothing_at x = rw none refl

    tied_none : (which : Which) (n : ℕ) → Tied (link_at which s) (replicate n (ends_of [])) (replicate n [])
    tied_none which n =
        record {
          limits = ends_none n;
          rows = λ l. subst (λ xs. Row (link_at which s) l None xs None) (sym (none_at n l)) tt;
          apart = λ l. subst Apart (sym (none_at n l)) tt;
        }

    lists_none : (which : Which) (n : ℕ) → lists_of which s (replicate n (ends_of [])) ≡ replicate n []
    lists_none which n = tied_lists (link_at which s) (replicate n (ends_of [])) (replicate n []) (tied_none which n)

    order_none : (which : Which) (n : ℕ) → InOrder which s (replicate n (ends_of []))
    order_none which n =
        order_from which s (replicate n (ends_of [])) (replicate n []) (tied_none which n)
        (λ x k e. clash k (sym (ap (option_map (link which)) (nothing_at x)) ∙ e))
      where
        clash : (k : Link) {A : Type 0} → None ≡ Some k → A
        clash k {A} e = cc

    count_none : (which : Which) (n : ℕ) → 0 ≡ sum_by length (lists_of which s (replicate n (ends_of [])))
    count_none which n =
        let is : sum_by length (lists_of which s (replicate n (ends_of []))) ≡ sum_by length (replicate n []) = ap (sum_by length) (lists_none which n) in
        omega (arith, is, sum_by-replicate (length {A = ℕ}) n [])

    pub sound_none : (a b room : ℕ) → room ≤ s.capacity → room < 4294967296 → IsSound s (replicate a (ends_of [])) (replicate b (ends_of [])) room
    sound_none a b room fits small =
        let size : slab_len s ≡ 0 = rw none refl in
        record {
          a = order_none Which.A a;
          b = order_none Which.B b;
          count_a = size ∙ count_none Which.A a;
          count_b = size ∙ count_none Which.B b;
          few = omega (arith, size);
          fits = fits;
          small = small;
        }

    pub seen_none : (a b room : ℕ) → seen s (replicate a (ends_of [])) (replicate b (ends_of [])) room ≡ record { a = replicate a []; b = replicate b []; room = room }
    seen_none a b room = λ i.
        record {
          a = (ap (map (pairs s)) (lists_none Which.A a) ∙ pairs_none s a) i;
          b = (ap (map (pairs s)) (lists_none Which.B b) ∙ pairs_none s b) i;
          room = room;
        }

  -- ---- a node is added

  module _ (s t : Slab (Node T)) (x : ℕ) (n : Node T) (none : get s x ≡ None) (up : Updates s t x (Some n)) where
    link_none : (which : Which) → link_at which s x ≡ None
    link_none which = ap (option_map (link which)) none

    link_kept : (which : Which) (y : ℕ) → y ≢ x → link_at which t y ≡ link_at which s y
    link_kept which y ne = ap (option_map (link which)) (up.others y ne)

    value_kept : (y : ℕ) → y ≢ x → value_at t y ≡ value_at s y
    value_kept y ne = ap (option_map (λ (m : Node T). m.value)) (up.others y ne)

    value_new : value_at t x ≡ Some n.value
    value_new = ap (option_map (λ (m : Node T). m.value)) up.changed

    pub new_loose : (which : Which) (ends : List Ends) → InOrder which s ends → IsLoose which t ends x
    new_loose which ends h = order_new which s t ends x (link_none which) (link_kept which) h

    pub new_lists : (which : Which) (ends : List Ends) → InOrder which s ends → lists_of which t ends ≡ lists_of which s ends
    new_lists which ends h = lists_new which s t ends x (link_none which) (link_kept which) h

    -- a node on a list is another one
    member_differs : (which : Which) (ends : List Ends) → InOrder which s ends → (l y : ℕ) → In (list_at (lists_of which s ends) l) y → y ≢ x
    member_differs which ends h l y i e = clash (in_key which s ends (lists_of which s ends) l y h.tied i) e
      where
        clash : (m : Node T) × (get s y ≡ Some m) → y ≡ x → ⊥
        clash m e2 = apart (sym m.1 ∙ (ap (get s) e2 ∙ none))
          where
            apart : Some m.0 ≡ None → ⊥
            apart e3 = cc

    pub room_a : (a b : List Ends) (room l : ℕ) → IsSound s a b room → slab_len s < room → length (list_at (lists_of Which.A t a) l) < 4294967295
    room_a a b room l h more =
        let same : length (list_at (lists_of Which.A t a) l) ≡ length (list_at (lists_of Which.A s a) l) = ap (λ ls. length (list_at ls l)) (new_lists Which.A a h.a) in
        omega (arith, same, length_in (lists_of Which.A s a) l, h.count_a, more, h.small)

    pub second_loose : (a b a2 : List Ends) (room l : ℕ) (u : Slab (Node T)) → IsSound s a b room → PutLast Which.A t a l x u a2 → IsLoose Which.B u b x
    second_loose a b a2 room l u h put = loose_same Which.B t u b x put.rest.others (new_loose Which.B b h.b)

    second_lists : (a b a2 : List Ends) (room l : ℕ) (u : Slab (Node T)) → IsSound s a b room → PutLast Which.A t a l x u a2 → lists_of Which.B u b ≡ lists_of Which.B s b
    second_lists a b a2 room l u h put = lists_same Which.B t u b put.rest.others (new_loose Which.B b h.b).tied ∙ new_lists Which.B b h.b

    pub room_b : (a b a2 : List Ends) (room l m : ℕ) (u : Slab (Node T)) → IsSound s a b room → slab_len s < room → PutLast Which.A t a l x u a2 → length (list_at (lists_of Which.B u b) m) < 4294967295
    room_b a b a2 room l m u h more put =
        let same : length (list_at (lists_of Which.B u b) m) ≡ length (list_at (lists_of Which.B s b) m) = ap (λ ls. length (list_at ls m)) (second_lists a b a2 room l u h put) in
        omega (arith, same, length_in (lists_of Which.B s b) m, h.count_b, more, h.small)

    module _ (a b a2 b2 : List Ends) (room l m : ℕ) (u v : Slab (Node T)) (h : IsSound s a b room) (len : slab_len t ≡ slab_len s + 1) (capacity : t.capacity ≡ s.capacity) (put_a : PutLast Which.A t a l x u a2) (put_b : PutLast Which.B u b m x v b2) (l_in : l < length a) (m_in : m < length b) (more : slab_len s < room) where
      -- the lists of either kind
      after_a : lists_of Which.A v a2 ≡ set (lists_of Which.A s a) l (list_at (lists_of Which.A s a) l ++ x ∷ [])
      after_a =
          lists_same Which.A u v a2 put_b.rest.others put_a.order.tied
          ∙ (put_a.lists ∙ ap (λ ls. set ls l (list_at ls l ++ x ∷ [])) (new_lists Which.A a h.a))

      after_b : lists_of Which.B v b2 ≡ set (lists_of Which.B s b) m (list_at (lists_of Which.B s b) m ++ x ∷ [])
      after_b = put_b.lists ∙ ap (λ ls. set ls m (list_at ls m ++ x ∷ [])) (second_lists a b a2 room l u h put_a)

      size_a : length (lists_of Which.A s a) ≡ length a
      size_a = sym (ends_count (link_at Which.A s) a (lists_of Which.A s a) h.a.tied)

      size_b : length (lists_of Which.B s b) ≡ length b
      size_b = sym (ends_count (link_at Which.B s) b (lists_of Which.B s b) h.b.tied)

      len_after : slab_len v ≡ slab_len s + 1
      len_after = put_b.rest.length ∙ (put_a.rest.length ∙ len)

      pub sound_added : IsSound v a2 b2 room
      sound_added =
          let sum_a : sum_by length (lists_of Which.A v a2) ≡ sum_by length (lists_of Which.A s a) + 1 =
          ap (sum_by length) after_a ∙ sum_put (lists_of Which.A s a) l x (omega (arith, l_in, size_a)) in
          let sum_b : sum_by length (lists_of Which.B v b2) ≡ sum_by length (lists_of Which.B s b) + 1 =
          ap (sum_by length) after_b ∙ sum_put (lists_of Which.B s b) m x (omega (arith, m_in, size_b)) in
          let cap : v.capacity ≡ s.capacity = put_b.rest.capacity ∙ (put_a.rest.capacity ∙ capacity) in
          record {
            a = order_same Which.A u v a2 put_b.rest.others put_a.order;
            b = put_b.order;
            count_a = omega (arith, len_after, sum_a, h.count_a);
            count_b = omega (arith, len_after, sum_b, h.count_b);
            few = omega (arith, len_after, more);
            fits = omega (arith, cap, h.fits);
            small = h.small;
          }

      value_after : (y : ℕ) → value_at v y ≡ value_at t y
      value_after y = put_b.rest.values y ∙ put_a.rest.values y

      pub seen_added : seen v a2 b2 room ≡ with_node (seen s a b room) l m x n.value
      seen_added = λ i. record { a = first i; b = second i; room = room }
        where
          one : (which : Which) (ends : List Ends) → InOrder which s ends → (j : ℕ) → map (pairs v) (set (lists_of which s ends) j (list_at (lists_of which s ends) j ++ x ∷ [])) ≡ appended (map (pairs s) (lists_of which s ends)) j (x, n.value)
          one which ends order j =
              all_appended v (lists_of which s ends) j x n.value (value_after x ∙ value_new)
              ∙ ap (λ ps. appended ps j (x, n.value))
              (all_same s v (lists_of which s ends) (λ k y i. value_after y ∙ value_kept y (member_differs which ends order k y i)))

          first : map (pairs v) (lists_of Which.A v a2) ≡ appended (map (pairs s) (lists_of Which.A s a)) l (x, n.value)
          first = ap (map (pairs v)) after_a ∙ one Which.A a h.a l

          second : map (pairs v) (lists_of Which.B v b2) ≡ appended (map (pairs s) (lists_of Which.B s b)) m (x, n.value)
          second = ap (map (pairs v)) after_b ∙ one Which.B b h.b m

  -- ---- a node is removed

  module _ (s t u : Slab (Node T)) (a b a2 b2 : List Ends) (room x l m : ℕ) (h : IsSound s a b room) (take_a : TakenOff Which.A s a x l t a2) (take_b : TakenOff Which.B t b x m u b2) where
    pub value_before : (v : T) → value_at u x ≡ Some v → find_in x (seen s a b room).a ≡ Some v
    value_before v is = seen_value Which.A s a h.a x v (sym (take_b.rest.values x ∙ take_a.rest.values x) ∙ is)

    module _ (v : Slab (Node T)) (up : Updates u v x None) (len : slab_len v + 1 ≡ slab_len u) (capacity : v.capacity ≡ u.capacity) where
      gone_link : (which : Which) → link_at which v x ≡ None
      gone_link which = ap (option_map (link which)) up.changed

      kept_link : (which : Which) (y : ℕ) → y ≢ x → link_at which v y ≡ link_at which u y
      kept_link which y ne = ap (option_map (link which)) (up.others y ne)

      kept_value : (y : ℕ) → y ≢ x → value_at v y ≡ value_at s y
      kept_value y ne = ap (option_map (λ (k : Node T). k.value)) (up.others y ne) ∙ (take_b.rest.values y ∙ take_a.rest.values y)

      loose_a : IsLoose Which.A u a2 x
      loose_a = loose_same Which.A t u a2 x take_b.rest.others take_a.loose

      left_a : lists_of Which.A v a2 ≡ map (off x) (lists_of Which.A s a)
      left_a = lists_gone Which.A u v a2 x (kept_link Which.A) loose_a ∙ (lists_same Which.A t u a2 take_b.rest.others take_a.loose.tied ∙ take_a.lists)

      left_b : lists_of Which.B v b2 ≡ map (off x) (lists_of Which.B s b)
      left_b = lists_gone Which.B u v b2 x (kept_link Which.B) take_b.loose ∙ (take_b.lists ∙ ap (map (off x)) (lists_same Which.B s t b take_a.rest.others h.b.tied))

      was_b : In (list_at (lists_of Which.B s b) m) x
      was_b = subst (λ ls. In (list_at ls m) x) (lists_same Which.B s t b take_a.rest.others h.b.tied) take_b.was

      pub sound_removed : IsSound v a2 b2 room
      sound_removed =
          let sum_a : sum_by length (lists_of Which.A v a2) + 1 ≡ sum_by length (lists_of Which.A s a) =
          ap (λ ls. sum_by length ls + 1) left_a
          ∙ sum_off x l (lists_of Which.A s a) (λ k. only_there Which.A s a h.a x l k take_a.was) (h.a.tied.apart l) take_a.was in
          let sum_b : sum_by length (lists_of Which.B v b2) + 1 ≡ sum_by length (lists_of Which.B s b) =
          ap (λ ls. sum_by length ls + 1) left_b
          ∙ sum_off x m (lists_of Which.B s b) (λ k. only_there Which.B s b h.b x m k was_b) (h.b.tied.apart m) was_b in
          let size : slab_len u ≡ slab_len s = take_b.rest.length ∙ take_a.rest.length in
          let cap : v.capacity ≡ s.capacity = capacity ∙ (take_b.rest.capacity ∙ take_a.rest.capacity) in
          record {
            a = order_gone Which.A u v a2 x (gone_link Which.A) (kept_link Which.A) loose_a;
            b = order_gone Which.B u v b2 x (gone_link Which.B) (kept_link Which.B) take_b.loose;
            count_a = omega (arith, len, size, sum_a, h.count_a);
            count_b = omega (arith, len, size, sum_b, h.count_b);
            few = omega (arith, len, size, h.few);
            fits = omega (arith, cap, h.fits);
            small = h.small;
          }

      same_values : (lists : List (List ℕ)) (k y : ℕ) → In (list_at (map (off x) lists) k) y → value_at v y ≡ value_at s y
      same_values lists k y i =
          let j : In (off x (list_at lists k)) y = subst (λ ys. In ys y) (list_at_off x lists k) i in
          kept_value y (λ e. not_off x (list_at lists k) (subst (In (off x (list_at lists k))) e j))

      pub seen_removed : seen v a2 b2 room ≡ without_node (seen s a b room) x
      seen_removed = λ i. record { a = first i; b = second i; room = room }
        where
          one : (lists : List (List ℕ)) → map (pairs v) (map (off x) lists) ≡ map (without x) (map (pairs s) lists)
          one lists = all_same s v (map (off x) lists) (same_values lists) ∙ all_off s x lists

          first : map (pairs v) (lists_of Which.A v a2) ≡ map (without x) (map (pairs s) (lists_of Which.A s a))
          first = ap (map (pairs v)) left_a ∙ one (lists_of Which.A s a)

          second : map (pairs v) (lists_of Which.B v b2) ≡ map (without x) (map (pairs s) (lists_of Which.B s b))
          second = ap (map (pairs v)) left_b ∙ one (lists_of Which.B s b)

  -- ---- a node is moved

  module _ (which : Which) (s t : Slab (Node T)) (ends after : List Ends) (x l : ℕ) (h : InOrder which s ends) (move : MovedLast which s ends x l t after) where
    pub moved_lists : lists_of which t after ≡ map (λ xs. off x xs ++ keep x xs) (lists_of which s ends)
    moved_lists = move.lists ∙ moved_set x l (lists_of which s ends) (λ k. only_there which s ends h x l k move.was) (h.tied.apart l) move.was

    pub moved_sum : sum_by length (lists_of which t after) ≡ sum_by length (lists_of which s ends)
    moved_sum = ap (sum_by length) moved_lists ∙ sum_moved x (lists_of which s ends)

    pub moved_seen : map (pairs t) (lists_of which t after) ≡ map (moved x) (map (pairs s) (lists_of which s ends))
    moved_seen =
        ap (map (pairs t)) moved_lists
        ∙ (all_same s t (map (λ xs. off x xs ++ keep x xs) (lists_of which s ends)) (λ k y i. move.rest.values y)
        ∙ all_moved s x (lists_of which s ends))

  module _ (s t : Slab (Node T)) (a b after : List Ends) (room x l : ℕ) (h : IsSound s a b room) where
    pub sound_moved_a : MovedLast Which.A s a x l t after → IsSound t after b room
    sound_moved_a move =
        let sum_a : sum_by length (lists_of Which.A t after) ≡ sum_by length (lists_of Which.A s a) = moved_sum Which.A s t a after x l h.a move in
        let sum_b : sum_by length (lists_of Which.B t b) ≡ sum_by length (lists_of Which.B s b) = ap (sum_by length) (lists_same Which.B s t b move.rest.others h.b.tied) in
        record {
          a = move.order;
          b = order_same Which.B s t b move.rest.others h.b;
          count_a = omega (arith, move.rest.length, sum_a, h.count_a);
          count_b = omega (arith, move.rest.length, sum_b, h.count_b);
          few = omega (arith, move.rest.length, h.few);
          fits = omega (arith, move.rest.capacity, h.fits);
          small = h.small;
        }

    pub sound_moved_b : MovedLast Which.B s b x l t after → IsSound t a after room
    sound_moved_b move =
        let sum_b : sum_by length (lists_of Which.B t after) ≡ sum_by length (lists_of Which.B s b) = moved_sum Which.B s t b after x l h.b move in
        let sum_a : sum_by length (lists_of Which.A t a) ≡ sum_by length (lists_of Which.A s a) = ap (sum_by length) (lists_same Which.A s t a move.rest.others h.a.tied) in
        record {
          a = order_same Which.A s t a move.rest.others h.a;
          b = move.order;
          count_a = omega (arith, move.rest.length, sum_a, h.count_a);
          count_b = omega (arith, move.rest.length, sum_b, h.count_b);
          few = omega (arith, move.rest.length, h.few);
          fits = omega (arith, move.rest.capacity, h.fits);
          small = h.small;
        }

    pub seen_moved_a : MovedLast Which.A s a x l t after → seen t after b room ≡ with_moved Which.A (seen s a b room) x
    seen_moved_a move = λ i.
        record {
          a = moved_seen Which.A s t a after x l h.a move i;
          b = (ap (map (pairs t)) (lists_same Which.B s t b move.rest.others h.b.tied) ∙ all_same s t (lists_of Which.B s b) (λ k y j. move.rest.values y)) i;
          room = room;
        }

    pub seen_moved_b : MovedLast Which.B s b x l t after → seen t a after room ≡ with_moved Which.B (seen s a b room) x
    seen_moved_b move = λ i.
        record {
          a = (ap (map (pairs t)) (lists_same Which.A s t a move.rest.others h.a.tied) ∙ all_same s t (lists_of Which.A s a) (λ k y j. move.rest.values y)) i;
          b = moved_seen Which.B s t b after x l h.b move i;
          room = room;
        }

  -- ---- a value is written

  module _ (s : Slab (Node T)) (a b : List Ends) (room x : ℕ) (n : Node T) (v : T) (h : IsSound s a b room) (is : get s x ≡ Some n) where
    abbrev pub rewritten : Slab (Node T)
    rewritten = with_value s x (record n { value = v })

    same_link : (which : Which) (y : ℕ) → link_at which rewritten y ≡ link_at which s y
    same_link which y = elim (cases_eq y x) [
      | inl same ↦
          ap (link_at which rewritten) same
          ∙ (ap (option_map (link which)) (get_written s x n (record n { value = v }) is)
          ∙ (ap Some (own which) ∙ (sym (ap (option_map (link which)) is) ∙ ap (link_at which s) (sym same))))
      | inr differs ↦ ap (option_map (link which)) (get_kept s x y (record n { value = v }) differs)
    ]
      where
        own : (w : Which) → link w (record n { value = v }) ≡ link w n
        own Which.A = refl
        own Which.B = refl

    pub sound_written : IsSound rewritten a b room
    sound_written =
        let size : slab_len rewritten ≡ slab_len s = len_written s x n (record n { value = v }) is in
        let sum_a : sum_by length (lists_of Which.A rewritten a) ≡ sum_by length (lists_of Which.A s a) = ap (sum_by length) (lists_same Which.A s rewritten a (same_link Which.A) h.a.tied) in
        let sum_b : sum_by length (lists_of Which.B rewritten b) ≡ sum_by length (lists_of Which.B s b) = ap (sum_by length) (lists_same Which.B s rewritten b (same_link Which.B) h.b.tied) in
        record {
          a = order_same Which.A s rewritten a (same_link Which.A) h.a;
          b = order_same Which.B s rewritten b (same_link Which.B) h.b;
          count_a = omega (arith, size, sum_a, h.count_a);
          count_b = omega (arith, size, sum_b, h.count_b);
          few = omega (arith, size, h.few);
          fits = h.fits;
          small = h.small;
        }

    pub seen_written : seen rewritten a b room ≡ seen_as.with_value (seen s a b room) x v
    seen_written = λ i. record { a = one Which.A a h.a i; b = one Which.B b h.b i; room = room }
      where
        was : IsSome (value_at s x)
        was = subst IsSome (sym (ap (option_map (λ (k : Node T). k.value)) is)) (search rules)

        now : value_at rewritten x ≡ Some v
        now = ap (option_map (λ (k : Node T). k.value)) (get_written s x n (record n { value = v }) is)

        one : (which : Which) (ends : List Ends) → InOrder which s ends → map (pairs rewritten) (lists_of which rewritten ends) ≡ map (revalued x v) (map (pairs s) (lists_of which s ends))
        one which ends order =
            ap (map (pairs rewritten)) (lists_same which s rewritten ends (same_link which) order.tied)
            ∙ all_revalued s rewritten x v (lists_of which s ends) was now
            (λ y ne. ap (option_map (λ (k : Node T). k.value)) (get_kept s x y (record n { value = v }) ne))

-- ---- at the values that the code has

module _ {T : Type 0} where
  pub sound_as : (s : Slab (Node T)) (a b a2 b2 : List Ends) (room : ℕ) → a2 ≡ a → b2 ≡ b → IsSound s a b room → IsSound s a2 b2 room
  sound_as s a b a2 b2 room same_a same_b h = subst (λ es. IsSound s es b2 room) (sym same_a) (subst (λ es. IsSound s a es room) (sym same_b) h)

  pub order_as : (which : Which) (s : Slab (Node T)) (ends after : List Ends) → after ≡ ends → InOrder which s ends → InOrder which s after
  order_as which s ends after same h = subst (λ es. InOrder which s es) (sym same) h

  pub in_a : (s : Slab (Node T)) (a b : List Ends) (room l : ℕ) (v : Lists T) → seen s a b room ≡ v → InOrder Which.A s a → l < length v.a → l < length a
  in_a s a b room l v is h within =
      let size : length v.a ≡ length a = ap (λ (x : Lists T). length x.a) (sym is) ∙ seen_size Which.A s a h in omega (arith, size, within)

  pub in_b : (s : Slab (Node T)) (a b : List Ends) (room l : ℕ) (v : Lists T) → seen s a b room ≡ v → InOrder Which.B s b → l < length v.b → l < length b
  in_b s a b room l v is h within =
      let size : length v.b ≡ length b = ap (λ (x : Lists T). length x.b) (sym is) ∙ seen_size Which.B s b h in omega (arith, size, within)

  pub live_seen : (s : Slab (Node T)) (a b : List Ends) (room x y : ℕ) (v : Lists T) → seen s a b room ≡ v → IsSound s a b room → y ≡ x → IsLive v x → ContainsKey s y
  live_seen s a b room x y v is h same on = live_key s a b room h y (subst (IsLive (seen s a b room)) (sym same) (subst (λ w. IsLive w x) (sym is) on))

  pub full_seen : (s : Slab (Node T)) (a b : List Ends) (room : ℕ) (v : Lists T) → seen s a b room ≡ v → IsSound s a b room → live v ≡ slab_len s
  full_seen s a b room v is h = ap live (sym is) ∙ live_is s a b room h

  pub both_seen : (s : Slab (Node T)) (a b : List Ends) (room : ℕ) (v : Lists T) → seen s a b room ≡ v → IsSound s a b room → live v ≡ sum_by length v.b
  both_seen s a b room v is h = subst (λ (w : Lists T). live w ≡ sum_by length w.b) is (live_both s a b room h)

  pub room_seen : (s : Slab (Node T)) (a b : List Ends) (room : ℕ) (v : Lists T) → seen s a b room ≡ v → v.room ≡ room
  room_seen s a b room v is = ap (λ (x : Lists T). x.room) (sym is)

  pub free_seen : (s : Slab (Node T)) (a b : List Ends) (room x y : ℕ) (v : Lists T) → seen s a b room ≡ v → get s x ≡ None → y ≡ x → IsFree v y
  free_seen s a b room x y v is none same = subst (IsFree v) (sym same) (subst (λ w. IsFree w x) is (not_found s x (lists_of Which.A s a) gone, not_found s x (lists_of Which.B s b) gone))
    where
      gone : value_at s x ≡ None
      gone = ap (option_map (λ (n : Node T). n.value)) none

  pub value_seen : (s : Slab (Node T)) (a b : List Ends) (room x y : ℕ) (v : Lists T) (n : Node T) → seen s a b room ≡ v → IsSound s a b room → get s y ≡ Some n → y ≡ x → (find_in x v.a ≡ Some n.value) × (find_in x v.b ≡ Some n.value)
  value_seen s a b room x y v n is h at same =
      subst (λ (z : ℕ). (find_in z v.a ≡ Some n.value) × (find_in z v.b ≡ Some n.value)) same
      (subst (λ (w : Lists T). (find_in y w.a ≡ Some n.value) × (find_in y w.b ≡ Some n.value)) is
      (seen_value Which.A s a h.a y n.value (ap (option_map (λ (m : Node T). m.value)) at), seen_value Which.B s b h.b y n.value (ap (option_map (λ (m : Node T). m.value)) at)))

  lists_kind : (which : Which) (s : Slab (Node T)) (a b : List Ends) (room : ℕ) → seen_as.lists which (seen s a b room) ≡ map (pairs s) (lists_of which s (of_kind which a b))
  lists_kind Which.A s a b room = refl
  lists_kind Which.B s a b room = refl

  pub next_seen : (which : Which) (s : Slab (Node T)) (a b : List Ends) (room x y : ℕ) (v : Lists T) (n : Node T) → seen s a b room ≡ v → IsSound s a b room → get s y ≡ Some n → y ≡ x → (link which n).next ≡ next_in x (seen_as.lists which v)
  next_seen which s a b room x y v n is h at same =
      sym (seen_next which s (of_kind which a b) (order_of s a b room h which) y n at)
      ∙ (ap (next_in y) (sym (lists_kind which s a b room)) ∙ (ap (λ w. next_in y (seen_as.lists which w)) is ∙ ap (λ (z : ℕ). next_in z (seen_as.lists which v)) same))

  in_kind : (which : Which) (s : Slab (Node T)) (a b : List Ends) (room l : ℕ) (v : Lists T) → seen s a b room ≡ v → IsSound s a b room → l < length (seen_as.lists which v) → l < length (of_kind which a b)
  in_kind which s a b room l v is h within =
      let size : length (seen_as.lists which v) ≡ length (of_kind which a b) =
      ap (λ w. length (seen_as.lists which w)) (sym is) ∙ (ap length (lists_kind which s a b room) ∙ seen_size which s (of_kind which a b) (order_of s a b room h which)) in
      omega (arith, size, within)

  pub first_seen : (which : Which) (s : Slab (Node T)) (a b a2 b2 ends : List Ends) (room l : ℕ) (v : Lists T) (d : Ends) → seen s a b room ≡ v → IsSound s a b room → ends ≡ of_kind which a2 b2 → a2 ≡ a → b2 ≡ b → l < length (seen_as.lists which v) → (get_or ends l d).front ≡ first_id (get_or (seen_as.lists which v) l [])
  first_seen which s a b a2 b2 ends room l v d is h same same_a same_b within =
      ap (λ es. (get_or es l d).front) (same ∙ (ap (λ es. of_kind which es b2) same_a ∙ ap (of_kind which a) same_b))
      ∙ (sym (seen_first which s (of_kind which a b) (order_of s a b room h which) l d (in_kind which s a b room l v is h within))
      ∙ (ap (λ ls. first_id (get_or ls l [])) (sym (lists_kind which s a b room)) ∙ ap (λ w. first_id (get_or (seen_as.lists which w) l [])) is))

  pub count_seen : (which : Which) (s : Slab (Node T)) (a b a2 b2 ends : List Ends) (room l : ℕ) (v : Lists T) (d : Ends) → seen s a b room ≡ v → IsSound s a b room → ends ≡ of_kind which a2 b2 → a2 ≡ a → b2 ≡ b → l < length (seen_as.lists which v) → (get_or ends l d).count ≡ length (get_or (seen_as.lists which v) l [])
  count_seen which s a b a2 b2 ends room l v d is h same same_a same_b within =
      ap (λ es. (get_or es l d).count) (same ∙ (ap (λ es. of_kind which es b2) same_a ∙ ap (of_kind which a) same_b))
      ∙ (sym (seen_count which s (of_kind which a b) (order_of s a b room h which) l d (in_kind which s a b room l v is h within))
      ∙ (ap (λ ls. length (get_or ls l [])) (sym (lists_kind which s a b room)) ∙ ap (λ w. length (get_or (seen_as.lists which w) l [])) is))

  pub seen_both : (s : Slab (Node T)) (a b a2 b2 : List Ends) (room : ℕ) → a2 ≡ a → b2 ≡ b → seen s a2 b2 room ≡ seen s a b room
  seen_both s a b a2 b2 room same_a same_b = ap (λ es. seen s es b2 room) same_a ∙ ap (λ es. seen s a es room) same_b

  pub as_which : (which own : Which) (s : Slab (Node T)) (ends : List Ends) (x l : ℕ) (t : Slab (Node T)) (after : List Ends) → which ≡ own → MovedLast which s ends x l t after → MovedLast own s ends x l t after
  as_which which own s ends x l t after is h = subst (λ w. MovedLast w s ends x l t after) is h

  pub removed_value : (s t u : Slab (Node T)) (a b a2 b2 : List Ends) (room x l m : ℕ) → IsSound s a b room → TakenOff Which.A s a x l t a2 → TakenOff Which.B t b x m u b2 → (v : Lists T) (y : ℕ) (n : Node T) → seen s a b room ≡ v → x ≡ y → get u x ≡ Some n → find_in y v.a ≡ Some n.value
  removed_value s t u a b a2 b2 room x l m h take_a take_b v y n is same at =
      subst (λ (z : ℕ). find_in z v.a ≡ Some n.value) same
      (subst (λ (w : Lists T). find_in x w.a ≡ Some n.value) is
      (value_before s t u a b a2 b2 room x l m h take_a take_b n.value (ap (option_map (λ (k : Node T). k.value)) at)))
