-- What the two calls on a chain ask and leave, at the values that the code has.
use Rattle.std.proofs.Common.{◌≡◌, ℕ, ◌+◌, ◌<◌, ◌≤◌, List, [], ◌∷◌, ◌++◌, length, Option, Some, None, IfSome, refl, sym, ap, ◌∙◌, subst, arith, map, set, get_or, rules}
use Rattle.std.specs.Prelude.{option_map}
use Rattle.std.proofs.lemmas.List.{get_or-map, length-map, get_or-set_same}
use Rattle.slab.specs.Slab.{Slab, get, ContainsKey}
use Rattle.link_arena.specs.declared.node.Which.{Which}
use Rattle.link_arena.specs.declared.node.Link.{Link}
use Rattle.link_arena.specs.declared.node.Node.{Node}
use Rattle.link_arena.specs.declared.ends.Ends.{Ends}
use Rattle.link_arena.specs.Links.{Links, In, Tied, last_of, list_at, ends_of, put_next, put_prev, put_place, shorter, longer, link, link_at, edited, lists_of, InOrder, IsLoose, TakenOff, PutLast, MovedLast, off}
use Rattle.link_arena.proofs.Rows.{last_of_in, Split, split_in}
use Rattle.link_arena.proofs.Ties.{prev_in, next_in, own_list, list_at_off}
use Rattle.link_arena.proofs.Nodes.{in_key, contains_key, key_contained, same_both, edited_key, taken_off, put_last, bridged_nodes, joined_nodes}

-- the ends of one list
pub ends_at : (f : Links) (ends : List Ends) (lists : List (List ℕ)) (l : ℕ) (d : Ends) → Tied f ends lists → l < length ends → get_or ends l d ≡ ends_of (list_at lists l)
ends_at f ends lists l d h within = ap (λ es. get_or es l d) h.limits ∙ mapped lists l (subst (λ (es : List Ends). l < length es) h.limits within)
  where
    mapped : (ls : List (List ℕ)) (m : ℕ) → m < length (map ends_of ls) → get_or (map ends_of ls) m d ≡ ends_of (list_at ls m)
    mapped ls m lt = get_or-map ends_of ls m [] d (omega (arith, lt, length-map ls ends_of))

pub ends_count : (f : Links) (ends : List Ends) (lists : List (List ℕ)) → Tied f ends lists → length ends ≡ length lists
ends_count f ends lists h = ap length h.limits ∙ length-map lists ends_of

module _ {T : Type 0} where
  keys_in : (which : Which) (s : Slab (Node T)) (ends : List Ends) (lists : List (List ℕ)) (l : ℕ) (o : Option ℕ) → Tied (link_at which s) ends lists → ((p : ℕ) → o ≡ Some p → In (list_at lists l) p) → IfSome o (λ p. ContainsKey s p)
  keys_in which s ends lists l None h at = search rules
  keys_in which s ends lists l (Some p) h at =
      let n = in_key which s ends lists l p h (at p refl) in
      let key : ContainsKey s p = contains_key s p n.0 n.1 in search (rules, key)

  module _ (which : Which) (s : Slab (Node T)) (ends : List Ends) (x : ℕ) (n : Node T) (k : Link) (h : InOrder which s ends) (is : get s x ≡ Some n) (own : k ≡ link which n) where
    abbrev pub lists : List (List ℕ)
    lists = lists_of which s ends

    here : link_at which s x ≡ Some k
    here = ap (option_map (link which)) is ∙ ap Some (sym own)

    at : In (list_at lists k.list) x
    at = h.home x k here

    pub prev_key : IfSome k.prev (λ p. ContainsKey s p)
    prev_key = keys_in which s ends lists k.list k.prev h.tied (λ p e. prev_in (link_at which s) ends lists x k h.tied here at p e)

    next_key_before : IfSome k.next (λ p. ContainsKey s p)
    next_key_before = keys_in which s ends lists k.list k.next h.tied (λ p e. next_in (link_at which s) ends lists x k h.tied here at p e)

    pub next_key : (t : Slab (Node T)) → t ≡ edited which (put_next k.next) s k.prev → IfSome k.next (λ p. ContainsKey t p)
    next_key t e = moved_case k.next next_key_before
      where
        moved_case : (o : Option ℕ) → IfSome o (λ p. ContainsKey s p) → IfSome o (λ p. ContainsKey t p)
        moved_case None was = search rules
        moved_case (Some p) was =
            let key : ContainsKey t p = subst (λ (u : Slab (Node T)). ContainsKey u p) (sym e) (edited_key which (put_next k.next) s k.prev p was) in
            search (rules, key)

    pub list_within : k.list < length ends
    list_within = omega (arith, ends_count (link_at which s) ends lists h.tied, own_list (link_at which s) ends lists x k h.tied here at)

    pub end_is : (d : Ends) → get_or ends k.list d ≡ ends_of (list_at lists k.list)
    end_is d = ends_at (link_at which s) ends lists k.list d h.tied list_within

    pub some_there : (d : Ends) → 0 < (get_or ends k.list d).count
    some_there d =
        let count : (get_or ends k.list d).count ≡ length (list_at lists k.list) = ap (λ (e : Ends). e.count) (end_is d) in
        omega (arith, count, longer_than (list_at lists k.list) at)
      where
        longer_than : (xs : List ℕ) → In xs x → 0 < length xs
        longer_than [] i = absurd i
        longer_than (y ∷ ys) i = omega arith

    pub was_taken : (t : Slab (Node T)) → t ≡ bridged_nodes which s k → (e r : Ends) → r ≡ get_or ends k.list r → e ≡ shorter r k → TakenOff which s ends x k.list t (set ends k.list e)
    was_taken t nodes e r read limit =
        subst (λ (u : Slab (Node T)). TakenOff which s ends x k.list u (set ends k.list e)) (sym nodes)
        (subst (λ (b : Ends). TakenOff which s ends x k.list (bridged_nodes which s k) (set ends k.list b)) (sym (limit ∙ ap (λ (b : Ends). shorter b k) (read ∙ end_is r)))
        (subst (λ (j : Link). TakenOff which s ends x j.list (bridged_nodes which s j) (set ends j.list (shorter (ends_of (list_at lists j.list)) j))) (sym own)
        (taken_off which s ends x n h is)))

  module _ (which : Which) (s : Slab (Node T)) (ends : List Ends) (l x : ℕ) (h : IsLoose which s ends x) (there : ContainsKey s x) (within : l < length ends) where
    abbrev pub lists_loose : List (List ℕ)
    lists_loose = lists_of which s ends

    pub back_is : (d : Ends) → (get_or ends l d).back ≡ last_of None (list_at lists_loose l)
    back_is d = ap (λ (e : Ends). e.back) (ends_at (link_at which s) ends lists_loose l d h.tied within)

    pub count_is : (d : Ends) → (get_or ends l d).count ≡ length (list_at lists_loose l)
    count_is d = ap (λ (e : Ends). e.count) (ends_at (link_at which s) ends lists_loose l d h.tied within)

    pub back_key : (d : Ends) → IfSome (get_or ends l d).back (λ p. ContainsKey s p)
    back_key d =
        subst (λ (o : Option ℕ). IfSome o (λ p. ContainsKey s p)) (sym (back_is d))
        (keys_in which s ends lists_loose l (last_of None (list_at lists_loose l)) h.tied (λ p e. last_of_in (list_at lists_loose l) p e))

    pub was_put : (m t : Slab (Node T)) (e q r : Ends) → q ≡ get_or ends l q → r ≡ get_or ends l r → m ≡ edited which (put_next (Some x)) s q.back → t ≡ edited which (put_place l q.back) m (Some x) → e ≡ longer r x → PutLast which s ends l x t (set ends l e)
    was_put m t e q r read again first nodes limit =
        let n = key_contained s x there in
        subst (λ (u : Slab (Node T)). PutLast which s ends l x u (set ends l e))
        (sym (nodes ∙ (ap (λ (u : Slab (Node T)). edited which (put_place l q.back) u (Some x)) first ∙ ap (λ (o : Option ℕ). joined_nodes which s l o x) (ap (λ (b : Ends). b.back) read ∙ back_is q))))
        (subst (λ (b : Ends). PutLast which s ends l x (joined_nodes which s l (last_of None (list_at lists_loose l)) x) (set ends l b))
        (sym (limit ∙ ap (λ (b : Ends). longer b x) (again ∙ ends_at (link_at which s) ends lists_loose l r h.tied within)))
        (put_last which s ends l x n.0 h n.1 (omega (arith, within, ends_count (link_at which s) ends lists_loose h.tied))))

  -- how long a list is after a node was taken off
  pub length_after : (which : Which) (s : Slab (Node T)) (ends : List Ends) (x l : ℕ) (t : Slab (Node T)) (e : Ends) → l < length ends → TakenOff which s ends x l t (set ends l e) → length (list_at (lists_of which t (set ends l e)) l) ≡ e.count
  length_after which s ends x l t e within h =
      let at : get_or (set ends l e) l e ≡ ends_of (list_at (lists_of which t (set ends l e)) l) =
      ends_at (link_at which t) (set ends l e) (lists_of which t (set ends l e)) l e h.loose.tied (omega (arith, within, h.size)) in
      sym (ap (λ (k : Ends). k.count) (sym (get_or-set_same ends l e e within) ∙ at))

  pub was_moved : (which : Which) (s : Slab (Node T)) (ends : List Ends) (x l : ℕ) (m t : Slab (Node T)) (mid after : List Ends) → TakenOff which s ends x l m mid → PutLast which m mid l x t after → MovedLast which s ends x l t after
  was_moved which s ends x l m t mid after taken put =
      record {
        was = taken.was;
        order = put.order;
        lists =
            put.lists
            ∙ ap (λ (ls : List (List ℕ)). set ls l (list_at ls l ++ x ∷ [])) taken.lists
            ∙ ap (λ xs. set (map (off x) (lists_of which s ends)) l (xs ++ x ∷ [])) (list_at_off x (lists_of which s ends) l);
        rest = same_both which s m t taken.rest put.rest;
      }
