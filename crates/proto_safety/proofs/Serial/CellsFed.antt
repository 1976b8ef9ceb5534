-- One more packet that is fed changes nothing of what the items of a flow come to.
use Rattle.std.proofs.Common.{◌≡◌, ◌⊎◌, ℕ, List, [], ◌∷◌, ◌++◌, Option, Some, None, refl, sym, ◌∙◌, ap, subst, true, inl, inr, filter}
use Rattle.std.specs.Prelude.{◌==◌, ◌&&◌, nat_lt}
use Rattle.std.proofs.lemmas.Bool.{and_from}
use Rattle.std.proofs.Common.{eq-eqb}
use Rattle.rp_base.specs.declared.node.Packet.{Packet}
use Rattle.proto_data.specs.declared.message.Entry.{Entry}
use Rattle.rp_app.specs.Application.{Application, Delta, after, zeros}
use Rattle.key_table.specs.Table.{Key, same_key}
use Rattle.proto_model.specs.Feeds.{packet_at}
use Rattle.proto_model.specs.Committed.{is_in, is_closed}
use Rattle.proto_model.specs.SwitchState.{Switch}
use Rattle.proto_model.specs.World.{Journaled}
use Rattle.rp_base.specs.declared.legality.Fed.{Fed}
use Rattle.proto_safety.specs.Books.{In}
use Rattle.key_table.proofs.Tables.{same_key-refl}
use Rattle.proto_safety.proofs.Serial.SerialLists.{closing_in, epochs_in, journal_in, closed_in, serial_in, front_in}
use Rattle.proto_safety.proofs.Basics.NumberSplits.{below, at_number}
use Rattle.proto_safety.proofs.Serial.FlowSerial.{packs, packs-append, ran, MadeIn, PutIs, first_delta}
use Rattle.proto_safety.proofs.Serial.FlowCells.{CellsOf}
use Rattle.proto_safety.proofs.Serial.SwitchCells.{SwitchStands}
use Rattle.proto_safety.proofs.Basics.Members.{in_append, in_filter, in_flat_parts, in_middle, to_filter}

-- the items' packets are found as before
abbrev pub SameFound : List Fed → List Fed → List Journaled → Type 0
SameFound old new items = (j : Journaled) → In items j → packet_at new j.item.mark ≡ packet_at old j.item.mark

abbrev one_of : Option Packet → List Packet
one_of None = []
one_of (Some p) = p ∷ []

packs_one : (feeds : List Fed) (j : Journaled) → packs feeds (j ∷ []) ≡ one_of (packet_at feeds j.item.mark)
packs_one feeds j = one_case (packet_at feeds j.item.mark) refl
  where
    one_case : (o : Option Packet) → packet_at feeds j.item.mark ≡ o → packs feeds (j ∷ []) ≡ one_of o
    one_case None is = rw is refl
    one_case (Some p) is = rw is refl

packs_same : (old new : List Fed) (js : List Journaled) → SameFound old new js → packs new js ≡ packs old js
packs_same old new [] h = refl
packs_same old new (j ∷ js) h =
    packs-append new (j ∷ []) js
    ∙ (ap (λ l. l ++ packs new js) (packs_one new j ∙ (ap one_of (h j (inl refl)) ∙ sym (packs_one old j)))
    ∙ (ap (λ l. packs old (j ∷ []) ++ l) (packs_same old new js (λ x i. h x (inr i))) ∙ sym (packs-append old (j ∷ []) js)))

pub ran_same : (app : Application) (old new : List Fed) (js : List Journaled) → SameFound old new js → ran app new js ≡ ran app old js
ran_same app old new js h = ap (λ l. after app (zeros app.cell_count) l) (packs_same old new js h)

-- ---- what a flow's lists consist of

closed_items_in : (key : Key) (es : List Entry) (items : List Journaled) (e : ℕ) (j : Journaled) → In (closed_in key es items e) j → In items j
closed_items_in key es items e j i = (in_filter (is_in key e) items j (in_filter (is_closed (closing_in key e es)) (journal_in key items e) j i).0).0

pub front_items : (key : Key) (es : List Entry) (items : List Journaled) (e : ℕ) (j : Journaled) → In (front_in key es items e) j → In items j
front_items key es items e j i = let d = in_flat_parts (closed_in key es items) (filter (λ d. nat_lt d e) (epochs_in key es)) j i in closed_items_in key es items d.0 j d.1.1

-- an item of a serial list is one of all
pub serial_items : (key : Key) (es : List Entry) (items : List Journaled) (j : Journaled) → In (serial_in key es items) j → In items j
serial_items key es items j i = let d = in_flat_parts (closed_in key es items) (epochs_in key es) j i in closed_items_in key es items d.0 j d.1.1

pub journal_items : (key : Key) (items : List Journaled) (e : ℕ) (j : Journaled) → In (journal_in key items e) j → In items j
journal_items key items e j i = (in_filter (is_in key e) items j i).0

module _ (app : Application) (old new : List Fed) (es : List Entry) (items : List Journaled) (h : SameFound old new items) where
  part_same : (js : List Journaled) → ((j : Journaled) → In js j → In items j) → ran app new js ≡ ran app old js
  part_same js sub = ran_same app old new js (λ j i. h j (sub j i))

  front_part : (key : Key) (e : ℕ) (pre : List Journaled) → ((j : Journaled) → In pre j → In items j) → ran app new (front_in key es items e ++ pre) ≡ ran app old (front_in key es items e ++ pre)
  front_part key e pre sub = part_same (front_in key es items e ++ pre) (λ j i. either_case j (in_append (front_in key es items e) pre j i))
    where
      either_case : (j : Journaled) → In (front_in key es items e) j ⊎ In pre j → In items j
      either_case j (inl i) = front_items key es items e j i
      either_case j (inr i) = sub j i

  pub fed_cells : (key : Key) → CellsOf app old es items key → CellsOf app new es items key
  fed_cells key k =
      record {
        committed = λ f at. k.committed f at ∙ sym (part_same (serial_in key es items) (λ j i. serial_items key es items j i));
        made = λ e. record { at = λ pre j post is. made_case e pre j post is ((k.made e).at pre j post is) };
      }
    where
      in_pre : (pre : List Journaled) (j : Journaled) (post : List Journaled) (x : Journaled) → In pre x → In (pre ++ j ∷ post) x
      in_pre [] j post x i = absurd i
      in_pre (y ∷ ys) j post x (inl e) = inl e
      in_pre (y ∷ ys) j post x (inr i) = inr (in_pre ys j post x i)

      made_case : (e : ℕ) (pre : List Journaled) (j : Journaled) (post : List Journaled) → journal_in key items e ≡ pre ++ j ∷ post → MadeIn app old key (front_in key es items e ++ pre) j → MadeIn app new key (front_in key es items e ++ pre) j
      made_case e pre j post is m =
          let same : ran app new (front_in key es items e ++ pre) ≡ ran app old (front_in key es items e ++ pre) =
          front_part key e pre (λ x i. journal_items key items e x (subst (λ l. In l x) (sym is) (in_pre pre j post x i))) in
          record {
            packet = m.packet;
            fed_at = h j (journal_items key items e j (subst (λ l. In l j) (sym is) (in_middle pre post j))) ∙ m.fed_at;
            key_is = m.key_is;
            output_is = rw same m.output_is;
            dirty_is = rw same m.dirty_is;
          }

  pub fed_put : (key : Key) (e k : ℕ) (delta : Delta) → PutIs app old (front_in key es items e) (journal_in key items e) k delta → PutIs app new (front_in key es items e) (journal_in key items e) k delta
  fed_put key e k delta p =
      let same : ran app new (front_in key es items e ++ below k (journal_in key items e)) ≡ ran app old (front_in key es items e ++ below k (journal_in key items e)) =
      front_part key e (below k (journal_in key items e)) (λ j i. journal_items key items e j (in_filter (λ (x : Journaled). nat_lt x.item.number k) (journal_in key items e) j i).0) in
      record {
        delta_is = p.delta_is ∙ sym (first_same (at_number k (journal_in key items e)) (λ j i. journal_items key items e j (in_filter (λ (x : Journaled). x.item.number == k) (journal_in key items e) j i).0) same);
        clean = p.clean;
      }
    where
      first_same : {a b : List ℕ} (js : List Journaled) → ((j : Journaled) → In js j → In items j) → a ≡ b → first_delta app new a js ≡ first_delta app old b js
      first_same [] sub e = refl
      first_same (j ∷ js) sub e = rw (e, h j (sub j (inl refl))) refl

  pub fed_stands : (s : Switch) → SwitchStands app old es items s → SwitchStands app new es items s
  fed_stands s k =
      record {
        at = λ key slot e found leased.
            let t = k.at key slot e found leased in
            record {
              cells = t.cells ∙ sym (front_part key e (journal_in key items e) (λ j i. journal_items key items e j i));
              copies = λ c i of. fed_put key e c.number c.delta (t.copies c i of);
              numbers = t.numbers;
            };
      }

-- each item's packet is found and has its key, so one more fed packet changes none of them
pub items_found : (app : Application) (feeds : List Fed) (es : List Entry) (items : List Journaled) → ((key : Key) → CellsOf app feeds es items key) → (j : Journaled) → In items j →
    (p : Packet) × ((packet_at feeds j.item.mark ≡ Some p) × (app.key_of p ≡ Some j.item.key))
items_found app feeds es items h j i =
    let there : In (journal_in j.item.key items j.item.epoch) j = to_filter (is_in j.item.key j.item.epoch) items j i (own_key j.item.key j.item.epoch) in
    let d = decomposed (journal_in j.item.key items j.item.epoch) j there in
    let m = ((h j.item.key).made j.item.epoch).at d.0 j d.1 d.2 in (m.packet, (m.fed_at, m.key_is))
  where
    own_key : (key : Key) (e : ℕ) → (same_key key key && (e == e)) ≡ true
    own_key key e = and_from _ _ (same_key-refl key) (eq-eqb e e refl)

    decomposed : (js : List Journaled) (j : Journaled) → In js j → (pre : List Journaled) × (post : List Journaled) × (js ≡ pre ++ j ∷ post)
    decomposed [] j i = absurd i
    decomposed (x ∷ xs) j (inl e) = ([], xs, rw e refl)
    decomposed (x ∷ xs) j (inr i) = let r = decomposed xs j i in (x ∷ r.0, r.1, ap (λ l. x ∷ l) r.2)
