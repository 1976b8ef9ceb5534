-- What a switch's step releases: the plain output of a packet without a key, or the output of an item of the serial list.
use Rattle.std.proofs.Common.{◌≡◌, ℕ, ◌≤◌, List, [], ◌∷◌, Option, Some, None, refl, sym, subst, true, false, Bool, inl, inr, eq-eqb}
use Rattle.std.specs.Prelude.{if◌then◌else◌}
use Rattle.std.proofs.lemmas.Bool.{and_from, le-leb}
use Rattle.std.proofs.lemmas.List.Elements.{filter_map-append}
use Rattle.rp_base.specs.declared.node.Packet.{Packet}
use Rattle.rp_base.specs.declared.node.Output.{Output}
use Rattle.proto_data.specs.declared.message.Entry.{Entry}
use Rattle.proto_data.specs.declared.message.Carried.{Carried}
use Rattle.rp_app.specs.Application.{Application, zeros}
use Rattle.proto_data.specs.Carrying.{output_of}
use Rattle.key_table.specs.Table.{Key}
use Rattle.proto_model.specs.Ring.{Ring, remembers}
use Rattle.proto_model.specs.Feeds.{packet_at, key_at}
use Rattle.proto_model.specs.Committed.{epoch_granted, is_in, is_closed}
use Rattle.proto_model.specs.SwitchOutcomes.{held_output}
use Rattle.proto_model.specs.World.{Journaled}
use Rattle.rp_base.specs.declared.legality.Fed.{Fed}
use Rattle.proto_safety.specs.Books.{In}
use Rattle.proto_safety.proofs.Serial.SerialLists.{closing_in, epochs_in, journal_in, closed_in, serial_in}
use Rattle.key_table.proofs.Tables.{same_key-refl}
use Rattle.proto_safety.proofs.Basics.Members.{in_flat, to_append, to_filter}

-- ---- members of the serial list

-- a granted epoch is among the epochs
pub granted_epoch : (key : Key) (es : List Entry) (e s i m : ℕ) → In es (Entry.Grant key e s i m) → In (epochs_in key es) e
granted_epoch key [] e s i m j = absurd j
granted_epoch key (x ∷ xs) e s i m (inl is) =
    let one : epochs_in key (Entry.Grant key e s i m ∷ []) ≡ e ∷ [] = rw (same_key-refl key) refl in
    subst (λ l. In l e) (sym (filter_map-append (epoch_granted key) (x ∷ []) xs))
    (to_append (epochs_in key (x ∷ [])) (epochs_in key xs) e (inl (subst (λ y. In (epochs_in key (y ∷ [])) e) (sym is) (subst (λ l. In l e) (sym one) (inl refl)))))
granted_epoch key (x ∷ xs) e s i m (inr j) =
    subst (λ l. In l e) (sym (filter_map-append (epoch_granted key) (x ∷ []) xs)) (to_append (epochs_in key (x ∷ [])) (epochs_in key xs) e (inr (granted_epoch key xs e s i m j)))

pub closed_below : (c : ℕ) (o : Option ℕ) (j : Journaled) → o ≡ Some c → j.item.number ≤ c → is_closed o j ≡ true
closed_below c o j is le = rw is (le-leb j.item.number c le)

pub serial_member : (key : Key) (es : List Entry) (items : List Journaled) (e c s i m : ℕ) (j : Journaled) → In es (Entry.Grant key e s i m) → closing_in key e es ≡ Some c → j.item.number ≤ c → In items j → j.item.key ≡ key → j.item.epoch ≡ e → In (serial_in key es items) j
serial_member key es items e c s i m j grant closing le there of present =
    let own : is_in key e j ≡ true = rw (of, present) (and_from _ _ (same_key-refl key) (eq-eqb e e refl)) in
    in_flat (closed_in key es items) (epochs_in key es) e j (granted_epoch key es e s i m grant)
    (to_filter (is_closed (closing_in key e es)) (journal_in key items e) j (to_filter (is_in key e) items j there own) (closed_below c (closing_in key e es) j closing le))

-- what was released is the plain output of a packet without a key, or that of an item of the serial list
pub data Shown (app : Application) (feeds : List Fed) (es : List Entry) (items : List Journaled) (o : Output) : Type 0 where
  keyless : (p : Packet) → packet_at feeds o.mark ≡ Some p → app.key_of p ≡ None → (app.plain (zeros app.cell_count) p).1 ≡ Some o → Shown app feeds es items o
  of_item : (key : Key) (j : Journaled) → In (serial_in key es items) j → j.item.mark ≡ o.mark → j.output ≡ Some o → key_at app feeds o.mark ≡ Some key → Shown app feeds es items o

-- an Ack's output
pub held_is : (ring : Ring) (load : Option Carried) (o : Output) → held_output ring load ≡ Some o → (c : Carried) × ((load ≡ Some c) × (output_of c ≡ o))
held_is ring None o is = cc
held_is ring (Some c) o is = held_case (remembers ring c.mark) is
  where
    held_case : (b : Bool) → (if b then Some (output_of c) else None) ≡ Some o → (d : Carried) × ((Some c ≡ Some d) × (output_of d ≡ o))
    held_case true is = (c, (refl, cc))
    held_case false is = cc
