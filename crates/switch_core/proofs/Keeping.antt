-- How a slot's lease is kept, whatever stood in the slot's place.
use Rattle.std.proofs.Common.{◌≡◌, ◌<◌, ℕ, ◌+◌, List, [], ◌∷◌, ◌++◌, Option, Some, None, Bool, true, false, All, refl, ap, sym, ◌∙◌}
use Rattle.std.specs.Prelude.{if◌then◌else◌, is_some, ◌||◌, option_map}
use Rattle.std.specs.List.{AllByRecursion, list_any}
use Rattle.std.proofs.lemmas.List.Elements.{All-from_recursion}
use Rattle.std.proofs.lemmas.Bool.{false≢true}
use Rattle.std.proofs.lemmas.List.{append-nil}
use Rattle.key_table.specs.Table.{Key}
use Rattle.key_table.proofs.KeyTables.{put_put}
use Rattle.proto_model.specs.Slot.{Slot, Round}
use Rattle.proto_model.specs.SwitchState.{Copy, with_slot, is_of}
use Rattle.proto_model.specs.SwitchAlarm.{Walk, empty_put, ends_soon, snap_slot, strict_slot}
use Rattle.switch_core.specs.Walks.{Going, part_sent, round_begun, walk_of, wants_put}
use Rattle.switch_core.specs.States.{SwitchAt}

module _ (s : SwitchAt) (g : Going) (now : ℕ) (key : Key) (slot : Slot) (epoch expiry : ℕ) where
  -- the switch with the slot that was taken out
  abbrev Whole : Walk
  Whole = walk_of (record { state = with_slot s.state key slot; latest = s.latest }) g

  pub put_goes : wants_put s.state now key slot expiry ≡ true → empty_put (walk_of s g) now key slot epoch ≡ strict_slot Whole now key slot epoch expiry
  put_goes wants =
      over ∙ ap (λ b. if b then empty_put Whole now key slot epoch else Whole) (sym wants)
    where
      over : empty_put (walk_of s g) now key slot epoch ≡ empty_put Whole now key slot epoch
      over = rw put_put refl

  pub put_waits : wants_put s.state now key slot expiry ≡ false → Whole ≡ strict_slot Whole now key slot epoch expiry
  put_waits wants = ap (λ b. if b then empty_put Whole now key slot epoch else Whole) (sym wants)

  pub round_runs : (o : Option Round) → is_some {T = ℕ × ℕ} (option_map (λ (r : Round). (r.number, r.begun)) o) ≡ true → part_sent (walk_of s g) key slot epoch o ≡ snap_slot Whole now key slot epoch expiry o
  round_runs None runs = absurd (false≢true runs)
  round_runs (Some r) runs = rw put_put refl

  pub round_begins : (o : Option Round) → is_some {T = ℕ × ℕ} (option_map (λ (r : Round). (r.number, r.begun)) o) ≡ false → (is_some slot.ages.pre || ends_soon s.state now slot expiry) ≡ true →
      round_begun (walk_of s g) now key slot epoch ≡ snap_slot Whole now key slot epoch expiry o
  round_begins (Some r) runs due = absurd (false≢true (sym runs))
  round_begins None runs due = over ∙ ap (λ b. if b then round_begun Whole now key slot epoch else Whole) (sym due)
    where
      over : round_begun (walk_of s g) now key slot epoch ≡ round_begun Whole now key slot epoch
      over = rw put_put refl

  pub round_waits : (o : Option Round) → is_some {T = ℕ × ℕ} (option_map (λ (r : Round). (r.number, r.begun)) o) ≡ false → (is_some slot.ages.pre || ends_soon s.state now slot expiry) ≡ false → Whole ≡ snap_slot Whole now key slot epoch expiry o
  round_waits (Some r) runs due = absurd (false≢true (sym runs))
  round_waits None runs due = ap (λ b. if b then round_begun Whole now key slot epoch else Whole) (sym due)

  -- the first chunk of a round that begins
  pub part_begun :
      part_sent (walk_of s (record { sent = g.sent; begun = g.begun ++ record { key = key; epoch = epoch; round = slot.last + 1 } ∷ [] })) key
      (record slot { last = slot.last + 1; used = false; round = Some (record { number = slot.last + 1; begun = now; chunk = 0; cells = slot.cells }) }) epoch
      (Some (record { number = slot.last + 1; begun = now; chunk = 0; cells = slot.cells }))
      ≡ round_begun (walk_of s g) now key slot epoch
  part_begun = rw append-nil refl

-- where a flow has no copies, their numbers are below any
pub none_below : (key : Key) (n : ℕ) (copies : List Copy) → list_any (is_of key) copies ≡ false → All (λ (c : Copy). is_of key c ≡ true → c.number < n) copies
none_below key n copies none = All-from_recursion (λ (c : Copy). is_of key c ≡ true → c.number < n) copies (each copies none)
  where
    each : (cs : List Copy) → list_any (is_of key) cs ≡ false → AllByRecursion (λ (c : Copy). is_of key c ≡ true → c.number < n) cs
    each [] none = tt
    each (c ∷ cs) none = any_case (is_of key c) refl none (each cs)
      where
        any_case : (b : Bool) → is_of key c ≡ b → (b || list_any (is_of key) cs) ≡ false → (list_any (is_of key) cs ≡ false → AllByRecursion (λ (d : Copy). is_of key d ≡ true → d.number < n) cs) →
            AllByRecursion (λ (d : Copy). is_of key d ≡ true → d.number < n) (c ∷ cs)
        any_case true is none rest = absurd (false≢true (sym none))
        any_case false is none rest = (λ of. absurd (false≢true (sym is ∙ of)), rest none)
