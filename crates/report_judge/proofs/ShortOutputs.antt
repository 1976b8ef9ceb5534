-- Outputs that are legal are short, since each is one of the application.
use Rattle.std.proofs.Common.{◌≡◌, ◌∙◌, ℕ, ◌≤◌, List, [], ◌∷◌, Option, Some, None, length, refl, subst}
use Rattle.std.proofs.lemmas.List.{length-replicate}
use Rattle.rp_base.specs.declared.legality.Fed.{Fed}
use Rattle.rp_base.specs.declared.legality.Flow.{Flow}
use Rattle.rp_base.specs.declared.legality.Released.{Released}
use Rattle.rp_base.specs.declared.node.Output.{Output}
use Rattle.rp_base.specs.declared.node.Packet.{Packet}
use Rattle.key_table.specs.Table.{Key}
use Rattle.rp_app.specs.Application.{Application, IsApplication, IsOutputOf, after, zeros}
use Rattle.rp_app.proofs.Deltas.{length-written}
use Rattle.proto_model.specs.Feeds.{Each, key_at, packets_at}
use Rattle.proto_model.specs.Legal.{IsOutputIn, Legal, folded, marks_before, marks_of}
use Rattle.proto_safety.specs.Books.{In}
use Rattle.proto_safety.proofs.Basics.Eachs.{each_all, each_in}

cells_stay : (app : Application) (ps : List Packet) (cells : List ℕ) → length (after app cells ps) ≡ length cells
cells_stay app [] cells = refl
cells_stay app (p ∷ ps) cells = cells_stay app ps _ ∙ length-written cells (app.plain cells p).0

module _ (app : Application) (is : IsApplication app) (feeds : List Fed) where
  short_in : (cells : List ℕ) (out : Output) → length cells ≡ app.cell_count → IsOutputIn app feeds cells out → length out.bytes ≤ 1500
  short_in cells out many of = let h : IsOutputOf of.0 (Some out) = subst (λ o. IsOutputOf of.0 o) of.2 (is.outputs cells of.0 many) in h.1

  zeros_many : length (zeros app.cell_count) ≡ app.cell_count
  zeros_many = length-replicate app.cell_count 0

  pub legal_short : (releases : List Released) (flows : List Flow) → Legal app feeds releases flows → Each (λ (r : Released). length r.output.bytes ≤ 1500) releases
  legal_short releases flows legal = each_all (λ (r : Released). length r.output.bytes ≤ 1500) releases (λ r i. by r i (key_at app feeds r.output.mark) refl)
    where
      by : (r : Released) → In releases r → (o : Option Key) → key_at app feeds r.output.mark ≡ o → length r.output.bytes ≤ 1500
      by r i None none = short_in (zeros app.cell_count) r.output zeros_many (each_in (λ (r : Released). key_at app feeds r.output.mark ≡ None → IsOutputIn app feeds (zeros app.cell_count) r.output) releases r legal.released_without_key i none)
      by r i (Some key) keyed =
          let before : List ℕ = marks_before (marks_of flows key) r.output.mark in
          short_in (folded app feeds before) r.output (cells_stay app (packets_at feeds before) (zeros app.cell_count) ∙ zeros_many) (each_in _ releases r legal.released_from_list i key keyed).1
