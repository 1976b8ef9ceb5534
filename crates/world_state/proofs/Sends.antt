-- Messages that are sent one after the other.
use Rattle.std.proofs.Common.{◌≡◌, ℕ, suc, ◌+◌, ◌<◌, List, [], ◌∷◌, ◌++◌, length, get_or, take, refl, sym, ap, ◌∙◌, arith, append_assoc, length-append}
use Rattle.rp_base.specs.declared.line.Line.{Line as Shown}
use Rattle.proto_data.specs.declared.message.Msg.{Msg}
use Rattle.proto_model.specs.Lines.{send_line, send_lines}
use Rattle.run_history.specs.Shown.{line_of, shown}
use Rattle.world_state.proofs.Taking.{next_item}
use Rattle.run_history.proofs.ShownLines.{shown-both}

sends_behind : (event frame : ℕ) (ms : List Msg) (m : Msg) → send_lines event frame (ms ++ m ∷ []) ≡ send_lines event frame ms ++ send_line event (frame + length ms) m ∷ []
sends_behind event frame [] m = let none : frame + 0 ≡ frame = omega arith in ap (λ n. send_line event n m ∷ []) (sym none)
sends_behind event frame (k ∷ ks) m =
    let next : frame + 1 + length ks ≡ frame + suc (length ks) = omega arith in
    ap (λ ls. send_line event frame k ∷ ls) (sends_behind event (frame + 1) ks m ∙ ap (λ n. send_lines event (frame + 1) ks ++ send_line event n m ∷ []) next)

module _ (event : ℕ) (before : List Msg) (sent : List Msg) (i : ℕ) (m : Msg) (less : i < length sent) (is : m ≡ get_or sent i m) where
  next : take (i + 1) sent ≡ take i sent ++ m ∷ []
  next = next_item sent i m m less refl is

  -- the frames with one more
  pub frames_more : (frames frames2 : List Msg) → frames ≡ before ++ take i sent → frames2 ≡ frames ++ m ∷ [] → frames2 ≡ before ++ take (i + 1) sent
  frames_more frames frames2 old new = new ∙ ap (λ fs. fs ++ m ∷ []) old ∙ append_assoc before (take i sent) (m ∷ []) ∙ ap (λ ms. before ++ ms) (sym next)

  -- the lines with one more
  pub lines_more : (frames : List Msg) (first lines lines2 : List Shown) → frames ≡ before ++ take i sent → lines ≡ first ++ shown (send_lines event (length before) (take i sent)) →
      lines2 ≡ lines ++ line_of (send_line event (length frames) m) ∷ [] → lines2 ≡ first ++ shown (send_lines event (length before) (take (i + 1) sent))
  lines_more frames first lines lines2 old showed new =
      let size : length frames ≡ length before + length (take i sent) = ap length old ∙ length-append before (take i sent) in
      let sends = send_lines event (length before) (take i sent) in
      let last = send_line event (length before + length (take i sent)) m in
      new
      ∙ (λ k. showed k ++ line_of (send_line event (size k) m) ∷ [])
      ∙ append_assoc first (shown sends) (line_of last ∷ [])
      ∙ ap (λ ls. first ++ ls) (sym (shown-both sends (last ∷ [])))
      ∙ ap (λ ls. first ++ shown ls) (sym (sends_behind event (length before) (take i sent) m) ∙ ap (send_lines event (length before)) (sym next))
