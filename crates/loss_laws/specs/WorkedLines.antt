-- The lines of the worked run in snapshot mode, and the same ones with a fault.
use Rattle.std.specs.Prelude.{ℕ, List, [], ◌∷◌, ◌++◌, replicate}
use Rattle.rp_base.specs.declared.line.Line.{Line}

-- the release lines of the worked run
abbrev pub worked_releases : List Line
worked_releases =
    Line.Release 3 1 7 (1 ∷ 0 ∷ []) ∷ Line.Release 5 5 7 (2 ∷ 0 ∷ []) ∷ Line.Release 6 6 7 (1 ∷ 63 ∷ []) ∷ Line.Release 12 12 7 (3 ∷ 0 ∷ []) ∷ Line.Release 20 18 7 (2 ∷ 0 ∷ [])
    ∷ []

-- with lines at the end: of epoch 1 so many of these marks are kept, epoch 2 has those, and the first cell is this
abbrev pub worked_lines : ℕ → List ℕ → List ℕ → ℕ → List Line
worked_lines kept first second cell =
    worked_releases ++ Line.Epoch (98 ∷ []) 1 kept first ∷ Line.Epoch (98 ∷ []) 2 0 second ∷ Line.Cells (98 ∷ []) (cell ∷ replicate 63 0) ∷ Line.End ∷ []
